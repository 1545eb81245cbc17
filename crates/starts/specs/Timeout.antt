-- Timeouts: a gang job with a timeout above 0 that waits gets one, under its present generation.
use Rattle.std.specs.Prelude.{◌≡◌, refl, List, [], ◌∷◌, ℕ, get_or, Float}
use Rattle.std.specs.Float.{binary64}
use Rattle.std.specs.Float.Ieee.{add}
use Rattle.laws.specs.Choice.{pick}
use Rattle.model.specs.Job.{no_job}
use Rattle.model.specs.declared.event.EventKind.TheVariants.{Timeout}
use Rattle.model.specs.declared.job.Job.{Job}
use Rattle.life.specs.Life.{timed}
use Rattle.room.specs.Ahead.{queued}
use Rattle.room.specs.declared.ahead.Ahead.{Ahead}
use Rattle.starts.specs.Turns.{folded}

-- a timeout a full period from a time on
unfoldable pub timeout_queued : Ahead → ℕ → Job → Float → Ahead
timeout_queued a id j from = pick (timed j.ask) (queued a (add binary64 from j.ask.timeout) Timeout id j.timeouts) a

-- The victims' timeouts, from the clock on, in the order of eviction.
unfoldable pub timeouts_queued : Float → List Job → Ahead → List ℕ → Ahead
timeouts_queued clock jobs a [] = a
timeouts_queued clock jobs a (v ∷ vs) = timeouts_queued clock jobs (timeout_queued a v (get_or jobs v no_job) clock) vs

-- ---- the loop over the victims

-- the timeout of one victim
abbrev pub victim_queued : Float → List Job → Ahead → ℕ → Ahead
victim_queued clock jobs a v = timeout_queued a v (get_or jobs v no_job) clock

pub timeouts_folded : (clock : Float) (jobs : List Job) (a : Ahead) (victims : List ℕ) → timeouts_queued clock jobs a victims ≡ folded (victim_queued clock jobs) a victims
unfolding timeouts_queued folded
timeouts_folded clock jobs a [] = refl
timeouts_folded clock jobs a (v ∷ vs) = timeouts_folded clock jobs (victim_queued clock jobs a v) vs
