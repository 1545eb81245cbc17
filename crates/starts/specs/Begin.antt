-- The placed jobs start in order: each gets its start, its completion is queued, and totals and decisions tell it.
use Rattle.std.specs.Prelude.{◌≡◌, refl, Bool, false, ◌&&◌, List, [], ◌∷◌, ℕ, eqb, get_or, set, Float}
use Rattle.std.proofs.Common.{ap}
use Rattle.laws.specs.Choice.{pick}
use Rattle.model.specs.Job.{no_job}
use Rattle.model.specs.Number.{permitted, bits_of}
use Rattle.model.specs.declared.event.Event.{Event}
use Rattle.model.specs.declared.event.EventKind.TheVariants.{Completion}
use Rattle.model.specs.declared.job.Ask.{Ask}
use Rattle.model.specs.declared.setting.Options.{Options}
use Rattle.model.specs.declared.job.Job.{Job}
use Rattle.decision_log.specs.Log.{told}
use Rattle.decision_log.specs.declared.Kind.TheVariants.{Started}
use Rattle.life.specs.Life as Life
use Rattle.noted.specs.Noted as Noted
use Rattle.room.specs.Ahead.{whole_ahead, queued}
use Rattle.room.specs.declared.ahead.Next.{Next}
use Rattle.room.specs.declared.ahead.Ahead.{Ahead}
use Rattle.starts.specs.Turns.{folded}
use Rattle.starts.specs.declared.begin.Placing.{Placing}
use Rattle.starts.specs.declared.begin.Begun.{Begun}
use Rattle.starts.specs.declared.begin.Beginning.{Beginning}

-- what stands in a table where nothing is placed
unfoldable pub no_placing : Placing
no_placing = record { job = 0; cut = false; penalised = false }

-- GPUs, or slices of a MIG job
abbrev pub amount : Ask → ℕ
amount ask = pick (eqb ask.profile 0) ask.count ask.slices

-- one more test of the numbers that are stored
abbrev pub also : Ahead → Bool → Ahead
also a good = record { events = a.events; next = a.next; ok = a.ok && good }

-- the same of what is kept beside the room
abbrev pub also_next : Next → Bool → Next
also_next a good = record { next = a.next; ok = a.ok && good }

-- and of the whole, put together
pub also_whole : (a : Next) (events : List Event) (good : Bool) (b : Ahead) → record { events = events; next = a.next; ok = a.ok } ≡ b →
    record { events = events; next = a.next; ok = a.ok && good } ≡ also b good
also_whole a events good b e = ap (λ (x : Ahead). also x good) e

-- what starts change, with the tables that were lent
abbrev pub whole_begun : Beginning → List Job → List Event → Begun
whole_begun b jobs room = record { jobs = jobs; ahead = whole_ahead b.ahead room; totals = b.totals; log = b.log }

-- A start: delays are added to the clock, the completion is queued at start + remaining × multiplier under the new run generation; start, waited and added runtime have to be permitted too.
unfoldable pub begun : Options → Float → Begun → Placing → Begun
begun options clock b p =
    let j = get_or b.jobs p.job no_job in
    let at = Life.start_at j clock options p.cut in
    let multiplier = Life.multiplier_of options p.penalised in
    let s = Life.started j at in
    let totals = Noted.started b.totals p.cut p.penalised j.remaining multiplier in
    record {
      jobs = set b.jobs p.job s;
      ahead = also (queued b.ahead (Life.completion_at j at multiplier) Completion p.job s.run)
          ((permitted at && permitted s.waited) && permitted totals.added);
      totals = totals;
      log = told b.log (bits_of at) Started p.job (amount j.ask);
    }

-- One after the other, in the order of placing.
unfoldable pub begun_all : Options → Float → Begun → List Placing → Begun
begun_all options clock b [] = b
begun_all options clock b (p ∷ ps) = begun_all options clock (begun options clock b p) ps

-- ---- the loop over the placed jobs

pub begun_folded : (options : Options) (clock : Float) (b : Begun) (placed : List Placing) → begun_all options clock b placed ≡ folded (begun options clock) b placed
unfolding begun_all folded
begun_folded options clock b [] = refl
begun_folded options clock b (p ∷ ps) = begun_folded options clock (begun options clock b p) ps
