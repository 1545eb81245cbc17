-- The decisions of a step: four words each, at most 129.
use Rattle.std.specs.Prelude.{◌≡◌, List, [], ◌∷◌, ◌++◌, ℕ, ◌<◌, length, take, set, replicate}
use Rattle.small.specs.Small.{onward, onward_take}
use Rattle.decision_log.specs.declared.Kind.{Kind}
use Rattle.decision_log.specs.declared.Kind.TheVariants.{Arrived, Failed, Completed, Evicted, Started}
use Rattle.decision_log.specs.declared.Decision.{Decision}
use Rattle.decision_log.specs.declared.Log.{Log}

-- the event's own, and one for each job
abbrev pub most : ℕ
most = 129

-- 1 arrived, 2 failed, 3 completed, 4 evicted, 5 started
abbrev pub kind_word : Kind → ℕ
kind_word Arrived = 1
kind_word Failed = 2
kind_word Completed = 3
kind_word Evicted = 4
kind_word Started = 5

-- what stands in a table where there is no decision
unfoldable pub no_decision : Decision
no_decision = record { time = 0; kind = Arrived; job = 0; other = 0 }

unfoldable pub empty_log : Log
empty_log = record { table = replicate most no_decision; count = 0 }

-- One more decision; a full log stays as it is.
unfoldable pub told : Log → ℕ → Kind → ℕ → ℕ → Log
told log time kind job other = record {
  table = set log.table log.count (record { time = time; kind = kind; job = job; other = other });
  count = onward log.count most;
}

-- The decisions so far.
abbrev pub decisions : Log → List Decision
decisions log = take log.count log.table

-- A decision is four words: time bits, kind, job, other.
abbrev pub words_of : Decision → List ℕ
words_of d = d.time ∷ kind_word d.kind ∷ d.job ∷ d.other ∷ []

-- The words of several decisions, one after the other.
unfoldable pub words : List Decision → List ℕ
words [] = []
words (d ∷ ds) = words_of d ++ words ds

-- with room left the decision stands behind those before it
pub told_behind : (log : Log) (time : ℕ) (kind : Kind) (job other : ℕ) → length log.table ≡ most → log.count < most →
    decisions (told log time kind job other) ≡ decisions log ++ (record { time = time; kind = kind; job = job; other = other } ∷ [])
unfolding told
told_behind log time kind job other e h =
    onward_take log.table log.count most (record { time = time; kind = kind; job = job; other = other }) e h
