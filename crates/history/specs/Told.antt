-- What a list of decisions tells, read off the decisions alone: who was started and evicted how often, who runs, and what a tenant's running jobs hold.
use Rattle.std.specs.Prelude.{Bool, true, false, ◌&&◌, List, [], ◌∷◌, ℕ, zero, suc, ◌+◌, eqb, get_or}
use Rattle.laws.specs.Choice.{pick}
use Rattle.laws.specs.Sums.{sum_over, bit}
use Rattle.model.specs.Job.{no_job}
use Rattle.model.specs.declared.job.Job.{Job}
use Rattle.decision_log.specs.declared.Kind.{Kind}
use Rattle.decision_log.specs.declared.Kind.TheVariants.{Arrived, Failed, Completed, Evicted, Started}
use Rattle.decision_log.specs.declared.Decision.{Decision}

abbrev pub is_evicted : Kind → Bool
is_evicted Arrived = false
is_evicted Failed = false
is_evicted Completed = false
is_evicted Evicted = true
is_evicted Started = false

abbrev pub is_started : Kind → Bool
is_started Arrived = false
is_started Failed = false
is_started Completed = false
is_started Evicted = false
is_started Started = true

-- how many decisions of such a kind name the job
abbrev pub told_of : (Kind → Bool) → ℕ → List Decision → ℕ
told_of test k h = sum_over (λ d. bit (test d.kind && eqb d.job k)) h

-- How often the job was evicted.
abbrev pub evictions_of : ℕ → List Decision → ℕ
evictions_of k h = told_of is_evicted k h

-- How often it was started.
abbrev pub starts_of : ℕ → List Decision → ℕ
starts_of k h = told_of is_started k h

-- a start says that a job runs, an eviction and a completion that it does not
abbrev pub says_runs : Kind → Bool → Bool
says_runs Arrived before = before
says_runs Failed before = before
says_runs Completed before = false
says_runs Evicted before = false
says_runs Started before = true

abbrev pub after_one : ℕ → Bool → Decision → Bool
after_one k before d = pick (eqb d.job k) (says_runs d.kind before) before

unfoldable pub runs_from : ℕ → Bool → List Decision → Bool
runs_from k before [] = before
runs_from k before (d ∷ h) = runs_from k (after_one k before d) h

-- Whether the job runs after these decisions; before the first it does not.
abbrev pub runs_after : List Decision → ℕ → Bool
runs_after h k = runs_from k false h

-- f of each number below n, added up
unfoldable pub sum_to : (ℕ → ℕ) → ℕ → ℕ
sum_to f zero = 0
sum_to f (suc n) = sum_to f n + f n

-- the GPU count of the job, if it is the tenant's and runs
abbrev pub held_one : List Job → ℕ → List Decision → ℕ → ℕ
held_one jobs tenant h k = let ask = (get_or jobs k no_job).ask in pick (runs_after h k && eqb ask.tenant tenant) ask.count 0

-- The GPU counts of the tenant's running jobs, summed from the decisions; jobs are the n loaded ones. A tenant is its number plus 1.
abbrev pub held_after : List Job → ℕ → ℕ → List Decision → ℕ
held_after jobs n tenant h = sum_to (held_one jobs tenant h) n
