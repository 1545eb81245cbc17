-- What a job has queued beyond its arrival, read off its record; nine events a job at most.
use Rattle.std.specs.Prelude.{◌≡◌, refl, List, ℕ, ◌+◌, ◌*◌, ◌≤◌, ◌<◌, ◌%◌, ◌^◌, length, take, set, Float}
use Rattle.std.proofs.Common.{ap, ◌∙◌, ⊎_elim, arith, length-take, get_or-set_other}
use Rattle.laws.specs.Choice.{pick}
use Rattle.laws.specs.Tests.{split, le_or_lt}
use Rattle.laws.specs.Lists.{All, all_of, all_take}
use Rattle.laws.specs.Sums.{sum_over, bit, sum_set, sum_most, sum_first}
use Rattle.model.specs.Job.{no_job, new_job}
use Rattle.model.specs.declared.job.Job.{Job}
use Rattle.model.specs.declared.job.JobState.TheVariants.{Pending, Waiting, Placed, Running}
use Rattle.life.specs.Life as Life
use Rattle.life.specs.Life.{timed}
use Rattle.history.specs.Good.{job_at, JobOk, begun, came, begun_most, came_most}

-- Its completions, one a start; and, of a gang job with a timeout, one at its arrival and one at each eviction.
unfoldable pub events_of : Job → ℕ
events_of j = j.run + pick (timed j.ask) (came j.state + j.evictions) 0

-- at most eight
pub events_few : (j : Job) → JobOk j → events_of j ≤ 8
unfolding events_of
events_few j o =
    let b : begun j.state ≤ 1 = begun_most j.state in
    let c : came j.state ≤ 1 = came_most j.state in
    split (timed j.ask) (λ t. rw t (omega (arith, b, c, o.run_is, o.few))) (λ f. rw f (omega (arith, b, o.run_is, o.few)))

-- ---- what each change adds

pub owed_waits : (j : Job) (clock : Float) → j.state ≡ Pending → events_of (Life.waits j clock) ≡ events_of j + bit (timed j.ask)
unfolding events_of Life.waits
owed_waits j clock e = split (timed j.ask) (λ t. rw (t, e) (omega arith)) (λ f. rw f (omega arith))

pub owed_fails : (j : Job) (clock : Float) → j.state ≡ Waiting → events_of (Life.fails j clock) ≡ events_of j
unfolding events_of Life.fails
owed_fails j clock e = rw e

pub owed_ends : (j : Job) → j.state ≡ Running → events_of (Life.ends j) ≡ events_of j
unfolding events_of Life.ends
owed_ends j e = rw e

pub owed_evicted : (j : Job) (clock : Float) → j.state ≡ Running → j.evictions < 3 → events_of (Life.evicted j clock) ≡ events_of j + bit (timed j.ask)
unfolding events_of Life.evicted
owed_evicted j clock e l =
    let m : (j.evictions + 1) % 2 ^ 32 ≡ j.evictions + 1 = omega (arith, l) in
    split (timed j.ask) (λ t. rw (t, e, m) (omega arith)) (λ f. rw f (omega arith))

pub owed_placed : (j : Job) → j.state ≡ Waiting → events_of (Life.placed j) ≡ events_of j
unfolding events_of Life.placed
owed_placed j e = rw e

pub owed_started : (j : Job) (at : Float) → j.state ≡ Placed → j.run < 9 → events_of (Life.started j at) ≡ events_of j + 1
unfolding events_of Life.started
owed_started j at e l =
    let m : (j.run + 1) % 2 ^ 32 ≡ j.run + 1 = omega (arith, l) in
    rw (e, m) (omega arith)

-- no job has queued nothing
pub owed_none : events_of no_job ≡ 0
unfolding events_of no_job new_job
owed_none = refl

-- ---- all jobs

-- What all jobs have queued beyond their arrivals.
abbrev pub all_events : List Job → ℕ
all_events jobs = sum_over events_of jobs

-- behind the n loaded jobs there is none
abbrev pub Rest : ℕ → List Job → Type 0
Rest n jobs = (k : ℕ) → n ≤ k → job_at jobs k ≡ no_job

-- eight for each loaded job at most
pub all_few : (n : ℕ) (jobs : List Job) → Rest n jobs → ((k : ℕ) → JobOk (job_at jobs k)) → all_events jobs ≤ 8 * n
all_few n jobs r o =
    let e : all_events jobs ≡ sum_over events_of (take n jobs) = sum_first events_of n jobs no_job (λ k h. ap events_of (r k h) ∙ owed_none) in
    let a : All (λ j. events_of j ≤ 8) (take n jobs) =
    all_take (λ j. events_of j ≤ 8) n jobs (all_of (λ j. events_of j ≤ 8) jobs no_job (λ i b. events_few (job_at jobs i) (o i))) in
    omega (arith, e, sum_most events_of 8 (take n jobs) a, length-take n jobs)

-- a change of one job in the table
pub owed_set : (jobs : List Job) (k m : ℕ) (j : Job) → k < length jobs → events_of j ≡ events_of (job_at jobs k) + m → all_events (set jobs k j) ≡ all_events jobs + m
owed_set jobs k m j b e = omega (arith, sum_set events_of jobs k j no_job b, e)

-- a job that is not as no job is, is one of the loaded
pub rest_below : (n k : ℕ) (jobs : List Job) → Rest n jobs → ((job_at jobs k).state ≡ Pending → ⊥) → k < n
unfolding no_job new_job
rest_below n k jobs r h =
    ⊎_elim (λ past. absurd (h (ap (λ (j : Job). j.state) (r k past)))) (λ inside. inside) (le_or_lt n k)

-- a change of a loaded job leaves the rest
pub rest_set : (n k : ℕ) (jobs : List Job) (j : Job) → k < n → Rest n jobs → Rest n (set jobs k j)
rest_set n k jobs j b r i h = get_or-set_other jobs k i j no_job (λ e. omega (arith, b, h, e)) ∙ r i h
