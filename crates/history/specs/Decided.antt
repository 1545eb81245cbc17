-- How many decisions were told of a job, read off its record: nine at most. A pass tells one for each victim, the starts one for each start.
use Rattle.std.specs.Prelude.{◌≡◌, refl, List, [], ◌∷◌, ℕ, ◌+◌, ◌*◌, ◌≤◌, ◌<◌, ◌%◌, ◌^◌, length, take, set, Float}
use Rattle.std.proofs.Common.{ap, ◌∙◌, arith, length-set, length-take, length-append}
use Rattle.laws.specs.Lists.{All, Distinct, all_weaken, all_of, all_take}
use Rattle.laws.specs.Sums.{sum_over, sum_set, sum_kept, sum_most, sum_first}
use Rattle.model.specs.Job.{no_ask, no_job, new_job}
use Rattle.model.specs.declared.job.Ask.{Ask}
use Rattle.model.specs.declared.job.Job.{Job}
use Rattle.model.specs.declared.job.JobState.{JobState}
use Rattle.model.specs.declared.job.JobState.TheVariants.{Pending, Waiting, Placed, Running, Finished, Failed}
use Rattle.model.specs.declared.setting.Options.{Options}
use Rattle.model.specs.declared.setting.Setting.{Setting}
use Rattle.life.specs.Life as Life
use Rattle.preemptive.specs.Prefix.{evicted_all}
use Rattle.apart.specs.LineLaws.{victims_of}
use Rattle.starts.specs.Begin as Begin
use Rattle.starts.specs.Begin.{begun_all}
use Rattle.apart.specs.StartsLaws.{jobs_of, job_of, start_of}
use Rattle.starts.specs.declared.begin.Placing.{Placing}
use Rattle.starts.specs.declared.begin.Begun.{Begun}
use Rattle.pass.specs.Visit.{placed_as}
use Rattle.apart.specs.Standing.{Standing, Looked, cleared, clear_behind}
use Rattle.apart.specs.Leaving.{MayLeave, may_run}
use Rattle.apart.specs.Keeps.{Kept, placing}
use Rattle.pass.specs.declared.visit.Pass.{Pass}
use Rattle.history.specs.Good.{job_at, JobOk, came, begun_most, came_most}
use Rattle.history.specs.Owed.{Rest}
use Rattle.history.specs.PassOwed.{Runs, runs_other, ToStart, still_to_start, cleared_jobs}
use Rattle.history.specs.StartsGood.{begun_jobs}

-- a job that has finished or failed
abbrev pub gone : JobState → ℕ
gone Pending = 0
gone Waiting = 0
gone Placed = 0
gone Running = 0
gone Finished = 1
gone Failed = 1

gone_most : (st : JobState) → gone st ≤ 1
gone_most Pending = omega arith
gone_most Waiting = omega arith
gone_most Placed = omega arith
gone_most Running = omega arith
gone_most Finished = omega arith
gone_most Failed = omega arith

-- Its arrival, its starts, its evictions, its completion or failure.
unfoldable pub decided_of : Job → ℕ
decided_of j = came j.state + j.run + j.evictions + gone j.state

-- at most 1, 4, 3 and 1
decided_few : (j : Job) → JobOk j → decided_of j ≤ 9
unfolding decided_of
decided_few j o =
    omega (arith, o.run_is, o.few, begun_most j.state, came_most j.state, gone_most j.state)

-- ---- what each change adds

pub decided_waits : (j : Job) (clock : Float) → j.state ≡ Pending → decided_of (Life.waits j clock) ≡ decided_of j + 1
unfolding decided_of Life.waits
decided_waits j clock e = rw e (omega arith)

pub decided_fails : (j : Job) (clock : Float) → j.state ≡ Waiting → decided_of (Life.fails j clock) ≡ decided_of j + 1
unfolding decided_of Life.fails
decided_fails j clock e = rw e (omega arith)

pub decided_ends : (j : Job) → j.state ≡ Running → decided_of (Life.ends j) ≡ decided_of j + 1
unfolding decided_of Life.ends
decided_ends j e = rw e (omega arith)

decided_evicted : (j : Job) (clock : Float) → j.state ≡ Running → j.evictions < 3 → decided_of (Life.evicted j clock) ≡ decided_of j + 1
unfolding decided_of Life.evicted
decided_evicted j clock e l =
    let m : (j.evictions + 1) % 2 ^ 32 ≡ j.evictions + 1 = omega (arith, l) in
    rw (e, m) (omega arith)

decided_placed : (j : Job) → j.state ≡ Waiting → decided_of (Life.placed j) ≡ decided_of j
unfolding decided_of Life.placed
decided_placed j e = rw e

decided_started : (j : Job) (at : Float) → j.state ≡ Placed → j.run < 9 → decided_of (Life.started j at) ≡ decided_of j + 1
unfolding decided_of Life.started
decided_started j at e l =
    let m : (j.run + 1) % 2 ^ 32 ≡ j.run + 1 = omega (arith, l) in
    rw (e, m) (omega arith)

-- of a new job nothing was told
pub decided_new : (a : Ask) → decided_of (new_job a) ≡ 0
unfolding decided_of new_job
decided_new a = refl

decided_none : decided_of no_job ≡ 0
unfolding no_job
decided_none = decided_new no_ask

-- ---- all jobs

-- The decisions that were told of all jobs.
abbrev pub all_decided : List Job → ℕ
all_decided jobs = sum_over decided_of jobs

-- nine for each loaded job at most
pub all_decided_few : (n : ℕ) (jobs : List Job) → Rest n jobs → ((k : ℕ) → JobOk (job_at jobs k)) → all_decided jobs ≤ 9 * n
all_decided_few n jobs r o =
    let e : all_decided jobs ≡ sum_over decided_of (take n jobs) = sum_first decided_of n jobs no_job (λ k h. ap decided_of (r k h) ∙ decided_none) in
    let a : All (λ j. decided_of j ≤ 9) (take n jobs) =
    all_take (λ j. decided_of j ≤ 9) n jobs (all_of (λ j. decided_of j ≤ 9) jobs no_job (λ i b. decided_few (job_at jobs i) (o i))) in
    omega (arith, e, sum_most decided_of 9 (take n jobs) a, length-take n jobs)

-- a change of one job that is told
pub decided_set : (jobs : List Job) (k : ℕ) (j : Job) → k < length jobs → decided_of j ≡ decided_of (job_at jobs k) + 1 → all_decided (set jobs k j) ≡ all_decided jobs + 1
decided_set jobs k j b e = omega (arith, sum_set decided_of jobs k j no_job b, e)

-- ---- the pass

-- jobs leave one after the other, each told
decided_leave : (clock : Float) (jobs : List Job) (vs : List ℕ) → length jobs ≡ 128 → All (Runs jobs) vs → Distinct vs →
    all_decided (evicted_all clock jobs vs) ≡ all_decided jobs + length vs
unfolding evicted_all
decided_leave clock jobs [] l m d = omega arith
decided_leave clock jobs (v ∷ vs) l m d =
    let j : Job = Life.evicted (job_at jobs v) clock in
    let one : all_decided (set jobs v j) ≡ all_decided jobs + 1 =
    decided_set jobs v j (omega (arith, l, m.0.0)) (decided_evicted (job_at jobs v) clock m.0.1 m.0.2) in
    let rest : all_decided (evicted_all clock (set jobs v j) vs) ≡ all_decided (set jobs v j) + length vs =
    decided_leave clock (set jobs v j) vs (length-set jobs v j ∙ l) (runs_other jobs v j vs d.0 m.1) d.1 in
    omega (arith, rest, one)

-- beyond what was told before, one for each victim
abbrev pub PassDecided : ℕ → Pass → Type 0
PassDecided base p = all_decided p.jobs ≡ base + length (victims_of p.line)

module _ (s : Setting) (clock : Float) (base : ℕ) where
  place_decided : (p : Pass) (id : ℕ) → Looked p id → PassDecided base p → PassDecided base (placing s p id)
  unfolding placed_as
  place_decided p id l g =
      sum_kept decided_of p.jobs id (Life.placed (job_at p.jobs id)) no_job (decided_placed (job_at p.jobs id) l.waiting) ∙ g

  clear_decided : (p : Pass) (id : ℕ) (vs : List ℕ) → Standing p → All (MayLeave s clock p id) vs → Distinct vs → PassDecided base p →
      PassDecided base (cleared clock p id vs)
  clear_decided p id vs so m d g =
      let rs : All (Runs p.jobs) vs = all_weaken (MayLeave s clock p id) (Runs p.jobs) vs (λ v q. (q.0, q.2.runs_now, q.2.few)) m in
      let e : all_decided (cleared clock p id vs).jobs ≡ all_decided p.jobs + length vs = ap all_decided (cleared_jobs clock p id vs)
      ∙ decided_leave clock p.jobs vs so.jobs rs d in
      let b : length (victims_of (cleared clock p id vs).line) ≡ length (victims_of p.line) + length vs =
      ap length (clear_behind clock p so id vs (may_run s clock p id vs m) d) ∙ length-append (victims_of p.line) vs in
      omega (arith, e, b, g)

  -- so a pass keeps it
  pub pass_decided : Kept s clock (PassDecided base)
  pass_decided =
      record { place = λ p id so l t g. place_decided p id l g; clear = λ p id vs so l m d g. clear_decided p id vs so m d g }

-- ---- the starts

pub starts_decided : (options : Options) (clock : Float) (b : Begun) (ps : List Placing) → length b.jobs ≡ 128 → Distinct (jobs_of ps) →
    All (ToStart b.jobs) (jobs_of ps) → all_decided (begun_all options clock b ps).jobs ≡ all_decided b.jobs + length ps
unfolding begun_all
starts_decided options clock b [] l d m = omega arith
starts_decided options clock b (p ∷ ps) l d m =
    let j : Job = Life.started (job_of b p) (start_of options clock b p) in
    let e : (Begin.begun options clock b p).jobs ≡ set b.jobs p.job j = begun_jobs options clock b p in
    let one : all_decided (Begin.begun options clock b p).jobs ≡ all_decided b.jobs + 1 = ap all_decided e
    ∙ decided_set b.jobs p.job j (omega (arith, l, m.0.0)) (decided_started (job_of b p) (start_of options clock b p) m.0.1 m.0.2) in
    let rest : all_decided (begun_all options clock (Begin.begun options clock b p) ps).jobs ≡ all_decided (Begin.begun options clock b p).jobs +
    length ps = starts_decided options clock (Begin.begun options clock b p) ps (ap length e ∙ length-set b.jobs p.job j ∙ l) d.1
    (still_to_start options clock b p (jobs_of ps) d.0 m.1) in
    omega (arith, rest, one)
