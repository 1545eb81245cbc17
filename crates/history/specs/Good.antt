-- What holds of the job table and the decisions told so far, all along; each small change of one job keeps it.
use Rattle.std.specs.Prelude.{◌≡◌, ◌⊎◌, true, List, length, get_or}
use Rattle.std.proofs.Common.{arith}
use Prim.Native.Nat.{ℕ, ◌+◌, ◌≤◌, ◌<◌, min}
use Rattle.std.proofs.Math.ListN.{take}
use Rattle.laws.specs.Lists.{All}
use Rattle.model.specs.Job.{no_job}
use Rattle.model.specs.declared.job.Job.{Job}
use Rattle.model.specs.declared.job.JobState.{JobState}
use Rattle.model.specs.declared.job.JobState.TheVariants.{Pending, Waiting, Placed, Running, Finished, Failed}
use Rattle.model.specs.declared.setting.Setting.{Setting}
use Rattle.decision_log.specs.declared.Decision.{Decision}
use Rattle.cluster.specs.Usage.{running, usage}
use Rattle.resource.specs.Quota.{kept_quota}
use Rattle.history.specs.Told.{is_evicted, evictions_of, starts_of, runs_after, held_after}

abbrev pub job_at : List Job → ℕ → Job
job_at jobs k = get_or jobs k no_job

-- ---- what is promised after some decisions

-- a quota as kept, plus 1 or 0 for none, is not passed
abbrev pub Fits : ℕ → ℕ → Type 0
Fits kept used = 0 < kept → used < kept

-- an eviction is for a job of the victim's tenant or of none, where preemption is quota-aware
abbrev pub Own : Setting → List Job → Decision → Type 0
Own s jobs d = is_evicted d.kind ≡ true → s.options.aware ≡ true →
    ((job_at jobs d.other).ask.tenant ≡ 0) ⊎ ((job_at jobs d.job).ask.tenant ≡ (job_at jobs d.other).ask.tenant)

-- What is promised after the decisions h; jobs are the loaded ones.
pub record Now (s : Setting) (jobs : List Job) (h : List Decision) : Type 0 where
  pub quota : (tenant : ℕ) → 0 < tenant → Fits (kept_quota s tenant) (held_after jobs (min s.jobs 128) tenant h)
  pub three : (k : ℕ) → evictions_of k h ≤ 3
  pub runs_few : (k : ℕ) → starts_of k h ≤ evictions_of k h + 1
  pub own : All (Own s jobs) h

-- ---- what holds of each job

-- a job that runs or has finished has begun a run more than it was evicted
abbrev pub begun : JobState → ℕ
begun Pending = 0
begun Waiting = 0
begun Placed = 0
begun Running = 1
begun Finished = 1
begun Failed = 0

-- a job that has arrived
abbrev pub came : JobState → ℕ
came Pending = 0
came Waiting = 1
came Placed = 1
came Running = 1
came Finished = 1
came Failed = 1

-- at most one
pub begun_most : (st : JobState) → begun st ≤ 1
begun_most Pending = omega arith
begun_most Waiting = omega arith
begun_most Placed = omega arith
begun_most Running = omega arith
begun_most Finished = omega arith
begun_most Failed = omega arith

pub came_most : (st : JobState) → came st ≤ 1
came_most Pending = omega arith
came_most Waiting = omega arith
came_most Placed = omega arith
came_most Running = omega arith
came_most Finished = omega arith
came_most Failed = omega arith

pub record JobOk (j : Job) : Type 0 where
  pub run_is : j.run ≡ j.evictions + begun j.state
  pub few : j.evictions ≤ 3
  pub waits_few : j.timeouts ≤ came j.state + j.run

-- ---- what holds all along

pub record Good (s : Setting) (jobs₀ jobs : List Job) (h : List Decision) : Type 0 where
  pub size : length jobs ≡ 128
  pub asks : (k : ℕ) → (job_at jobs k).ask ≡ (job_at jobs₀ k).ask
  pub each : (k : ℕ) → JobOk (job_at jobs k)
  pub evicted : (k : ℕ) → evictions_of k h ≡ (job_at jobs k).evictions
  pub started : (k : ℕ) → starts_of k h ≡ (job_at jobs k).run
  pub told : (k : ℕ) → runs_after h k ≡ running (job_at jobs k)
  pub within : (tenant : ℕ) → 0 < tenant → Fits (kept_quota s tenant) (usage jobs s.jobs tenant)
  pub own : All (Own s jobs₀) h
  pub always : (m : ℕ) → Now s jobs₀ (take m h)
