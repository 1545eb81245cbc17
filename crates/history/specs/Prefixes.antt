-- Preemption in a visit and in a pass: who leaves for a job is the shortest nonempty prefix of its candidates that makes it placeable; where no prefix does, all stands as before.
use Rattle.std.specs.Prelude.{◌≡◌, Bool, true, false, ◌&&◌, List, [], ◌++◌, map, ℕ, ◌+◌, ◌≤◌, ◌<◌, min, eqb, length, get_or, take, Float}
use Rattle.laws.specs.Loop.{through}
use Rattle.laws.specs.Search.{has}
use Rattle.laws.specs.Sort.{only}
use Rattle.model.specs.Sizes as Sizes
use Rattle.model.specs.declared.job.JobState.TheVariants.{Placed}
use Rattle.model.specs.declared.setting.Setting.{Setting}
use Rattle.decision_log.specs.Log.{decisions}
use Rattle.decision_log.specs.declared.Decision.{Decision}
use Rattle.resource.specs.Cause.{placeable}
use Rattle.preemptive.specs.Candidate.{candidates}
use Rattle.preemptive.specs.Prefix.{opens, shortest}
use Rattle.apart.specs.PrefixLaws.{IsShortest}
use Rattle.line.specs.Keep.{waits}
use Rattle.apart.specs.LineLaws.{victims_of, eviction_told}
use Rattle.pass.specs.Walk.{sorted, visit_at}
use Rattle.apart.specs.Standing.{Looked, job_at, cleared}
use Rattle.apart.specs.Keeps.{placing}
use Rattle.pass.specs.declared.visit.Pass.{Pass}
use Rattle.history.specs.Told.{is_evicted}

-- ---- one visit: the job id is looked at, p is the pass before and q the pass after

-- the job is placeable as things stand
abbrev pub fits_now : Setting → Pass → ℕ → Bool
fits_now s p id = placeable s p.gpus p.jobs (job_at p id)

-- its candidates, in order
abbrev pub candidates_at : Setting → Pass → ℕ → List ℕ
candidates_at s p id = candidates s p.jobs (job_at p id).ask

-- it is placeable when the first m of them have left
abbrev pub helps : Setting → Float → Pass → ℕ → ℕ → Bool
helps s clock p id m = opens s clock p.gpus p.jobs (job_at p id) (candidates_at s p id) m

-- the prefix that leaves: how many, who, and the decisions that tell it
abbrev pub how_many : Setting → Float → Pass → ℕ → ℕ
how_many s clock p id = shortest s clock p.gpus p.jobs (job_at p id) (candidates_at s p id)

abbrev pub prefix : Setting → Float → Pass → ℕ → List ℕ
prefix s clock p id = take (how_many s clock p id) (candidates_at s p id)

abbrev pub prefix_told : Setting → Float → Pass → ℕ → List Decision
prefix_told s clock p id = map (eviction_told clock id) (prefix s clock p id)

-- Why nothing changes: the job does not wait; or it is a victim of this pass; or it is not placeable and, if it is a whole-GPU job, no nonempty prefix of its candidates makes it so.
pub data Idle (s : Setting) (clock : Float) (p : Pass) (id : ℕ) : Type 0 where
  not_waiting : waits (job_at p id) ≡ false → Idle s clock p id
  a_victim : has id (victims_of p.line) ≡ true → Idle s clock p id
  no_prefix : fits_now s p id ≡ false → ((job_at p id).ask.profile ≡ 0 → (m : ℕ) → 0 < m → m ≤ length (candidates_at s p id) →
      helps s clock p id m ≡ false) → Idle s clock p id

-- It waits, is no victim, is placeable as things stand, and is placed; no decision is added.
pub record Places (s : Setting) (p : Pass) (id : ℕ) (q : Pass) : Type 0 where
  pub looked : Looked p id
  pub fits : fits_now s p id ≡ true
  pub is : q ≡ placing s p id
  pub placed : (job_at q id).state ≡ Placed
  pub told : decisions q.line.log ≡ decisions p.line.log

-- A whole-GPU job that is not placeable as things stand: the shortest nonempty prefix that helps leaves, each told in order, and nobody else; then it is placed.
pub record Preempts (s : Setting) (clock : Float) (p : Pass) (id : ℕ) (q : Pass) : Type 0 where
  pub looked : Looked p id
  pub whole : (job_at p id).ask.profile ≡ 0
  pub full : fits_now s p id ≡ false
  pub some : 0 < how_many s clock p id
  pub least : IsShortest (helps s clock p id) (length (candidates_at s p id)) (how_many s clock p id)
  pub is : q ≡ placing s (cleared clock p id (prefix s clock p id)) id
  pub placed : (job_at q id).state ≡ Placed
  pub told : decisions q.line.log ≡ decisions p.line.log ++ prefix_told s clock p id

-- There is no fourth outcome.
pub data Outcome (s : Setting) (clock : Float) (p : Pass) (id : ℕ) (q : Pass) : Type 0 where
  nothing : Idle s clock p id → q ≡ p → Outcome s clock p id q
  places : Places s p id q → Outcome s clock p id q
  preempts : Preempts s clock p id q → Outcome s clock p id q

-- ---- a pass: p is the pass as it begins

-- who is looked at in visit i, from 0 on
abbrev pub visitor : Pass → ℕ → ℕ
visitor p i = get_or (sorted p).line.queue i 0

-- how many are looked at: all that wait as it begins
abbrev pub visits : Pass → ℕ
visits p = min (sorted p).line.waiting Sizes.jobs

-- the pass when its first i visits are over
abbrev pub after : Setting → Float → Pass → ℕ → Pass
after s clock p i = through (visit_at s clock (sorted p).line.queue) (sorted p) i 0

-- an eviction that names the job as the one that the victim made way for
abbrev pub evicts_for : ℕ → Decision → Bool
evicts_for id d = is_evicted d.kind && eqb d.other id

-- visit i tells nothing
abbrev pub Silent : Setting → Float → Pass → ℕ → Type 0
Silent s clock p i = decisions (after s clock p (i + 1)).line.log ≡ decisions (after s clock p i).line.log

-- Which evictions of the first n visits name the job: none, and each visit of it is silent; or exactly those of the one visit at which it preempted, in their order; each other visit of it is silent, and it is placed since.
pub data Evicts (s : Setting) (clock : Float) (p : Pass) (n id : ℕ) (ds : List Decision) : Type 0 where
  nobody : ds ≡ [] → ((i : ℕ) → i < n → visitor p i ≡ id → Silent s clock p i) → Evicts s clock p n id ds
  once : (i : ℕ) → i < n → visitor p i ≡ id → Preempts s clock (after s clock p i) id (after s clock p (i + 1)) →
      ds ≡ prefix_told s clock (after s clock p i) id → ((k : ℕ) → k < n → visitor p k ≡ id → (k ≡ i → ⊥) → Silent s clock p k) →
      (job_at (after s clock p n) id).state ≡ Placed → Evicts s clock p n id ds

-- What the first n visits told, behind the decisions before them, and which of it names each job.
pub record Prefixes (s : Setting) (clock : Float) (p : Pass) (n : ℕ) : Type 0 where
  pub told : List Decision
  pub all : decisions (after s clock p n).line.log ≡ decisions p.line.log ++ told
  pub each : (id : ℕ) → Evicts s clock p n id (only (evicts_for id) told)
