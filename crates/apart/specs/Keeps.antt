-- What every placing and every making of way keeps, a whole pass keeps.
use Rattle.std.specs.Prelude.{◌≡◌, refl, true, List, ℕ, min, eqb, get_or, Float}
use Rattle.std.proofs.Common.{◌∙◌}
use Rattle.laws.specs.Choice.{pick_cases}
use Rattle.laws.specs.Tests.{never_both}
use Rattle.laws.specs.Lists.{All, Distinct}
use Rattle.laws.specs.Loop.{through_keeps}
use Rattle.laws.specs.Search.{has}
use Rattle.small.specs.Small.{plus_one}
use Rattle.model.specs.declared.job.Job.{Job}
use Rattle.model.specs.declared.job.JobState.{JobState}
use Rattle.model.specs.declared.job.JobState.TheVariants.{Pending, Waiting, Placed, Running, Finished, Failed}
use Rattle.model.specs.declared.setting.Setting.{Setting}
use Rattle.line.specs.Keep.{waits_in, waits}
use Rattle.apart.specs.LineLaws.{victims_of}
use Rattle.pass.specs.Visit.{allocation, placed_as, settled, made_way, preempting, considered, visited}
use Rattle.pass.specs.Walk.{sorted, visit_at, walked}
use Rattle.apart.specs.Standing.{Standing, Looked, job_at, cleared, place_standing, clear_standing, clear_looked}
use Rattle.apart.specs.Leaving.{allocated_length, sorted_length, preemption, leaving, MayLeave, leaving_may, leaving_once, may_run, way_cleared}
use Rattle.pass.specs.declared.visit.Pass.{Pass}

-- a state in which a job waits is that one
pub waits_only : (s : JobState) → waits_in s ≡ true → s ≡ Waiting
waits_only Pending h = absurd (never_both h refl)
waits_only Waiting h = refl
waits_only Placed h = absurd (never_both h refl)
waits_only Running h = absurd (never_both h refl)
waits_only Finished h = absurd (never_both h refl)
waits_only Failed h = absurd (never_both h refl)

-- it stands so when the queue was sorted
pub sorted_standing : (p : Pass) → Standing p → Standing (sorted p)
unfolding sorted
sorted_standing p so =
    record {
      gpus = so.gpus;
      jobs = so.jobs;
      line = record { queue = sorted_length p.jobs p.line.queue p.line.waiting ∙ so.line.queue; victims = so.line.victims; log = so.line.log };
      placed = so.placed;
      victims_wait = so.victims_wait;
      placed_are = so.placed_are;
      once = so.once;
      evicted = so.evicted;
      count = so.count;
    }

-- the job takes what it gets as things stand
abbrev pub placing : Setting → Pass → ℕ → Pass
placing s p id = placed_as p id (job_at p id) (allocation s p id (job_at p id))

-- P is kept by each placing, and by the leaving of any jobs that may have to leave for a job
pub record Kept (s : Setting) (clock : Float) (P : Pass → Type 0) : Type 1 where
  pub place : (p : Pass) (id : ℕ) → Standing p → Looked p id → (allocation s p id (job_at p id)).placed ≡ true → P p → P (placing s p id)
  pub clear : (p : Pass) (id : ℕ) (vs : List ℕ) → Standing p → Looked p id → All (MayLeave s clock p id) vs → Distinct vs → P p → P (cleared clock p id vs)

module _ (s : Setting) (clock : Float) (P : Pass → Type 0) (kept : Kept s clock P) where
  -- the pass stands so, and P holds of it
  abbrev Both : Pass → Type 0
  Both p = Standing p × P p

  place_keeps : (p : Pass) (id : ℕ) → Looked p id → (allocation s p id (job_at p id)).placed ≡ true → Both p → Both (placing s p id)
  place_keeps p id l t b = (
    place_standing p b.0 id l (job_at p id) (allocation s p id (job_at p id))
        (allocated_length s p.gpus p.jobs (job_at p id) (plus_one id) ∙ b.0.gpus),
    kept.place p id b.0 l t b.1,
  )

  settle_keeps : (p : Pass) (id : ℕ) (j : Job) → job_at p id ≡ j → Looked p id → Both p → Both (settled s p id j)
  unfolding settled
  settle_keeps p id j e l b =
      rw (← e)
      (pick_cases Both (allocation s p id (job_at p id)).placed (placing s p id) p (λ t. place_keeps p id l t b) (λ f. b))

  clear_keeps : (p : Pass) (id : ℕ) → Looked p id → Both p → Both (settled s (made_way clock p id (preemption s clock p id)) id (job_at p id))
  clear_keeps p id l b =
      let vs : List ℕ = leaving s clock p id in
      let may : All (MayLeave s clock p id) vs = leaving_may s clock p id in
      let once : Distinct vs = leaving_once s clock p id in
      let after : (job_at (cleared clock p id vs) id ≡ job_at p id) × Looked (cleared clock p id vs) id =
      clear_looked clock p b.0 id vs (may_run s clock p id vs may) once l in
      rw (way_cleared s clock p id)
      (settle_keeps
      (cleared clock p id vs)
      id
      (job_at p id)
      after.0
      after.1
      (clear_standing clock p b.0 id vs (may_run s clock p id vs may) once, kept.clear p id vs b.0 l may once b.1))

  preempt_keeps : (p : Pass) (id : ℕ) → Looked p id → Both p → Both (preempting s clock p id (job_at p id))
  unfolding preempting
  preempt_keeps p id l b =
      pick_cases Both (eqb (preemption s clock p id).count 0) p (settled s (made_way clock p id (preemption s clock p id)) id (job_at p id)) (λ t. b)
      (λ f. clear_keeps p id l b)

  consider_keeps : (p : Pass) (id : ℕ) → Looked p id → Both p → Both (considered s clock p id (job_at p id))
  unfolding considered
  consider_keeps p id l b =
      pick_cases
      Both
      (allocation s p id (job_at p id)).placed
      _
      _
      (λ t. place_keeps p id l t b)
      (λ f. pick_cases Both (eqb (job_at p id).ask.profile 0) _ _ (λ t. preempt_keeps p id l b) (λ f. b))

  -- one visit
  pub visit_keeps : (p : Pass) (id : ℕ) → Both p → Both (visited s clock p id)
  unfolding visited
  visit_keeps p id b =
      pick_cases
      Both
      (waits (job_at p id))
      _
      _
      (λ t. pick_cases
      Both
      (has id (victims_of p.line))
      _
      _
      (λ v. b)
      (λ v. consider_keeps p id (record { waiting = waits_only (job_at p id).state t; spared = v }) b))
      (λ f. b)

  -- the whole pass
  pub walk_keeps : (p : Pass) → Standing p → P (sorted p) → Both (walked s clock p)
  unfolding walked
  walk_keeps p so h =
      through_keeps
      (visit_at s clock (sorted p).line.queue)
      Both
      (λ q i b. visit_keeps q (get_or (sorted p).line.queue i 0) b)
      (sorted p)
      (min (sorted p).line.waiting 128)
      0
      (sorted_standing p so, h)
