-- A pass keeps the queue: behind those that waited stand its victims, each with a place; who is placed waits no more.
use Rattle.std.specs.Prelude.{◌≡◌, false, List, ◌++◌, ℕ, ◌+◌, ◌≤◌, ◌<◌, length, set, Float}
use Rattle.std.proofs.Math.Path.{refl, ap}
use Rattle.std.proofs.Common.{sym, ◌∙◌, append_assoc, arith, length-append}
use Rattle.std.proofs.Math.Bool.{true}
use Rattle.laws.specs.Lists.{All, Distinct, all_weaken, all_members, all_member, set_related}
use Rattle.laws.specs.Search.{member_has}
use Rattle.model.specs.Job.{no_job}
use Rattle.model.specs.declared.job.Job.{Job}
use Rattle.model.specs.declared.job.JobState.TheVariants.{Running}
use Rattle.model.specs.declared.setting.Options.{Options}
use Rattle.model.specs.declared.setting.Setting.{Setting}
use Rattle.life.specs.Life as Life
use Rattle.line.specs.Keep.{waits_at}
use Rattle.preemptive.specs.Prefix.{evicted_all}
use Rattle.apart.specs.LineLaws.{queue_of, victims_of, joins_queue, joins_waiting}
use Rattle.starts.specs.Begin as Begin
use Rattle.starts.specs.Begin.{begun_all}
use Rattle.apart.specs.StartsLaws.{job_of, start_of, all_keep}
use Rattle.starts.specs.declared.begin.Placing.{Placing}
use Rattle.starts.specs.declared.begin.Begun.{Begun}
use Rattle.pass.specs.Visit.{placed_as, allocation}
use Rattle.apart.specs.Standing.{Standing, Looked, InState, cleared, clear_behind, clear_other, clear_it}
use Rattle.apart.specs.Leaving.{MayLeave, may_run}
use Rattle.apart.specs.Keeps.{Kept, placing}
use Rattle.pass.specs.declared.visit.Pass.{Pass}
use Rattle.history.specs.Good.{job_at}
use Rattle.history.specs.StartsGood.{begun_jobs}
use Rattle.history.specs.QueueLined.{waits_or_placed, Stands, Lined, set_waits, lined_changed, join_room, lined_joined}

-- first are those that waited as the pass began
pub record PassLined (first : List ℕ) (p : Pass) : Type 0 where
  pub lined : Lined waits_or_placed p.jobs (queue_of p.line)
  pub count : p.line.waiting ≡ length (queue_of p.line)
  pub behind : queue_of p.line ≡ first ++ victims_of p.line

-- ---- running jobs leave

module _ (s : Setting) (clock : Float) (first : List ℕ) (p : Pass) (id : ℕ) (vs : List ℕ) (so : Standing p) (may : All (MayLeave s clock p id) vs)
    (d : Distinct vs) (g : PassLined first p) where
  run : All (InState Running p.jobs) vs
  run = may_run s clock p id vs may

  new : All (λ k. waits_or_placed (job_at p.jobs k).state ≡ false) vs
  new = all_weaken (InState Running p.jobs) (λ k. waits_or_placed (job_at p.jobs k).state ≡ false) vs (λ k h. ap waits_or_placed h.1) run

  -- There is a place in the queue for each of them.
  pub leave_room : p.line.waiting + length vs ≤ 128
  leave_room =
      omega (
        arith,
        g.count,
        join_room waits_or_placed p.jobs (queue_of p.line) vs g.lined d new
            (all_weaken (InState Running p.jobs) (λ k. k < 128) vs (λ k h. h.0) run),
      )

  leave_queue : queue_of (cleared clock p id vs).line ≡ queue_of p.line ++ vs
  unfolding cleared
  leave_queue = joins_queue clock (evicted_all clock p.jobs vs) id p.line vs so.line leave_room

  leave_waiting : (cleared clock p id vs).line.waiting ≡ p.line.waiting + length vs
  unfolding cleared
  leave_waiting = joins_waiting clock (evicted_all clock p.jobs vs) id p.line vs leave_room

  now : All (Stands waits_or_placed (cleared clock p id vs).jobs) vs
  unfolding Life.evicted
  now =
      all_members
      (Stands waits_or_placed (cleared clock p id vs).jobs)
      vs
      (λ k m. ((all_member (InState Running p.jobs) k vs run m).0, ap (λ (x : Job). waits_or_placed x.state) (clear_it clock p so id vs run d k (member_has k vs m))))

  leave_lined : PassLined first (cleared clock p id vs)
  leave_lined =
      let q : List ℕ = queue_of p.line in
      let e : queue_of (cleared clock p id vs).line ≡ q ++ vs = leave_queue in
      let v : victims_of (cleared clock p id vs).line ≡ victims_of p.line ++ vs = clear_behind clock p so id vs run d in
      let n : length (queue_of (cleared clock p id vs).line) ≡ length q + length vs = ap length e ∙ length-append q vs in
      record {
        lined = rw e (lined_joined waits_or_placed p.jobs q vs g.lined d new (cleared clock p id vs).jobs now (clear_other clock p so id vs run d));
        count = omega (arith, leave_waiting, n, g.count);
        behind = e ∙ ap (λ (l : List ℕ). l ++ vs) g.behind ∙ append_assoc first (victims_of p.line) vs ∙ ap (λ (l : List ℕ). first ++ l) (sym v);
      }

-- ---- what a pass keeps

module _ (s : Setting) (clock : Float) (first : List ℕ) where
  place_lined : (p : Pass) (id : ℕ) → Standing p → Looked p id → (allocation s p id (job_at p.jobs id)).placed ≡ true → PassLined first p →
      PassLined first (placing s p id)
  unfolding placed_as Life.placed
  place_lined p id so l t g =
      let j : Job = Life.placed (job_at p.jobs id) in
      record {
        lined = lined_changed waits_or_placed waits_or_placed p.jobs (set p.jobs id j) (queue_of p.line)
            (λ k. set_related p.jobs id j no_job (λ a b. waits_or_placed a.state ≡ true → waits_or_placed b.state ≡ true) (λ x h. h) (λ h. refl)
            k) (set_waits p.jobs id j refl) g.lined;
        count = g.count;
        behind = g.behind;
      }

  pub pass_lined : Kept s clock (PassLined first)
  pass_lined =
      record { place = place_lined; clear = λ p id vs so l may d g. leave_lined s clock first p id vs so may d g }

-- ---- the starts

-- nobody begins to wait
module _ (options : Options) (clock : Float) (k : ℕ) where
  start_waits : (b : Begun) (p : Placing) → waits_at (Begin.begun options clock b p).jobs k ≡ true → waits_at b.jobs k ≡ true
  unfolding Life.started
  start_waits b p =
      rw (begun_jobs options clock b p)
      (set_waits b.jobs p.job (Life.started (job_of b p) (start_of options clock b p)) refl k)

  pub starts_wait : (b : Begun) (ps : List Placing) → waits_at (begun_all options clock b ps).jobs k ≡ true → waits_at b.jobs k ≡ true
  starts_wait b ps =
      all_keep options clock (λ x. waits_at x.jobs k ≡ true → waits_at b.jobs k ≡ true) (λ x p f h. f (start_waits x p h)) b ps (λ h. h)
