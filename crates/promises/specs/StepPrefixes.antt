-- Condition 2 over whole steps: in each accepted step, the evictions that name a job are the shortest nonempty prefix of its candidates at its visit, or there is none; a stale event's step decides nothing.
use Rattle.std.specs.Prelude.{◌≡◌, Bool, true, false, List, ℕ, ◌+◌}
use Rattle.std.proofs.Math.Path.{refl}
use Rattle.laws.specs.Choice.{pick_either}
use Rattle.laws.specs.Lists.{All}
use Rattle.laws.specs.Sort.{only}
use Rattle.model.specs.declared.event.Event.{Event}
use Rattle.model.specs.declared.event.EventKind.{EventKind}
use Rattle.model.specs.declared.event.EventKind.TheVariants.{Empty, Arrival, Completion, Timeout}
use Rattle.model.specs.declared.plan.Plan.{Plan}
use Rattle.decision_log.specs.Log.{decisions}
use Rattle.decision_log.specs.declared.Decision.{Decision}
use Rattle.decision_log.specs.declared.Kind.{Kind}
use Rattle.decision_log.specs.declared.Kind.TheVariants as Kinds
use Rattle.line.specs.Line.{new_line}
use Rattle.pass.specs.Visit.{new_pass}
use Rattle.pass.specs.declared.visit.Pass.{Pass}
use Rattle.happen.specs.Happen.{job_of, stale, said, arrives, completes, times_out, of_run, of_timeout, completed, timed_out}
use Rattle.happen.specs.declared.Moment.{Moment}
use Rattle.engine.specs.Settle.{pass_of, starts_of, settled}
use Rattle.engine.specs.Advance.{next_event, has_event, with_event, by_kind, happened, advanced}
use Rattle.history.specs.Told.{is_evicted}
use Rattle.history.specs.Prefixes.{evicts_for, visits, visitor, after, Outcome, Evicts}
use Rattle.history.proofs.PrefixesLaws.{step_prefixes, pass_visit}
use Rattle.promises.specs.Between.{Amid}
use Rattle.promises.specs.Happens.{one_told, empty_told}
use Rattle.promises.specs.Steps.{happened_amid}
use Rattle.promises.specs.Conditions.{Reached, first, reached_between}

-- ---- no event's own decision is an eviction

abbrev Quiet : Moment → Type 0
Quiet m = All (λ (d : Decision). is_evicted d.kind ≡ false) (decisions m.log)

said_quiet : (p : Plan) (ok : Bool) (kind : Kind) (job other : ℕ) → is_evicted kind ≡ false → Quiet (said p ok kind job other)
unfolding said
said_quiet p ok kind job other e = rw (one_told p kind job other) (e, tt)

stale_quiet : (p : Plan) → Quiet (stale p)
unfolding stale
stale_quiet p = rw empty_told tt

kind_quiet : (kind : EventKind) (p : Plan) (e : Event) → Quiet (by_kind kind p e)
unfolding completed timed_out arrives completes times_out
kind_quiet Empty p e = stale_quiet p
kind_quiet Arrival p e = said_quiet _ _ Kinds.Arrived e.job 0 refl
kind_quiet Completion p e = pick_either Quiet (of_run (job_of p e.job) e.generation) (completes p e.job) (stale p)
    (said_quiet _ true Kinds.Completed e.job _ refl) (stale_quiet p)
kind_quiet Timeout p e = pick_either Quiet (of_timeout (job_of p e.job) e.generation) (times_out p e.job) (stale p)
    (said_quiet _ _ Kinds.Failed e.job 0 refl) (stale_quiet p)

-- ---- the pass of a step

-- the moment after the event, before the pass
abbrev pub event_done : Plan → Moment
event_done p = happened (with_event p) (next_event p)

-- the pass as it begins
abbrev pub pass_begins : Plan → Pass
pass_begins p = let q = (event_done p).plan in new_pass q.gpus q.jobs (new_line q.queue q.waiting q.totals (event_done p).log (event_done p).ok)

module _ (trace : List ℕ) (k : ℕ) (p : Plan) (h : List Decision) (r : Reached trace k p h) (has : has_event p ≡ true) where
  amid : Amid (first trace).jobs (k + 1) h (event_done p)
  amid = happened_amid (first trace).jobs k h p (reached_between trace k p h r).0 has

  -- Where a pass follows, for each job: nobody left for it in this step, or exactly the shortest nonempty prefix of its candidates at the visit at which it preempted.
  pub step_evicts : (event_done p).goes ≡ true → (id : ℕ) →
      Evicts (event_done p).plan.setting (event_done p).plan.clock (pass_begins p) (visits (pass_begins p)) id (only (evicts_for id) (decisions (advanced p).log))
  unfolding advanced settled starts_of pass_of
  step_evicts g id =
      let m : Moment = event_done p in
      let q : Plan = m.plan in
      rw g
      (step_prefixes q.setting q.clock q.gpus q.jobs q.queue q.waiting q.totals m.log m.ok amid.between.gpus
      amid.between.good.size amid.between.queue amid.table amid.own (kind_quiet (next_event p).kind (with_event p) (next_event p))
      q.setting.options _ refl id)

  -- Each visit of that pass has one of three outcomes: all stays as it was, since the job does not wait, is a victim of this pass, or no prefix makes it placeable; it is placed as things stand; or the shortest prefix leaves and it is placed.
  pub step_visit : (i : ℕ) → Outcome (event_done p).plan.setting (event_done p).plan.clock
      (after (event_done p).plan.setting (event_done p).plan.clock (pass_begins p) i) (visitor (pass_begins p) i)
      (after (event_done p).plan.setting (event_done p).plan.clock (pass_begins p) (i + 1))
  step_visit i =
      let m : Moment = event_done p in
      let q : Plan = m.plan in
      pass_visit q.setting q.clock q.gpus q.jobs q.queue q.waiting q.totals m.log m.ok amid.between.gpus
      amid.between.good.size amid.between.queue amid.table amid.own i

  -- A stale event decides nothing: nobody leaves, nobody starts.
  pub stale_decides_nothing : (event_done p).goes ≡ false → advanced p ≡ event_done p
  unfolding advanced
  stale_decides_nothing g = rw g
