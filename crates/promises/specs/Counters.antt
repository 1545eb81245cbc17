-- No counter wraps on any plan reached from a loaded trace: insertion numbers, runs, evictions, timeout generations and totals all stay small.
use Rattle.std.specs.Prelude.{◌≡◌, refl, true, List, ℕ, ◌+◌, ◌*◌, ◌≤◌, length, take}
use Rattle.std.proofs.Common.{sym, ap, ◌∙◌, arith}
use Rattle.std.proofs.lemmas.List.{length-map}
use Rattle.laws.specs.Choice.{pick_either}
use Rattle.small.specs.Small.{onward, onward_fits}
use Rattle.model.specs.declared.event.Event.{Event}
use Rattle.model.specs.declared.event.EventKind.{EventKind}
use Rattle.model.specs.declared.event.EventKind.TheVariants.{Empty, Arrival, Completion, Timeout}
use Rattle.model.specs.declared.job.Job.{Job}
use Rattle.model.specs.declared.plan.Plan.{Plan}
use Rattle.model.specs.declared.totals.Totals.{Totals}
use Rattle.decision_log.specs.declared.Decision.{Decision}
use Rattle.loader.specs.Load.{load}
use Rattle.line.specs.Line.{new_line}
use Rattle.apart.specs.LineLaws.{new_sized}
use Rattle.apart.specs.Standing.{Standing, few}
use Rattle.apart.specs.PassLaws.{pass_keeps, pass_standing}
use Rattle.starts.specs.declared.begin.Placing.{Placing}
use Rattle.pass.specs.Visit.{new_pass}
use Rattle.pass.specs.Walk.{sorted}
use Rattle.happen.specs.Happen.{job_of, stale, said, joins, arrives, completes, times_out, of_run, of_timeout, completed, timed_out}
use Rattle.happen.specs.declared.Moment.{Moment}
use Rattle.engine.specs.Settle.{pass_of, starts_of, with_pass, settled}
use Rattle.engine.specs.Advance.{next_event, has_event, with_event, by_kind, happened, advanced}
use Rattle.planner.specs.Step.{stepped}
use Rattle.planner.specs.StepLaws.{accepted_for, accepted_plan}
use Rattle.history.specs.Good.{job_at, begun_most, came_most}
use Rattle.history.specs.Sums.{Small, PassFits, joined_small, pass_fits, starts_small}
use Rattle.promises.specs.LoadedLaws.{Ready, load_ready}
use Rattle.promises.specs.Between.{Between, Amid, still_most}
use Rattle.promises.specs.Steps.{event_taken, happened_amid}
use Rattle.promises.specs.Conditions as Conditions
use Rattle.promises.specs.Conditions.{Reached, begin, first, reached_between, few_steps, room_enough}

-- ---- the totals and the queue

pub record Tallied (n : ℕ) (p : Plan) : Type 0 where
  pub small : Small n p.totals
  pub waiting : p.waiting ≤ 128

-- more is allowed
small_up : (m n : ℕ) (t : Totals) → m ≤ n → Small m t → Small n t
small_up m n t l s = record {
  evictions = omega (arith, l, s.evictions);
  cuts = omega (arith, l, s.cuts);
  penalised = omega (arith, l, s.penalised);
  longest = s.longest;
}

tallied_event : (n : ℕ) (p : Plan) → Tallied n p → Tallied n (with_event p)
unfolding with_event
tallied_event n p t = record { small = t.small; waiting = t.waiting }

tallied_stale : (n : ℕ) (p : Plan) → Tallied n p → Tallied n (stale p).plan
unfolding stale
tallied_stale n p t = t

tallied_arrives : (n : ℕ) (p : Plan) (id : ℕ) → Tallied n p → Tallied n (arrives p id).plan
unfolding arrives said joins
tallied_arrives n p id t =
    let w : onward p.waiting 128 ≤ 128 = onward_fits p.waiting 128 t.waiting in
    record { small = joined_small n (onward p.waiting 128) p.totals w t.small; waiting = w }

tallied_completes : (n : ℕ) (p : Plan) (id : ℕ) → Tallied n p → Tallied n (completes p id).plan
unfolding completes said
tallied_completes n p id t = record { small = t.small; waiting = t.waiting }

tallied_fails : (n : ℕ) (p : Plan) (id : ℕ) → length p.queue ≡ 128 → Tallied n p → Tallied n (times_out p id).plan
unfolding times_out said
tallied_fails n p id q t = record { small = t.small; waiting = still_most _ p.queue p.waiting q }

tallied_kind : (n : ℕ) (kind : EventKind) (p : Plan) (e : Event) → length p.queue ≡ 128 → Tallied n p → Tallied n (by_kind kind p e).plan
unfolding completed timed_out
tallied_kind n Empty p e q t = tallied_stale n p t
tallied_kind n Arrival p e q t = tallied_arrives n p e.job t
tallied_kind n Completion p e q t = pick_either (λ (m : Moment). Tallied n m.plan) (of_run (job_of p e.job) e.generation)
    (completes p e.job) (stale p) (tallied_completes n p e.job t) (tallied_stale n p t)
tallied_kind n Timeout p e q t = pick_either (λ (m : Moment). Tallied n m.plan) (of_timeout (job_of p e.job) e.generation)
    (times_out p e.job) (stale p) (tallied_fails n p e.job q t) (tallied_stale n p t)

-- a pass and its starts count at most 128 more
tallied_settled : (n k : ℕ) (jobs₀ : List Job) (h : List Decision) (m : Moment) → Amid jobs₀ k h m → Tallied n m.plan → Tallied (n + 128) (settled m).plan
unfolding settled with_pass starts_of pass_of new_pass new_line sorted
tallied_settled n k jobs₀ h m a t =
    let p : Plan = m.plan in
    let line : _ = new_line p.queue p.waiting p.totals m.log m.ok in
    let sized : _ = new_sized p.queue p.waiting p.totals m.log m.ok a.between.queue a.table in
    let so : Standing (pass_of m) = pass_standing p.setting p.clock p.gpus p.jobs line a.between.gpus a.between.good.size sized refl in
    let e : n + 0 ≡ n = omega arith in
    let f : PassFits n (pass_of m) = pass_keeps p.setting p.clock p.gpus p.jobs line a.between.gpus a.between.good.size sized
    refl (PassFits n) (pass_fits p.setting p.clock n) (rw e (record { small = t.small; waiting = t.waiting })) in
    let ps : List Placing = take (pass_of m).count (pass_of m).placed in
    let l : length ps ≡ (pass_of m).count = sym (length-map ps (λ x. x.job)) ∙ so.count in
    record {
      small = small_up (n + (pass_of m).line.evicted + length ps) (n + 128) _ (omega (arith, l, few (pass_of m) so))
          (starts_small p.setting.options p.clock (n + (pass_of m).line.evicted) _ ps f.small);
      waiting = still_most _ (pass_of m).line.queue (pass_of m).line.waiting so.line.queue;
    }

tallied_step : (n k : ℕ) (jobs₀ : List Job) (h : List Decision) (p : Plan) → Between jobs₀ k h p → has_event p ≡ true → Tallied n p → Tallied (n + 128) (advanced p).plan
unfolding advanced
tallied_step n k jobs₀ h p b has t =
    let m : Moment = happened (with_event p) (next_event p) in
    let one : Tallied n m.plan = tallied_kind n (next_event p).kind (with_event p) (next_event p) (event_taken jobs₀ k h p b has).queue (tallied_event n p t) in
    pick_either (λ (x : Moment). Tallied (n + 128) x.plan) m.goes (settled m) m
    (tallied_settled n (k + 1) jobs₀ h m (happened_amid jobs₀ k h p b has) one)
    (record { small = small_up n (n + 128) m.plan.totals (omega arith) one.small; waiting = one.waiting })

-- as loaded
tallied_loaded : (p : Plan) → Ready p → Tallied 0 p
tallied_loaded p r = record {
  small = rw r.totals
      (record { evictions = omega arith; cuts = omega arith; penalised = omega arith; longest = omega arith });
  waiting = omega (arith, r.waiting);
}

tallied : (trace : List ℕ) (k : ℕ) (p : Plan) (h : List Decision) → Reached trace k p h → Tallied (128 * k) p
tallied trace k p h (begin e) = tallied_loaded (load trace).plan (load_ready trace e)
tallied trace k p h (Conditions.onward {k = n} {p = q} {h = g} r buffer e) =
    let b : Between (first trace).jobs n g q × (q.setting ≡ (first trace).setting) = reached_between trace n q g r in
    let a : _ = accepted_for q buffer e in
    let s : (stepped q (length buffer)).plan ≡ (advanced q).plan = ap (λ x. x.plan) (accepted_plan q buffer e) in
    let m : 128 * (n + 1) ≡ 128 * n + 128 = omega arith in
    rw (s, m) (tallied_step (128 * n) n (first trace).jobs g q b.0 a.1 (tallied trace n q g r))

-- ---- the theorem

-- Far below where any of them would wrap: 32 bits for what a job counts, 64 for the rest.
pub record FarFromWrapping (p : Plan) : Type 0 where
  pub number : p.next ≤ 1152
  pub evictions : (j : ℕ) → (job_at p.jobs j).evictions ≤ 3
  pub run : (j : ℕ) → (job_at p.jobs j).run ≤ 4
  pub timeouts : (j : ℕ) → (job_at p.jobs j).timeouts ≤ 5
  pub totals : Small 147456 p.totals
  pub waiting : p.waiting ≤ 128

pub none_wraps : (trace : List ℕ) (k : ℕ) (p : Plan) (h : List Decision) → Reached trace k p h → FarFromWrapping p
none_wraps trace k p h r =
    let b : Between (first trace).jobs k h p = (reached_between trace k p h r).0 in
    let t : Tallied (128 * k) p = tallied trace k p h r in
    let n : (first trace).setting.jobs ≤ 128 = let e : p.setting.jobs ≡ (first trace).setting.jobs =
    ap (λ s. s.jobs) (reached_between trace k p h r).1 in omega (arith, e, b.loaded) in
    record {
      number = omega (arith, n, room_enough trace k p h r);
      evictions = λ j. (b.good.each j).few;
      run = λ j. omega (arith, (b.good.each j).run_is, (b.good.each j).few, begun_most (job_at p.jobs j).state);
      timeouts = λ j. omega (
        arith,
        (b.good.each j).run_is,
        (b.good.each j).few,
        (b.good.each j).waits_few,
        begun_most (job_at p.jobs j).state,
        came_most (job_at p.jobs j).state,
      );
      totals = small_up (128 * k) 147456 p.totals (omega (arith, n, few_steps trace k p h r)) t.small;
      waiting = t.waiting;
    }
