-- Every plan reached from a loaded trace has exactly one completion ahead for each running job's run.
use Rattle.std.specs.Prelude.{◌≡◌, true, false, List, eqb, length, take, set}
use Rattle.std.proofs.Math.Path.{refl}
use Rattle.std.proofs.Common.{sym, ap, ◌∙◌, ⊎_elim, arith, get_or-set_same, eq-eqb}
use Prim.Native.Nat.{ℕ, ◌+◌, ◌≤◌, ◌<◌}
use Rattle.laws.specs.Choice.{pick_cases, pick_either}
use Rattle.laws.specs.Tests.{never_both, and_both, both_and, le_or_lt}
use Rattle.laws.specs.Lists.{All, Distinct, all_weaken, all_both, all_of, distinct_right}
use Rattle.laws.specs.Sums.{sum_none}
use Rattle.model.specs.Event.{empty_event}
use Rattle.model.specs.Job.{no_job}
use Rattle.model.specs.declared.event.Event.{Event}
use Rattle.model.specs.declared.event.EventKind.{EventKind}
use Rattle.model.specs.declared.event.EventKind.TheVariants.{Empty, Arrival, Completion, Timeout}
use Rattle.model.specs.declared.job.Job.{Job}
use Rattle.model.specs.declared.job.JobState.{JobState}
use Rattle.model.specs.declared.job.JobState.TheVariants.{Waiting, Placed, Running}
use Rattle.model.specs.declared.plan.Plan.{Plan}
use Rattle.decision_log.specs.declared.Decision.{Decision}
use Rattle.loader.specs.Load.{load}
use Rattle.life.specs.Life as Life
use Rattle.cluster.specs.Usage.{runs}
use Rattle.line.specs.Line.{new_line}
use Rattle.apart.specs.LineLaws.{victims_of, new_sized}
use Rattle.apart.specs.Standing.{Standing, InState, placed_of}
use Rattle.apart.specs.Changes.{Changes}
use Rattle.apart.specs.PassLaws.{pass_changes, pass_standing}
use Rattle.room.specs.Room.{event_at, least}
use Rattle.room.specs.declared.ahead.Ahead.{Ahead}
use Rattle.starts.specs.Timeout.{timeouts_queued}
use Rattle.starts.specs.Begin.{begun_all}
use Rattle.starts.specs.declared.begin.Placing.{Placing}
use Rattle.starts.specs.declared.begin.Begun.{Begun}
use Rattle.pass.specs.declared.visit.Pass.{Pass}
use Rattle.happen.specs.Happen.{stale, said, joins, arrives, completes, times_out, of_run, of_timeout, completed, timed_out}
use Rattle.happen.specs.Happen as Happen
use Rattle.happen.specs.declared.Moment.{Moment}
use Rattle.engine.specs.Settle.{pass_of, starts_of, with_pass, settled}
use Rattle.engine.specs.Advance.{next_event, has_event, with_event, by_kind, happened, advanced}
use Rattle.planner.specs.Step.{stepped}
use Rattle.planner.specs.StepLaws.{accepted_for, accepted_plan}
use Rattle.history.specs.Good.{job_at, begun}
use Rattle.history.specs.Changes.{in_table}
use Rattle.history.specs.Good.{came}
use Rattle.history.specs.PassOwed.{arrived_not}
use Rattle.history.specs.Entries.{in_use, used_inside}
use Rattle.promises.specs.LoadedLaws.{Ready, load_ready}
use Rattle.promises.specs.Between.{Between, Amid, nine, settled_between}
use Rattle.apart.specs.CandidateLaws.{runs_only}
use Rattle.promises.specs.Steps.{event_taken, happened_amid}
use Rattle.promises.specs.Conditions.{Reached, begin, onward, first, reached_between}
use Rattle.promises.specs.Completions.{is_completion, end_one, completions_of, end_not}
use Rattle.promises.specs.Ending.{Ending, quiet_set, ending_quiet, ending_taken, quiet_pass, Beside, beside_none, other_kind, timeout_beside, timeouts_beside, Fresh, starts_end}

abbrev pub Ends : Plan → Type 0
Ends p = Ending p.jobs p.events

-- ---- what follows an event

-- the starts begin with the jobs as the pass left them, and the victims' timeouts queued
abbrev pub to_start : Plan → Pass → Begun
to_start p q =
    record {
      jobs = q.jobs;
      ahead = timeouts_queued p.clock q.jobs (record { events = p.events; next = p.next; ok = q.line.ok }) (victims_of q.line);
      totals = q.line.totals;
      log = q.line.log;
    }

abbrev pub placings : Pass → List Placing
placings q = take q.count q.placed

abbrev pub all_started : Plan → Pass → Begun
all_started p q = begun_all p.setting.options p.clock (to_start p q) (placings q)

pub settled_is : (m : Moment) → ((settled m).plan.jobs ≡ (all_started m.plan (pass_of m)).jobs) ×
    ((settled m).plan.events ≡ (all_started m.plan (pass_of m)).ahead.events) × ((settled m).log ≡ (all_started m.plan (pass_of m)).log)
unfolding settled with_pass starts_of
settled_is m = (refl, refl, refl)

module _ (jobs₀ : List Job) (k : ℕ) (h : List Decision) (m : Moment) (a : Amid jobs₀ k h m) where
  pub changes_of : Changes m.plan.clock m.plan.jobs (pass_of m)
  unfolding pass_of new_line
  changes_of =
      let p : Plan = m.plan in
      pass_changes p.setting p.clock p.gpus p.jobs (new_line p.queue p.waiting p.totals m.log m.ok) a.between.gpus
      a.between.good.size (new_sized p.queue p.waiting p.totals m.log m.ok a.between.queue a.table) refl

  pub standing_of : Standing (pass_of m)
  unfolding pass_of new_line
  standing_of =
      let p : Plan = m.plan in
      pass_standing p.setting p.clock p.gpus p.jobs (new_line p.queue p.waiting p.totals m.log m.ok) a.between.gpus
      a.between.good.size (new_sized p.queue p.waiting p.totals m.log m.ok a.between.queue a.table) refl

  -- those that the pass placed, apart from each other
  pub placed_once : Distinct (placed_of (pass_of m))
  placed_once = distinct_right (victims_of (pass_of m).line) (placed_of (pass_of m)) standing_of.once

  -- each has run few times
  pub placed_fresh : All (Fresh m.plan.setting.options m.plan.clock (pass_of m).jobs) (placed_of (pass_of m))
  placed_fresh =
      all_weaken
      (λ i. InState Placed (pass_of m).jobs i × (((job_at m.plan.jobs i).state ≡ Waiting) × (job_at (pass_of m).jobs i ≡ Life.placed (job_at m.plan.jobs i))))
      (Fresh m.plan.setting.options m.plan.clock (pass_of m).jobs)
      (placed_of (pass_of m))
      (λ i x.
      let r : (job_at m.plan.jobs i).run ≡ (job_at m.plan.jobs i).evictions + 0 = (a.between.good.each i).run_is
      ∙ ap (λ (st : JobState). (job_at m.plan.jobs i).evictions + begun st) x.1.0 in (
        omega (arith, standing_of.jobs, x.0.0),
        omega (arith, r, (a.between.good.each i).few, (quiet_pass m.plan.clock m.plan.jobs (pass_of m) changes_of i).0),
      ))
      (all_both (InState Placed (pass_of m).jobs)
      (λ i. ((job_at m.plan.jobs i).state ≡ Waiting) × (job_at (pass_of m).jobs i ≡ Life.placed (job_at m.plan.jobs i)))
      (placed_of (pass_of m)) standing_of.placed_are changes_of.placed)

  -- the victims' timeouts
  pub timeouts_of : Beside m.plan.events (to_start m.plan (pass_of m)).ahead.events
  timeouts_of =
      timeouts_beside m.plan.clock (pass_of m).jobs (record { events = m.plan.events; next = m.plan.next; ok = (pass_of m).line.ok })
      (victims_of (pass_of m).line) a.between.counted.size

  module _ (one : 1 ≤ k) where
    -- there is room to the end
    pub room_of : in_use (all_started m.plan (pass_of m)).ahead.events < 1152
    room_of =
        let s : Between jobs₀ k _ (settled m).plan = settled_between jobs₀ k h one m a in
        let u : in_use (settled m).plan.events ≡ in_use (all_started m.plan (pass_of m)).ahead.events = ap in_use (settled_is m).1 in
        omega (arith, u, one, s.counted.count, s.given, s.loaded, nine jobs₀ (settled m).plan.setting (settled m).plan.jobs _ s.loaded s.good s.rest)

    pub settled_ends : Ends m.plan → Ends (settled m).plan
    settled_ends e =
        rw ((settled_is m).0, (settled_is m).1)
        (starts_end m.plan.setting.options m.plan.clock (to_start m.plan (pass_of m)) (placings (pass_of m)) placed_once placed_fresh
        timeouts_of.wider.size room_of
        (ending_quiet m.plan.jobs (pass_of m).jobs (quiet_pass m.plan.clock m.plan.jobs (pass_of m) changes_of) m.plan.events e
        (to_start m.plan (pass_of m)).ahead.events timeouts_of.same))

-- ---- what an event says

stale_ends : (p : Plan) → Ends p → Ends (stale p).plan
unfolding stale
stale_ends p e = e

arrives_ends : (p : Plan) (id : ℕ) → length p.events ≡ 1152 → Ends p → Ends (arrives p id).plan
unfolding arrives said joins Life.waits
arrives_ends p id s e =
    let x : Job = Life.waits (Happen.job_of p id) p.clock in
    let a : Ahead = record { events = p.events; next = p.next; ok = true } in
    let b : Beside p.events _ = timeout_beside p.events a id x x.ask.arrival (beside_none p.events s) in
    ending_quiet p.jobs (set p.jobs id x) (quiet_set p.jobs id x refl (λ st. absurd (never_both (ap runs st) refl))) p.events e _ b.same

fails_ends : (p : Plan) (id : ℕ) → Ends p → Ends (times_out p id).plan
unfolding times_out said Life.fails
fails_ends p id e =
    let x : Job = Life.fails (Happen.job_of p id) p.clock in
    ending_quiet p.jobs (set p.jobs id x) (quiet_set p.jobs id x refl (λ st. absurd (never_both (ap runs st) refl))) p.events e p.events (λ j g. refl)

module _ (jobs₀ : List Job) (k : ℕ) (h : List Decision) (p : Plan) (b : Between jobs₀ k h p) (has : has_event p ≡ true) where
  pub next_inside : least p.events < 1152
  unfolding has_event next_event
  next_inside = used_inside p.events b.counted.size (least p.events) has

  module _ (e : Ends p) where
    -- an event that ends no run that goes on
    event_ends : ((j : ℕ) → (job_at p.jobs j).state ≡ Running → end_one j (job_at p.jobs j).run (next_event p) ≡ 0) → Ends (with_event p)
    unfolding with_event next_event
    event_ends none = ending_taken p.jobs p.jobs (λ i. (refl, λ s. s)) p.events e (least p.events) b.counted.size next_inside none

    not_end : is_completion (next_event p).kind ≡ false → Ends (with_event p)
    not_end n = event_ends (λ j s. other_kind j (job_at p.jobs j).run (next_event p) n)

    same_jobs : (with_event p).jobs ≡ p.jobs
    unfolding with_event
    same_jobs = refl

    -- a completion that no run waits for
    stale_end : of_run (Happen.job_of (with_event p) (next_event p).job) (next_event p).generation ≡ false → Ends (with_event p)
    stale_end f =
        event_ends
        (λ j s. end_not j (job_at p.jobs j).run (next_event p)
        (λ x.
        let r : job_at (with_event p).jobs (next_event p).job ≡ job_at p.jobs j = rw (same_jobs, x.job) in
        never_both (both_and (runs (job_at (with_event p).jobs (next_event p).job).state)
        (eqb (job_at (with_event p).jobs (next_event p).job).run (next_event p).generation) (rw (r, s))
        (eq-eqb (job_at (with_event p).jobs (next_event p).job).run (next_event p).generation (rw r (sym x.generation)))) f))

    -- the completion of a run
    run_end : (next_event p).job < 128 → Ends (completes (with_event p) (next_event p).job).plan
    unfolding completes said with_event next_event Life.ends
    run_end small =
        let id : ℕ = (next_event p).job in
        let x : Job = Life.ends (job_at p.jobs id) in
        ending_taken p.jobs (set p.jobs id x) (quiet_set p.jobs id x refl (λ st. absurd (never_both (ap runs st) refl))) p.events e
        (least p.events) b.counted.size next_inside
        (λ j s. end_not j (job_at p.jobs j).run (next_event p)
        (λ y.
        let t : job_at (set p.jobs id x) j ≡ x = rw (← y.job) (get_or-set_same p.jobs id x no_job (omega (arith, small, b.good.size))) in
        never_both (ap runs s) (ap (λ (z : Job). runs z.state) t)))

    kind_ends : (kind : EventKind) → (next_event p).kind ≡ kind → Ends (by_kind kind (with_event p) (next_event p)).plan
    unfolding completed timed_out
    kind_ends Empty q = stale_ends (with_event p) (not_end (ap is_completion q))
    kind_ends Arrival q = arrives_ends (with_event p) (next_event p).job (event_taken jobs₀ k h p b has).counted.size (not_end (ap is_completion q))
    kind_ends Completion q =
        pick_cases
        (λ (m : Moment). Ends m.plan)
        (of_run (Happen.job_of (with_event p) (next_event p).job) (next_event p).generation)
        (completes (with_event p) (next_event p).job)
        (stale (with_event p))
        (λ t.
        let st : (job_at (with_event p).jobs (next_event p).job).state ≡ Running =
        runs_only (job_at (with_event p).jobs (next_event p).job).state
        (and_both (runs (job_at (with_event p).jobs (next_event p).job).state)
        (eqb (job_at (with_event p).jobs (next_event p).job).run (next_event p).generation) t).0 in
        run_end (in_table (with_event p).jobs (next_event p).job (rw same_jobs b.good.size)
        (arrived_not (job_at (with_event p).jobs (next_event p).job).state (ap came st))))
        (λ f. stale_ends (with_event p) (stale_end f))
    kind_ends Timeout q =
        pick_either
        (λ (m : Moment). Ends m.plan)
        (of_timeout (Happen.job_of (with_event p) (next_event p).job) (next_event p).generation)
        (times_out (with_event p) (next_event p).job)
        (stale (with_event p))
        (fails_ends (with_event p) (next_event p).job (not_end (ap is_completion q)))
        (stale_ends (with_event p) (not_end (ap is_completion q)))

    -- a step keeps it
    pub step_ends : Ends (advanced p).plan
    unfolding advanced
    step_ends =
        let m : Moment = happened (with_event p) (next_event p) in
        pick_either (λ (x : Moment). Ends x.plan) m.goes (settled m) m
        (settled_ends jobs₀ (k + 1) h m (happened_amid jobs₀ k h p b has) (omega arith) (kind_ends (next_event p).kind refl)) (kind_ends (next_event p).kind refl)

-- ---- every plan reached

-- a plan as loaded has no completion ahead, and nobody runs
loaded_ends : (p : Plan) → Ready p → Ends p
loaded_ends p r =
    record {
      later = λ j g l. none j g;
      own = λ j s. absurd (never_both (ap runs s) (ap runs (r.pending j)));
    }
  where
    none : (j g : ℕ) → completions_of j g p.events ≡ 0
    none j g =
        sum_none (end_one j g) p.events
        (all_of (λ x. end_one j g x ≡ 0) p.events empty_event
        (λ i l. ⊎_elim
        (λ past. other_kind j g (event_at p.events i) (ap (λ (x : Event). is_completion x.kind) (r.empty i past)))
        (λ inside. other_kind j g (event_at p.events i) (ap (λ (x : Event). is_completion x.kind) (r.arrival i inside)))
        (le_or_lt p.setting.jobs i)))

pub reached_ends : (trace : List ℕ) (k : ℕ) (p : Plan) (h : List Decision) → Reached trace k p h → Ends p
reached_ends trace k p h (begin e) = loaded_ends (load trace).plan (load_ready trace e)
reached_ends trace k p h (onward {k = n} {p = q} {h = g} r buffer e) =
    let s : (stepped q (length buffer)).plan ≡ (advanced q).plan = ap (λ x. x.plan) (accepted_plan q buffer e) in
    rw s (step_ends (first trace).jobs n g q (reached_between trace n q g r).0 (accepted_for q buffer e).1 (reached_ends trace n q g r))
