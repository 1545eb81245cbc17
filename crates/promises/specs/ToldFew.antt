-- A trace of n jobs tells at most 9n decisions, over any number of accepted steps; a step tells at most 129, and its table cuts none of them.
use Rattle.std.specs.Prelude.{◌≡◌, refl, Bool, List, ℕ, ◌+◌, ◌*◌, ◌≤◌, ◌<◌, eqb, length, take}
use Rattle.std.proofs.Common.{sym, ap, ◌∙◌, arith, length-append, length-take-le}
use Rattle.std.proofs.Math.Bool.{true}
use Rattle.std.proofs.lemmas.List.{length-map}
use Rattle.laws.specs.Choice.{pick_cases, pick_either}
use Rattle.laws.specs.Tests.{and_both}
use Rattle.laws.specs.Lists.{Distinct, all_of, distinct_right}
use Rattle.laws.specs.Sums.{sum_none}
use Rattle.model.specs.Job.{no_job}
use Rattle.model.specs.Number.{bits_of}
use Rattle.model.specs.declared.event.EventKind.{EventKind}
use Rattle.model.specs.declared.event.EventKind.TheVariants.{Empty, Arrival, Completion, Timeout}
use Rattle.model.specs.declared.job.Job.{Job}
use Rattle.model.specs.declared.job.JobState.TheVariants.{Pending, Waiting, Running}
use Rattle.model.specs.declared.plan.Plan.{Plan}
use Rattle.decision_log.specs.Log.{empty_log, told, decisions}
use Rattle.decision_log.specs.declared.Decision.{Decision}
use Rattle.decision_log.specs.declared.Kind.{Kind}
use Rattle.life.specs.Life as Life
use Rattle.cluster.specs.Usage.{runs}
use Rattle.line.specs.Keep.{waits_in}
use Rattle.line.specs.Line.{new_line}
use Rattle.apart.specs.Keeps.{waits_only}
use Rattle.apart.specs.CandidateLaws.{runs_only}
use Rattle.apart.specs.LineLaws.{victims_of, new_sized}
use Rattle.apart.specs.Standing.{Standing, placed_of, few}
use Rattle.apart.specs.PassLaws.{pass_keeps}
use Rattle.apart.specs.StartsLaws.{all_table, all_count}
use Rattle.starts.specs.Begin.{begun_all}
use Rattle.starts.specs.Timeout.{timeouts_queued}
use Rattle.starts.specs.declared.begin.Begun.{Begun}
use Rattle.starts.specs.declared.begin.Placing.{Placing}
use Rattle.pass.specs.Visit.{new_pass}
use Rattle.pass.specs.Walk.{sorted}
use Rattle.pass.specs.declared.visit.Pass.{Pass}
use Rattle.happen.specs.Happen.{job_of, stale, said, joins, arrives, completes, times_out, of_run, of_timeout, completed, timed_out}
use Rattle.happen.specs.declared.Moment.{Moment}
use Rattle.engine.specs.Settle.{pass_of, starts_of, with_pass, settled}
use Rattle.engine.specs.Advance.{next_event, has_event, with_event, by_kind, happened, advanced}
use Rattle.planner.specs.Step.{stepped}
use Rattle.planner.specs.StepLaws.{accepted_for, accepted_plan}
use Rattle.history.specs.Good.{job_at, came}
use Rattle.history.specs.Changes.{in_table}
use Rattle.history.specs.PassOwed.{arrived_not}
use Rattle.history.specs.Decided.{decided_of, all_decided, PassDecided, decided_new, decided_waits, decided_fails, decided_ends, decided_set, all_decided_few, pass_decided, starts_decided}
use Rattle.promises.specs.LoadedLaws.{Ready, load_ready}
use Rattle.promises.specs.Between.{Between, Amid, Passed, passed, few_runs}
use Rattle.promises.specs.Steps.{event_taken, happened_amid}
use Rattle.promises.specs.QueueSteps.{event_jobs, arrival_pending}
use Rattle.promises.specs.Conditions as Conditions
use Rattle.promises.specs.Conditions.{Reached, begin, first, reached_between}

-- the jobs' records say as many decisions more than before as the moment tells
abbrev Raised : List Job → Moment → Type 0
Raised jobs m = all_decided m.plan.jobs ≡ all_decided jobs + m.log.count

-- ---- the event

one_count : (time : ℕ) (kind : Kind) (job other : ℕ) → (told empty_log time kind job other).count ≡ 1
unfolding told empty_log
one_count time kind job other = refl

stale_raised : (p : Plan) → Raised p.jobs (stale p)
unfolding stale empty_log
stale_raised p = omega arith

said_raised : (jobs : List Job) (p : Plan) (ok : Bool) (kind : Kind) (job other : ℕ) → all_decided p.jobs ≡ all_decided jobs + 1 → Raised jobs (said p ok kind job other)
unfolding said
said_raised jobs p ok kind job other e = omega (arith, e, one_count (bits_of p.clock) kind job other)

module _ (p : Plan) (id : ℕ) (size : length p.jobs ≡ 128) (small : id < 128) where
  arrives_raised : (job_at p.jobs id).state ≡ Pending → Raised p.jobs (arrives p id)
  unfolding arrives joins
  arrives_raised e =
      said_raised p.jobs _ _ _ id 0 (decided_set p.jobs id (Life.waits (job_of p id) p.clock) (omega arith) (decided_waits (job_of p id) p.clock e))

  completes_raised : (job_at p.jobs id).state ≡ Running → Raised p.jobs (completes p id)
  unfolding completes
  completes_raised e =
      said_raised p.jobs _ true _ id _ (decided_set p.jobs id (Life.ends (job_of p id)) (omega arith) (decided_ends (job_of p id) e))

  fails_raised : (job_at p.jobs id).state ≡ Waiting → Raised p.jobs (times_out p id)
  unfolding times_out
  fails_raised e =
      said_raised p.jobs _ _ _ id 0 (decided_set p.jobs id (Life.fails (job_of p id) p.clock) (omega arith) (decided_fails (job_of p id) p.clock e))

module _ (jobs₀ : List Job) (k : ℕ) (h : List Decision) (p : Plan) (b : Between jobs₀ k h p) (has : has_event p ≡ true) where
  size_then : length (with_event p).jobs ≡ 128
  size_then = (event_taken jobs₀ k h p b has).good.size

  kind_raised : (kind : EventKind) → (next_event p).kind ≡ kind → Raised (with_event p).jobs (by_kind kind (with_event p) (next_event p))
  unfolding completed timed_out
  kind_raised Empty e = stale_raised (with_event p)
  kind_raised Arrival e =
      let f : ((next_event p).job < 128) × ((job_at p.jobs (next_event p).job).state ≡ Pending) = arrival_pending jobs₀ k h p b has e in
      arrives_raised (with_event p) (next_event p).job size_then f.0 (rw (event_jobs p) f.1)
  kind_raised Completion e =
      pick_cases
      (Raised (with_event p).jobs)
      (of_run (job_of (with_event p) (next_event p).job) (next_event p).generation)
      (completes (with_event p) (next_event p).job)
      (stale (with_event p))
      (λ t.
      let st : (job_at (with_event p).jobs (next_event p).job).state ≡ Running =
      runs_only (job_at (with_event p).jobs (next_event p).job).state
      (and_both (runs (job_at (with_event p).jobs (next_event p).job).state)
      (eqb (job_at (with_event p).jobs (next_event p).job).run (next_event p).generation) t).0 in
      completes_raised (with_event p) (next_event p).job size_then
      (in_table (with_event p).jobs (next_event p).job size_then (arrived_not (job_at (with_event p).jobs (next_event p).job).state (ap came st))) st)
      (λ f. stale_raised (with_event p))
  kind_raised Timeout e =
      pick_cases
      (Raised (with_event p).jobs)
      (of_timeout (job_of (with_event p) (next_event p).job) (next_event p).generation)
      (times_out (with_event p) (next_event p).job)
      (stale (with_event p))
      (λ t.
      let st : (job_at (with_event p).jobs (next_event p).job).state ≡ Waiting =
      waits_only (job_at (with_event p).jobs (next_event p).job).state
      (and_both (waits_in (job_at (with_event p).jobs (next_event p).job).state)
      (eqb (job_at (with_event p).jobs (next_event p).job).timeouts (next_event p).generation) t).0 in
      fails_raised (with_event p) (next_event p).job size_then
      (in_table (with_event p).jobs (next_event p).job size_then (arrived_not (job_at (with_event p).jobs (next_event p).job).state (ap came st))) st)
      (λ f. stale_raised (with_event p))

-- ---- the pass and its starts

-- what a moment tells fits its table, and is what the records say beyond the jobs before
pub record ToldSo (jobs : List Job) (m : Moment) : Type 0 where
  pub raised : all_decided m.plan.jobs ≡ all_decided jobs + m.log.count
  pub table : length m.log.table ≡ 129
  pub fits : m.log.count ≤ 129

settled_told : (jobs₀ jobs : List Job) (k : ℕ) (h : List Decision) (m : Moment) → Amid jobs₀ k h m → Raised jobs m → ToldSo jobs (settled m)
unfolding settled with_pass starts_of pass_of new_pass new_line sorted
settled_told jobs₀ jobs k h m a e =
    let p : Plan = m.plan in
    let q : Pass = pass_of m in
    let line : _ = new_line p.queue p.waiting p.totals m.log m.ok in
    let sized : _ = new_sized p.queue p.waiting p.totals m.log m.ok a.between.queue a.table in
    let w : Passed jobs₀ h m.log.count p q = passed jobs₀ k h m a in
    let so : Standing q = w.standing in
    let left : all_decided q.jobs ≡ all_decided p.jobs + length (victims_of q.line) =
    pass_keeps p.setting p.clock p.gpus p.jobs line a.between.gpus a.between.good.size sized refl
    (PassDecided (all_decided p.jobs)) (pass_decided p.setting p.clock (all_decided p.jobs)) (omega arith) in
    let ps : List Placing = take q.count q.placed in
    let l : length ps ≡ q.count = sym (length-map ps (λ x. x.job)) ∙ so.count in
    let d : Distinct (placed_of q) = distinct_right (victims_of q.line) (placed_of q) so.once in
    let b : Begun = record {
      jobs = q.jobs;
      ahead = timeouts_queued p.clock q.jobs (record { events = p.events; next = p.next; ok = q.line.ok }) (victims_of q.line);
      totals = q.line.totals;
      log = q.line.log;
    } in
    let began : all_decided (begun_all p.setting.options p.clock b ps).jobs ≡ all_decided q.jobs + length ps =
    starts_decided p.setting.options p.clock b ps so.jobs d (few_runs q.jobs (placed_of q) w.good.good.each so.placed_are) in
    let n : (begun_all p.setting.options p.clock b ps).log.count ≡ q.line.log.count + length ps =
    all_count p.setting.options p.clock b ps (omega (arith, l, w.good.told, a.own, few q so)) in
    record {
      raised = omega (arith, began, n, left, e, w.good.told, so.evicted);
      table = all_table p.setting.options p.clock b ps ∙ so.line.log;
      fits = omega (arith, n, l, w.good.told, a.own, few q so);
    }

-- ---- the step

pub step_told : (jobs₀ : List Job) (k : ℕ) (h : List Decision) (p : Plan) → Between jobs₀ k h p → has_event p ≡ true → ToldSo p.jobs (advanced p)
unfolding advanced
step_told jobs₀ k h p b has =
    let m : Moment = happened (with_event p) (next_event p) in
    let a : Amid jobs₀ (k + 1) h m = happened_amid jobs₀ k h p b has in
    let r : Raised p.jobs m = kind_raised jobs₀ k h p b has (next_event p).kind refl ∙ ap (λ (js : List Job). all_decided js + m.log.count) (event_jobs p) in
    pick_either (ToldSo p.jobs) m.goes (settled m) m (settled_told jobs₀ p.jobs (k + 1) h m a r)
    (record { raised = r; table = a.table; fits = omega (arith, a.own) })

-- what a step tells is as many decisions as it answers, since the table cuts none of them
pub told_length : (jobs : List Job) (m : Moment) → ToldSo jobs m → length (decisions m.log) ≡ m.log.count
told_length jobs m t = length-take-le m.log.count m.log.table (omega (arith, t.table, t.fits))

-- ---- any number of steps

loaded_none : (p : Plan) → Ready p → all_decided p.jobs ≡ 0
loaded_none p r =
    sum_none decided_of p.jobs (all_of (λ j. decided_of j ≡ 0) p.jobs no_job (λ i b. ap decided_of (r.fresh i) ∙ decided_new (job_at p.jobs i).ask))

-- The history has exactly the decisions that the jobs' records say.
pub all_told : (trace : List ℕ) (k : ℕ) (p : Plan) (h : List Decision) → Reached trace k p h → length h ≡ all_decided p.jobs
all_told trace k p h (begin e) = sym (loaded_none (first trace) (load_ready trace e))
all_told trace k p h (Conditions.onward {k = n} {p = q} {h = g} r buffer e) =
    let s : (stepped q (length buffer)).plan ≡ (advanced q).plan = ap (λ x. x.plan) (accepted_plan q buffer e) in
    let t : ToldSo q.jobs (advanced q) = step_told (first trace).jobs n g q (reached_between trace n q g r).0 (accepted_for q buffer e).1 in
    let j : all_decided (stepped q (length buffer)).plan.jobs ≡ all_decided (advanced q).plan.jobs = ap (λ (x : Plan). all_decided x.jobs) s in
    omega (arith, length-append g (decisions (advanced q).log), told_length q.jobs (advanced q) t, t.raised, j, all_told trace n q g r)

module _ (trace : List ℕ) (k : ℕ) (p : Plan) (h : List Decision) (r : Reached trace k p h) where
  -- A trace of n jobs tells at most 9n decisions.
  pub few_decisions : length h ≤ 9 * (first trace).setting.jobs
  few_decisions =
      let b : Between (first trace).jobs k h p × (p.setting ≡ (first trace).setting) = reached_between trace k p h r in
      omega (arith, all_told trace k p h r, ap (λ s. s.jobs) b.1, all_decided_few p.setting.jobs p.jobs b.0.rest b.0.good.each)

  -- And a step that has an event tells at most 129, exactly as many as it answers.
  pub step_decisions : has_event p ≡ true → (length (decisions (advanced p).log) ≡ (advanced p).log.count) × ((advanced p).log.count ≤ 129)
  step_decisions has =
      let t : ToldSo p.jobs (advanced p) = step_told (first trace).jobs k h p (reached_between trace k p h r).0 has in
      (told_length p.jobs (advanced p) t, t.fits)
