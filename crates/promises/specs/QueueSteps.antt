-- A step keeps the queue: it holds exactly the waiting jobs, each once, and as many as are counted.
use Rattle.std.specs.Prelude.{◌≡◌, refl, true, false, eqb, length, get_or, take, set, Float}
use Rattle.std.proofs.Math.Path.{sym}
use Rattle.std.proofs.Common.{ap, ◌∙◌, arith, length-append, get_or-set_same, get_or-set_other, length-take-le, eq-eqb}
use mathlib.Core.List.{List, [], ◌∷◌, ◌++◌, append-nil}
use Prim.Native.Nat.{ℕ, ◌+◌, ◌≤◌, ◌<◌, min}
use Rattle.laws.specs.Choice.{pick_cases, pick_either}
use Rattle.laws.specs.Tests.{never_both, and_both, or_none}
use Rattle.laws.specs.Lists.{set_related, pad, pad_take}
use Rattle.laws.specs.Search.{has}
use Rattle.laws.specs.Loop.{through, through_keeps}
use Rattle.small.specs.Small.{onward_room, onward_take}
use Rattle.model.specs.Job.{no_job}
use Rattle.model.specs.declared.event.EventKind.{EventKind}
use Rattle.model.specs.declared.event.EventKind.TheVariants.{Empty, Arrival, Completion, Timeout}
use Rattle.model.specs.declared.job.Job.{Job}
use Rattle.model.specs.declared.job.JobState.{JobState}
use Rattle.model.specs.declared.job.JobState.TheVariants.{Pending, Waiting, Placed, Running, Finished, Failed}
use Rattle.model.specs.declared.plan.Plan.{Plan}
use Rattle.model.specs.declared.setting.Setting.{Setting}
use Rattle.decision_log.specs.declared.Decision.{Decision}
use Rattle.life.specs.Life as Life
use Rattle.cluster.specs.Usage.{runs}
use Rattle.cluster.specs.Queue.{sorted_queue}
use Rattle.line.specs.Line.{new_line}
use Rattle.line.specs.Keep.{waits_in, waits, still_waiting}
use Rattle.line.specs.declared.join.Line.{Line}
use Rattle.apart.specs.LineLaws.{Sized, new_sized}
use Rattle.apart.specs.Leaving.{sorted_length, leaving, leaving_may, leaving_once}
use Rattle.apart.specs.Keeps.{sorted_standing, visit_keeps}
use Rattle.apart.specs.Standing.{Standing}
use Rattle.apart.specs.PassLaws.{new_standing}
use Rattle.pass.specs.Visit.{new_pass}
use Rattle.pass.specs.Walk.{sorted, visit_at, walked}
use Rattle.pass.specs.declared.visit.Pass.{Pass}
use Rattle.happen.specs.Happen.{job_of, stale, said, joins, arrives, completes, times_out, of_run, of_timeout, completed, timed_out}
use Rattle.happen.specs.declared.Moment.{Moment}
use Rattle.engine.specs.Settle.{pass_of, starts_of, with_pass, settled}
use Rattle.engine.specs.Advance.{next_event, has_event, with_event, by_kind, happened, advanced}
use Rattle.history.specs.Good.{job_at}
use Rattle.history.specs.QueueLined.{waits_or_placed, Lined, set_waits, lined_changed, lined_sorted, lined_left, lined_few, join_room, lined_joined}
use Rattle.history.specs.QueuePass.{PassLined, leave_room, pass_lined, starts_wait}
use Rattle.promises.specs.Between.{Between, Amid}
use Rattle.apart.specs.CandidateLaws.{runs_only}
use Rattle.promises.specs.Happens.{not_came}
use Rattle.promises.specs.Steps.{event_taken, arrival_facts, happened_amid}

-- the queue, as far as it counts
abbrev pub in_queue : Plan → List ℕ
in_queue p = take p.waiting p.queue

pub record InLine (p : Plan) : Type 0 where
  pub lined : Lined waits_in p.jobs (in_queue p)
  pub count : p.waiting ≡ length (in_queue p)

-- what is left, stored from the front
left_count : (left : List ℕ) → length left ≡ length (take (length left) (pad 128 0 left))
left_count left = ap length (sym (pad_take 128 0 left))

-- ---- the event

pub event_jobs : (p : Plan) → (with_event p).jobs ≡ p.jobs
unfolding with_event
event_jobs p = refl

line_event : (p : Plan) → InLine p → InLine (with_event p)
unfolding with_event
line_event p l = record { lined = l.lined; count = l.count }

line_stale : (p : Plan) → InLine p → InLine (stale p).plan
unfolding stale
line_stale p l = l

-- An arrival has a place in the queue: the job is none of those that wait.
pub arrival_room : (p : Plan) (id : ℕ) → id < 128 → (job_at p.jobs id).state ≡ Pending → InLine p → p.waiting < 128
arrival_room p id small pending l =
    omega (arith, l.count, join_room waits_in p.jobs (in_queue p) (id ∷ []) l.lined (tt, tt) (ap waits_in pending, tt) (small, tt))

-- it stands at the queue's end, and is counted
pub arrival_joins : (p : Plan) (id : ℕ) → length p.queue ≡ 128 → p.waiting < 128 →
    (in_queue (arrives p id).plan ≡ in_queue p ++ (id ∷ [])) × ((arrives p id).plan.waiting ≡ p.waiting + 1)
unfolding arrives said joins
arrival_joins p id qs room = (onward_take p.queue p.waiting 128 id qs room, onward_room p.waiting 128 room)

line_arrives : (p : Plan) (id : ℕ) → length p.queue ≡ 128 → length p.jobs ≡ 128 → id < 128 → (job_at p.jobs id).state ≡ Pending → InLine p →
    InLine (arrives p id).plan
unfolding arrives said joins Life.waits
line_arrives p id qs js small pending l =
    let j : Job = Life.waits (job_of p id) p.clock in
    let q : List ℕ = in_queue p in
    let e : (in_queue (arrives p id).plan ≡ q ++ (id ∷ [])) × ((arrives p id).plan.waiting ≡ p.waiting + 1) =
    arrival_joins p id qs (arrival_room p id small pending l) in
    let n : length (in_queue (arrives p id).plan) ≡ length q + 1 = ap length e.0 ∙ length-append q (id ∷ []) in
    let there : job_at (set p.jobs id j) id ≡ j = get_or-set_same p.jobs id j no_job (omega (arith, js, small)) in
    let others : (k : ℕ) → has k (id ∷ []) ≡ false → job_at (set p.jobs id j) k ≡ job_at p.jobs k =
    λ k h. get_or-set_other p.jobs id k j no_job (λ s. never_both (eq-eqb k id s) (or_none (eqb k id) false h).0) in
    record {
      lined = rw e.0 (lined_joined waits_in p.jobs q (id ∷ []) l.lined (tt, tt) (ap waits_in pending, tt) (set p.jobs id j)
          ((small, ap (λ (x : Job). waits x) there), tt) others);
      count = omega (arith, e.1, n, l.count);
    }

line_completes : (p : Plan) (id : ℕ) → (job_at p.jobs id).state ≡ Running → InLine p → InLine (completes p id).plan
unfolding completes said Life.ends
line_completes p id run l =
    let j : Job = Life.ends (job_of p id) in
    record {
      lined = lined_changed waits_in waits_in p.jobs (set p.jobs id j) (in_queue p)
          (λ k. set_related p.jobs id j no_job (λ a b. waits a ≡ true → waits b ≡ true) (λ x h. h) (λ h. absurd (never_both h (ap waits_in run))) k)
          (set_waits p.jobs id j refl) l.lined;
      count = l.count;
    }

-- the job that failed waits no more, so it leaves the queue
line_fails : (p : Plan) (id : ℕ) → InLine p → InLine (times_out p id).plan
unfolding times_out said Life.fails
line_fails p id l =
    let j : Job = Life.fails (job_of p id) p.clock in
    let after : List Job = set p.jobs id j in
    let left : List ℕ = still_waiting after p.queue p.waiting in
    record {
      lined = rw (pad_take 128 0 left) (lined_left waits_in p.jobs after p.queue p.waiting (set_waits p.jobs id j refl) l.lined);
      count = left_count left;
    }

-- ---- the pass and its starts

-- as it begins
abbrev pub fresh : Moment → Pass
fresh m =
    new_pass m.plan.gpus m.plan.jobs (new_line m.plan.queue m.plan.waiting m.plan.totals m.log m.ok)

-- when n of the queue were looked at
abbrev pub looked : Moment → ℕ → Pass
looked m n =
    through (visit_at m.plan.setting m.plan.clock (sorted (fresh m)).line.queue) (sorted (fresh m)) n 0

-- those that waited as it began, in order
abbrev pub waited : Moment → List ℕ
waited m = take m.plan.waiting (sorted_queue m.plan.jobs m.plan.queue m.plan.waiting)

-- who waits may stand in the queue of a pass
may_stand : (st : JobState) → waits_in st ≡ true → waits_or_placed st ≡ true
may_stand Pending w = w
may_stand Waiting w = w
may_stand Placed w = refl
may_stand Running w = w
may_stand Finished w = w
may_stand Failed w = w

module _ (jobs₀ : List Job) (k : ℕ) (h : List Decision) (m : Moment) (a : Amid jobs₀ k h m) (l : InLine m.plan) where
  within : m.plan.waiting ≤ 128
  within = omega (arith, l.count, lined_few waits_in m.plan.jobs (in_queue m.plan) l.lined)

  fits : m.plan.waiting ≤ length m.plan.queue
  fits = omega (arith, within, a.between.queue)

  -- as many as were counted
  pub waited_length : length (waited m) ≡ m.plan.waiting
  waited_length =
      length-take-le m.plan.waiting (sorted_queue m.plan.jobs m.plan.queue m.plan.waiting)
      (omega (arith, fits, sorted_length m.plan.jobs m.plan.queue m.plan.waiting))

  -- all along the victims stand behind those that waited
  pub looked_line : (n : ℕ) → Standing (looked m n) × PassLined (waited m) (looked m n)
  unfolding new_pass new_line sorted
  looked_line n =
      let p : Plan = m.plan in
      let line : Line = new_line p.queue p.waiting p.totals m.log m.ok in
      let sized : Sized line = new_sized p.queue p.waiting p.totals m.log m.ok a.between.queue a.table in
      let begins : PassLined (waited m) (sorted (fresh m)) =
      record {
        lined = lined_changed waits_in waits_or_placed p.jobs p.jobs (waited m) (λ i w. may_stand (job_at p.jobs i).state w) (λ i w. w)
            (lined_sorted waits_in p.jobs p.queue p.waiting fits l.lined);
        count = sym waited_length;
        behind = sym (append-nil (waited m));
      } in
      through_keeps
      (visit_at p.setting p.clock (sorted (fresh m)).line.queue)
      (λ q. Standing q × PassLined (waited m) q)
      (λ q i o. visit_keeps p.setting p.clock (PassLined (waited m)) (pass_lined p.setting p.clock (waited m)) q (get_or (sorted (fresh m)).line.queue i 0) o)
      (sorted (fresh m))
      n
      0
      (sorted_standing (fresh m) (new_standing p.setting p.clock p.gpus p.jobs line a.between.gpus a.between.good.size sized refl), begins)

  -- Whoever leaves for a job finds a place.
  pub leaving_room : (n id : ℕ) → (looked m n).line.waiting + length (leaving m.plan.setting m.plan.clock (looked m n) id) ≤ 128
  leaving_room n id =
      let s : Setting = m.plan.setting in
      let clock : Float = m.plan.clock in
      leave_room s clock (waited m) (looked m n) id (leaving s clock (looked m n) id) (looked_line n).0 (leaving_may s clock (looked m n) id)
      (leaving_once s clock (looked m n) id) (looked_line n).1

  -- when the pass is over
  pub pass_line : Standing (pass_of m) × PassLined (waited m) (pass_of m)
  unfolding pass_of walked
  pass_line = looked_line (min (sorted (fresh m)).line.waiting 128)

  line_settled : InLine (settled m).plan
  unfolding settled with_pass starts_of
  line_settled =
      let q : Pass = pass_of m in
      let b : _ = starts_of m.plan q in
      let left : List ℕ = still_waiting b.jobs q.line.queue q.line.waiting in
      record {
        lined = rw (pad_take 128 0 left) (lined_left waits_or_placed q.jobs b.jobs q.line.queue q.line.waiting
            (λ i. starts_wait m.plan.setting.options m.plan.clock i _ (take q.count q.placed)) pass_line.1.lined);
        count = left_count left;
      }

-- ---- the step

-- the job that arrives is in the table and pending
pub arrival_pending : (jobs₀ : List Job) (k : ℕ) (h : List Decision) (p : Plan) → Between jobs₀ k h p → has_event p ≡ true →
    (next_event p).kind ≡ Arrival → ((next_event p).job < 128) × ((job_at p.jobs (next_event p).job).state ≡ Pending)
arrival_pending jobs₀ k h p b some e =
    let f : _ = arrival_facts jobs₀ k h p b some e in
    (omega (arith, f.0, b.loaded), not_came (job_at p.jobs (next_event p).job).state f.2)

module _ (jobs₀ : List Job) (k : ℕ) (h : List Decision) (p : Plan) (b : Between jobs₀ k h p) (some : has_event p ≡ true) (l : InLine p) where
  line_arrival : (next_event p).kind ≡ Arrival → InLine (arrives (with_event p) (next_event p).job).plan
  line_arrival e =
      let t : Between jobs₀ (k + 1) h (with_event p) = event_taken jobs₀ k h p b some in
      let f : ((next_event p).job < 128) × ((job_at p.jobs (next_event p).job).state ≡ Pending) = arrival_pending jobs₀ k h p b some e in
      line_arrives (with_event p) (next_event p).job t.queue t.good.size f.0 (rw (event_jobs p) f.1) (line_event p l)

  line_kind : (kind : EventKind) → (next_event p).kind ≡ kind → InLine (by_kind kind (with_event p) (next_event p)).plan
  unfolding completed timed_out
  line_kind Empty e = line_stale (with_event p) (line_event p l)
  line_kind Arrival e = line_arrival e
  line_kind Completion e =
      pick_cases
      (λ (m : Moment). InLine m.plan)
      (of_run (job_of (with_event p) (next_event p).job) (next_event p).generation)
      (completes (with_event p) (next_event p).job)
      (stale (with_event p))
      (λ t. line_completes (with_event p) (next_event p).job
      (runs_only (job_at (with_event p).jobs (next_event p).job).state
      (and_both (runs (job_at (with_event p).jobs (next_event p).job).state)
      (eqb (job_at (with_event p).jobs (next_event p).job).run (next_event p).generation) t).0) (line_event p l))
      (λ f. line_stale (with_event p) (line_event p l))
  line_kind Timeout e =
      pick_either
      (λ (m : Moment). InLine m.plan)
      (of_timeout (job_of (with_event p) (next_event p).job) (next_event p).generation)
      (times_out (with_event p) (next_event p).job)
      (stale (with_event p))
      (line_fails (with_event p) (next_event p).job (line_event p l))
      (line_stale (with_event p) (line_event p l))

  -- the event is done
  pub line_happened : InLine (happened (with_event p) (next_event p)).plan
  line_happened = line_kind (next_event p).kind refl

  pub line_step : InLine (advanced p).plan
  unfolding advanced
  line_step =
      let m : Moment = happened (with_event p) (next_event p) in
      pick_either (λ (x : Moment). InLine x.plan) m.goes (settled m) m
      (line_settled jobs₀ (k + 1) h m (happened_amid jobs₀ k h p b some) line_happened) line_happened
