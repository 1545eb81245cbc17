-- The waiting queue never lacks a place: on any plan reached from a loaded trace it holds exactly the waiting jobs, each once, and whoever joins finds room.
use Rattle.std.specs.Prelude.{◌≡◌, true, List, [], ◌++◌, ℕ, ◌+◌, ◌≤◌, ◌<◌, length, take}
use Rattle.std.proofs.Common.{sym, ap, ◌∙◌, arith, length-append}
use Rattle.laws.specs.Tests.{split, never_both, fails}
use Rattle.laws.specs.Lists.{Distinct}
use Rattle.laws.specs.Search.{has, has_all}
use Rattle.model.specs.declared.event.EventKind.TheVariants.{Arrival}
use Rattle.model.specs.declared.job.JobState.TheVariants.{Pending}
use Rattle.model.specs.declared.plan.Plan.{Plan}
use Rattle.decision_log.specs.declared.Decision.{Decision}
use Rattle.loader.specs.Load.{load}
use Rattle.line.specs.Keep.{waits_in, waits_at}
use Rattle.apart.specs.LineLaws.{queue_of, victims_of}
use Rattle.apart.specs.Leaving.{leaving}
use Rattle.apart.specs.Standing.{Standing}
use Rattle.happen.specs.declared.Moment.{Moment}
use Rattle.engine.specs.Settle.{pass_of}
use Rattle.engine.specs.Advance.{next_event, has_event, with_event, happened, advanced}
use Rattle.planner.specs.Step.{stepped}
use Rattle.planner.specs.StepLaws.{accepted_for, accepted_plan}
use Rattle.history.specs.Good.{job_at}
use Rattle.history.specs.QueueLined.{waits_or_placed, Stands, lined_few}
use Rattle.history.specs.QueuePass.{PassLined}
use Rattle.promises.specs.LoadedLaws.{Ready, load_ready}
use Rattle.promises.specs.Between.{Between, Amid}
use Rattle.promises.specs.Steps.{happened_amid}
use Rattle.promises.specs.Conditions as Conditions
use Rattle.promises.specs.Conditions.{Reached, begin, first, reached_between}
use Rattle.promises.specs.QueueSteps.{in_queue, InLine, arrival_room, waited, waited_length, looked, leaving_room, pass_line, arrival_pending, line_happened, line_step}

-- a step's event, done; unless it was stale a pass follows
abbrev pub done : Plan → Moment
done p = happened (with_event p) (next_event p)

-- as loaded nobody waits
line_loaded : (p : Plan) → Ready p → InLine p
line_loaded p r =
    let e : in_queue p ≡ [] = ap (λ (n : ℕ). take n p.queue) r.waiting in
    record {
      lined = rw e (record { once = tt; each = tt; all = λ k w. absurd (never_both w (ap waits_in (r.pending k))) });
      count = rw (e, r.waiting);
    }

-- It holds on every plan that is reached.
pub in_line : (trace : List ℕ) (k : ℕ) (p : Plan) (h : List Decision) → Reached trace k p h → InLine p
in_line trace k p h (begin e) = line_loaded (load trace).plan (load_ready trace e)
in_line trace k p h (Conditions.onward {k = n} {p = q} {h = g} r buffer e) =
    let b : Between (first trace).jobs n g q × (q.setting ≡ (first trace).setting) = reached_between trace n q g r in
    let a : _ = accepted_for q buffer e in
    let s : (stepped q (length buffer)).plan ≡ (advanced q).plan = ap (λ x. x.plan) (accepted_plan q buffer e) in
    rw s (line_step (first trace).jobs n g q b.0 a.1 (in_line trace n q g r))

module _ (trace : List ℕ) (k : ℕ) (p : Plan) (h : List Decision) (r : Reached trace k p h) where
  -- The queue holds a job exactly if it waits, none twice, and no place of it is lost.
  pub queue_is_who_waits : ((j : ℕ) → has j (in_queue p) ≡ waits_at p.jobs j) × Distinct (in_queue p) × (length (in_queue p) ≡ p.waiting) × (p.waiting ≤ 128)
  queue_is_who_waits =
      let l : InLine p = in_line trace k p h r in
      let who : (j : ℕ) → has j (in_queue p) ≡ waits_at p.jobs j =
      λ j. split (waits_at p.jobs j) (λ w. l.lined.all j w ∙ sym w)
      (λ w. fails (has j (in_queue p)) (λ t. never_both (has_all (Stands waits_in p.jobs) j (in_queue p) l.lined.each t).1 w) ∙ sym w) in
      (who, l.lined.once, sym l.count, omega (arith, l.count, lined_few waits_in p.jobs (in_queue p) l.lined))

  module _ (some : has_event p ≡ true) where
    between : Between (first trace).jobs k h p
    between = (reached_between trace k p h r).0

    -- A job that arrives finds a place.
    pub join_has_room : (next_event p).kind ≡ Arrival → p.waiting < 128
    join_has_room e =
        let f : ((next_event p).job < 128) × ((job_at p.jobs (next_event p).job).state ≡ Pending) = arrival_pending (first trace).jobs k h p between some e in
        arrival_room p (next_event p).job f.0 f.1 (in_line trace k p h r)

    moment : Amid (first trace).jobs (k + 1) h (done p)
    moment = happened_amid (first trace).jobs k h p between some

    in_line_then : InLine (done p).plan
    in_line_then = line_happened (first trace).jobs k h p between some (in_line trace k p h r)

    -- So do those that leave for a job, however many of the queue the pass that follows has looked at.
    pub leaving_has_room : (n job : ℕ) → (looked (done p) n).line.waiting + length (leaving (done p).plan.setting (done p).plan.clock (looked (done p) n) job) ≤ 128
    leaving_has_room = leaving_room (first trace).jobs (k + 1) h (done p) moment in_line_then

    -- When it is over all its victims stand behind those that waited, and as many more are counted.
    pub no_victim_lost : (queue_of (pass_of (done p)).line ≡ waited (done p) ++ victims_of (pass_of (done p)).line) ×
        ((pass_of (done p)).line.waiting ≡ (done p).plan.waiting + (pass_of (done p)).line.evicted) × ((pass_of (done p)).line.waiting ≤ 128)
    no_victim_lost =
        let o : Standing (pass_of (done p)) × PassLined (waited (done p)) (pass_of (done p)) = pass_line (first trace).jobs (k + 1) h (done p) moment in_line_then in
        let n : length (queue_of (pass_of (done p)).line) ≡ length (waited (done p)) + length (victims_of (pass_of (done p)).line) =
        ap length o.1.behind ∙ length-append (waited (done p)) (victims_of (pass_of (done p)).line) in
        let w : length (waited (done p)) ≡ (done p).plan.waiting = waited_length (first trace).jobs (k + 1) h (done p) moment in_line_then in
        let f : length (queue_of (pass_of (done p)).line) ≤ 128 = lined_few waits_or_placed (pass_of (done p)).jobs (queue_of (pass_of (done p)).line) o.1.lined in
        (o.1.behind, omega (arith, o.1.count, n, w, o.0.evicted), omega (arith, o.1.count, f))
