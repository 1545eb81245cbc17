-- A GPU that was cut stays cut, over any step of any plan, and so from any point of a history to any later one.
use Rattle.std.specs.Prelude.{◌≡◌, true, List, ℕ, ◌≤◌, ltb, length}
use Rattle.std.proofs.Common.{⊎_elim, arith, lt-ltb, ltb-true}
use Rattle.laws.specs.Choice.{pick_either}
use Rattle.laws.specs.Tests.{le_or_lt}
use Rattle.small.specs.Small.{plus_one}
use Rattle.model.specs.declared.event.Event.{Event}
use Rattle.model.specs.declared.event.EventKind.{EventKind}
use Rattle.model.specs.declared.event.EventKind.TheVariants.{Empty, Arrival, Completion, Timeout}
use Rattle.model.specs.declared.plan.Plan.{Plan}
use Rattle.decision_log.specs.declared.Decision.{Decision}
use Rattle.mig.specs.Slices.{cut}
use Rattle.line.specs.Line.{new_line}
use Rattle.pass.specs.Visit.{new_pass}
use Rattle.happen.specs.Happen.{job_of, stale, said, joins, arrives, completes, times_out, of_run, of_timeout, completed, timed_out}
use Rattle.happen.specs.declared.Moment.{Moment}
use Rattle.engine.specs.Settle.{pass_of, with_pass, settled}
use Rattle.engine.specs.Advance.{next_event, has_event, with_event, by_kind, happened, advanced}
use Rattle.planner.specs.Step.{words_needed, stepped}
use Rattle.planner.specs.declared.Stepped.{Stepped}
use Rattle.history.specs.CutLaws.{gpu_at, StaysCut}
use Rattle.history.proofs.CutLaws.{freed_stays, pass_stays}
use Rattle.promises.specs.Conditions.{Reached, begin, onward}
use Rattle.promises.specs.OneHistory.{one_history}

-- ---- an event

-- each GPU that is cut in the first plan is cut in the second
abbrev Still : Plan → Plan → Type 0
Still p q = StaysCut p.gpus q.gpus

still_stale : (p : Plan) → Still p (stale p).plan
unfolding stale
still_stale p i t = t

still_arrives : (p : Plan) (id : ℕ) → Still p (arrives p id).plan
unfolding arrives said joins
still_arrives p id i t = t

still_completes : (p : Plan) (id : ℕ) → Still p (completes p id).plan
unfolding completes said
still_completes p id = freed_stays (plus_one id) p.gpus

still_fails : (p : Plan) (id : ℕ) → Still p (times_out p id).plan
unfolding times_out said
still_fails p id i t = t

still_kind : (kind : EventKind) (p : Plan) (e : Event) → Still p (by_kind kind p e).plan
unfolding completed timed_out
still_kind Empty p e = still_stale p
still_kind Arrival p e = still_arrives p e.job
still_kind Completion p e = pick_either (λ (m : Moment). Still p m.plan) (of_run (job_of p e.job) e.generation)
    (completes p e.job) (stale p) (still_completes p e.job) (still_stale p)
still_kind Timeout p e = pick_either (λ (m : Moment). Still p m.plan) (of_timeout (job_of p e.job) e.generation)
    (times_out p e.job) (stale p) (still_fails p e.job) (still_stale p)

still_event : (p : Plan) → Still p (with_event p)
unfolding with_event
still_event p i t = t

-- ---- what follows it

still_settled : (m : Moment) → Still m.plan (settled m).plan
unfolding settled with_pass pass_of new_pass
still_settled m =
    let p : Plan = m.plan in
    pass_stays p.setting p.clock (new_pass p.gpus p.jobs (new_line p.queue p.waiting p.totals m.log m.ok))

still_advanced : (p : Plan) → Still p (advanced p).plan
unfolding advanced
still_advanced p =
    let m : Moment = happened (with_event p) (next_event p) in
    let one : Still p m.plan = λ i t. still_kind (next_event p).kind (with_event p) (next_event p) i (still_event p i t) in
    pick_either (λ (x : Moment). Still p x.plan) m.goes (settled m) m (λ i t. still_settled m i (one i t)) one

still_stepped : (p : Plan) (n : ℕ) → Still p (stepped p n).plan
unfolding stepped
still_stepped p n =
    let same : Still p p = λ i t. t in
    pick_either (λ (x : Stepped). Still p x.plan) (ltb n words_needed) _ _ same
    (pick_either (λ (x : Stepped). Still p x.plan) (has_event p) _ _
    (pick_either (λ (x : Stepped). Still p x.plan) (advanced p).ok _ _ (still_advanced p) same) same)

-- ---- many steps

still_later : (trace : List ℕ) (k n : ℕ) (p q : Plan) (g h : List Decision) → Reached trace k p g → Reached trace n q h → k ≤ n → Still p q
still_later trace k n p q g h r (begin e) l =
    let z : p ≡ q = (one_history trace k n p q g h r (begin e) (omega arith)).0 in rw z (λ i t. t)
still_later trace k n p q g h r (onward {k = m} {p = q'} {h = h'} r' buffer e) l =
    ⊎_elim
    (λ a i t. still_stepped q' (length buffer) i (still_later trace k m p q' g h' r r' a i t))
    (λ a. let z : p ≡ q = (one_history trace k n p q g h r (onward r' buffer e) (omega arith)).0 in rw z (λ i t. t))
    (le_or_lt k m)

-- ---- the theorems

-- the same by the test for a cut GPU
by_test : (p q : Plan) → Still p q → (i : ℕ) → cut (gpu_at p.gpus i) ≡ true → cut (gpu_at q.gpus i) ≡ true
by_test p q h i t = lt-ltb 0 (gpu_at q.gpus i).slices (h i (ltb-true 0 (gpu_at p.gpus i).slices t))

-- No step, accepted or refused, leaves a cut GPU uncut: of every plan, also one that no load gives, and whatever buffer is lent.
pub step_stays_cut : (p : Plan) (n i : ℕ) → cut (gpu_at p.gpus i) ≡ true → cut (gpu_at (stepped p n).plan.gpus i) ≡ true
step_stays_cut p n = by_test p (stepped p n).plan (still_stepped p n)

-- A GPU that is cut at one point of a trace's history is cut at every later one.
pub stays_cut : (trace : List ℕ) (k n : ℕ) (p q : Plan) (g h : List Decision) → Reached trace k p g → Reached trace n q h → k ≤ n →
    (i : ℕ) → cut (gpu_at p.gpus i) ≡ true → cut (gpu_at q.gpus i) ≡ true
stays_cut trace k n p q g h r t l = by_test p q (still_later trace k n p q g h r t l)
