-- A running job holds exactly as many GPUs or slices as each of its started decisions says, on every plan reached from a loaded trace.
use Rattle.std.specs.Prelude.{◌≡◌, refl, Bool, true, false, List, ◌∷◌, ◌++◌, ℕ, ◌+◌, length, take}
use Rattle.std.proofs.Common.{sym, ◌∙◌, arith}
use Rattle.std.proofs.lemmas.List.{length-map}
use Rattle.laws.specs.Choice.{pick_either}
use Rattle.laws.specs.Lists.{All, all_append}
use Rattle.model.specs.Number.{bits_of}
use Rattle.model.specs.declared.event.Event.{Event}
use Rattle.model.specs.declared.event.EventKind.{EventKind}
use Rattle.model.specs.declared.event.EventKind.TheVariants.{Empty, Arrival, Completion, Timeout}
use Rattle.model.specs.declared.job.Job.{Job}
use Rattle.model.specs.declared.job.JobState.TheVariants.{Running}
use Rattle.model.specs.declared.plan.Plan.{Plan}
use Rattle.decision_log.specs.Log.{decisions}
use Rattle.decision_log.specs.declared.Decision.{Decision}
use Rattle.decision_log.specs.declared.Kind.{Kind}
use Rattle.decision_log.specs.declared.Kind.TheVariants as Kinds
use Rattle.line.specs.Line.{new_line}
use Rattle.apart.specs.LineLaws.{new_sized}
use Rattle.apart.specs.Standing.{Standing, few}
use Rattle.apart.specs.PassLaws.{pass_standing, pass_count, pass_asks}
use Rattle.starts.specs.declared.begin.Placing.{Placing}
use Rattle.happen.specs.Happen.{job_of, stale, said, arrives, completes, times_out, of_run, of_timeout, completed, timed_out}
use Rattle.happen.specs.declared.Moment.{Moment}
use Rattle.engine.specs.Settle.{pass_of, starts_of, settled}
use Rattle.engine.specs.Advance.{next_event, has_event, with_event, by_kind, happened, advanced}
use Rattle.planner.specs.StepLaws.{accepted_for}
use Rattle.history.specs.Told.{is_started}
use Rattle.history.specs.Good.{job_at}
use Rattle.history.specs.Owners.{holds}
use Rattle.history.specs.OwnersTold.{SaysAmount, says_other, says_pass, says_starts, holds_told}
use Rattle.promises.specs.Between.{Between, Amid}
use Rattle.promises.specs.Happens.{one_told, empty_told}
use Rattle.promises.specs.Steps.{happened_amid}
use Rattle.promises.specs.Conditions.{Reached, begin, onward, first, reached_between}
use Rattle.promises.specs.Owning.{reached_owning}

abbrev Says : List Job → Moment → Type 0
Says jobs₀ m = All (SaysAmount jobs₀) (decisions m.log)

said_says : (jobs₀ : List Job) (p : Plan) (ok : Bool) (kind : Kind) (job other : ℕ) → is_started kind ≡ false → Says jobs₀ (said p ok kind job other)
unfolding said
said_says jobs₀ p ok kind job other e = rw (one_told p kind job other)
    (says_other jobs₀ (record { time = bits_of p.clock; kind = kind; job = job; other = other }) e, tt)

stale_says : (jobs₀ : List Job) (p : Plan) → Says jobs₀ (stale p)
unfolding stale
stale_says jobs₀ p = rw empty_told tt

kind_says : (jobs₀ : List Job) (kind : EventKind) (p : Plan) (e : Event) → Says jobs₀ (by_kind kind p e)
unfolding completed timed_out arrives completes times_out
kind_says jobs₀ Empty p e = stale_says jobs₀ p
kind_says jobs₀ Arrival p e = said_says jobs₀ _ _ Kinds.Arrived e.job 0 refl
kind_says jobs₀ Completion p e = pick_either (Says jobs₀) (of_run (job_of p e.job) e.generation) (completes p e.job) (stale p)
    (said_says jobs₀ _ true Kinds.Completed e.job _ refl) (stale_says jobs₀ p)
kind_says jobs₀ Timeout p e = pick_either (Says jobs₀) (of_timeout (job_of p e.job) e.generation) (times_out p e.job) (stale p)
    (said_says jobs₀ _ _ Kinds.Failed e.job 0 refl) (stale_says jobs₀ p)

settled_says : (jobs₀ : List Job) (k : ℕ) (h : List Decision) (m : Moment) → Amid jobs₀ k h m → Says jobs₀ m → Says jobs₀ (settled m)
unfolding settled starts_of pass_of new_line
settled_says jobs₀ k h m a says =
    let p : Plan = m.plan in
    let line : _ = new_line p.queue p.waiting p.totals m.log m.ok in
    let sized : _ = new_sized p.queue p.waiting p.totals m.log m.ok a.between.queue a.table in
    let so : Standing (pass_of m) = pass_standing p.setting p.clock p.gpus p.jobs line a.between.gpus a.between.good.size sized refl in
    let c : (pass_of m).line.log.count ≡ m.log.count + (pass_of m).line.evicted =
    pass_count p.setting p.clock p.gpus p.jobs line a.between.gpus a.between.good.size sized refl a.own in
    let ps : List Placing = take (pass_of m).count (pass_of m).placed in
    let l : length ps ≡ (pass_of m).count = sym (length-map ps (λ x. x.job)) ∙ so.count in
    says_starts p.setting.options p.clock jobs₀ _ ps so.line.log (omega (arith, l, c, a.own, few (pass_of m) so))
    (λ i. pass_asks p.setting p.clock p.gpus p.jobs line a.between.gpus a.between.good.size sized refl i ∙ a.between.good.asks i)
    (says_pass p.setting p.clock p.gpus jobs₀ p.jobs line a.between.gpus a.between.good.size sized refl a.own says)

step_says : (jobs₀ : List Job) (k : ℕ) (h : List Decision) (p : Plan) → Between jobs₀ k h p → has_event p ≡ true → Says jobs₀ (advanced p)
unfolding advanced
step_says jobs₀ k h p b has =
    let m : Moment = happened (with_event p) (next_event p) in
    let one : Says jobs₀ m = kind_says jobs₀ (next_event p).kind (with_event p) (next_event p) in
    pick_either (Says jobs₀) m.goes (settled m) m (settled_says jobs₀ (k + 1) h m (happened_amid jobs₀ k h p b has) one) one

-- Every started decision of a history says how many GPUs or slices its job asks for.
pub reached_says : (trace : List ℕ) (k : ℕ) (p : Plan) (h : List Decision) → Reached trace k p h → All (SaysAmount (first trace).jobs) h
reached_says trace k p h (begin e) = tt
reached_says trace k p h (onward {k = n} {p = q} {h = g} r buffer e) =
    all_append (SaysAmount (first trace).jobs) g (decisions (advanced q).log) (reached_says trace n q g r)
    (step_says (first trace).jobs n g q (reached_between trace n q g r).0 (accepted_for q buffer e).1)

-- And a job that runs holds exactly so many.
pub held_as_told : (trace : List ℕ) (k : ℕ) (p : Plan) (h : List Decision) → Reached trace k p h → (before after : List Decision) (d : Decision) →
    h ≡ before ++ (d ∷ after) → d.kind ≡ Kinds.Started → (job_at p.jobs d.job).state ≡ Running →
    (holds (d.job + 1) p.gpus).gpus + (holds (d.job + 1) p.gpus).slices ≡ d.other
held_as_told trace k p h r before after d e kind run =
    holds_told p.setting.gpus p.gpus (first trace).jobs p.jobs h (reached_owning trace k p h r).1.0
    (reached_between trace k p h r).0.good.asks (reached_says trace k p h r) before after d e kind run
