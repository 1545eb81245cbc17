-- A step keeps it that no event ahead is before the clock, and takes the clock to the time of its event.
use Rattle.std.specs.Prelude.{◌≡◌, Bool, List, ℕ, ◌+◌}
use Rattle.std.proofs.Math.Path.{refl, ap}
use Rattle.std.proofs.Common.{sym, ◌∙◌, le_of_eq}
use Rattle.std.proofs.Math.Bool.{true}
use Rattle.laws.specs.Choice.{pick_either}
use Rattle.model.specs.Number.{bits_of, permitted}
use Rattle.model.specs.declared.event.Event.{Event}
use Rattle.model.specs.declared.event.EventKind.{EventKind}
use Rattle.model.specs.declared.event.EventKind.TheVariants.{Empty, Arrival, Completion, Timeout}
use Rattle.model.specs.declared.job.Job.{Job}
use Rattle.model.specs.declared.plan.Plan.{Plan}
use Rattle.decision_log.specs.declared.Decision.{Decision}
use Rattle.life.specs.Life as Life
use Rattle.line.specs.Line.{new_line}
use Rattle.line.specs.declared.join.Line.{Line}
use Rattle.room.specs.Room.{least}
use Rattle.pass.specs.Visit.{new_pass}
use Rattle.pass.specs.Walk.{sorted}
use Rattle.pass.specs.declared.visit.Pass.{Pass}
use Rattle.apart.specs.LineLaws.{Sized, new_sized, victims_of}
use Rattle.apart.specs.PassLaws.{pass_keeps}
use Rattle.apart.specs.KeptLaws.{walk_ok}
use Rattle.happen.specs.Happen.{job_of, stale, said, joins, arrives, completes, times_out, of_run, of_timeout, completed, timed_out}
use Rattle.happen.specs.declared.Moment.{Moment}
use Rattle.engine.specs.Settle.{pass_of, starts_of, with_pass, settled}
use Rattle.engine.specs.Advance.{next_event, has_event, with_event, by_kind, happened, advanced}
use Rattle.history.specs.Entries.{is_arrival}
use Rattle.history.specs.SumLaws.{plus}
use Rattle.history.proofs.SumLaws.{permitted_plus}
use Rattle.history.specs.TimesLaws.{OnTime, AllOnTime, Remains, Fair, BegunOnTime}
use Rattle.history.proofs.TimesLaws.{taken_on_time, timeout_on_time, timeouts_on_time, set_remains, pass_remains, starts_on_time}
use Rattle.promises.specs.Between.{Between, Amid}
use Rattle.promises.specs.Steps.{happened_amid}
use Rattle.promises.specs.EndingSteps.{to_start, placings, all_started}

-- the events are on time, so far as what was stored is permitted
pub record Punctual (jobs₀ : List Job) (ok : Bool) (p : Plan) : Type 0 where
  pub clock : permitted p.clock ≡ true
  pub room : ok ≡ true → AllOnTime jobs₀ p.clock p.events
  pub remains : Remains p.jobs
  pub fair : Fair p.setting.options

abbrev After : List Job → Moment → Type 0
After jobs₀ m = Punctual jobs₀ m.ok m.plan

module _ (jobs₀ : List Job) where
  -- ---- what an event says

  stale_on_time : (p : Plan) → Punctual jobs₀ true p → After jobs₀ (stale p)
  unfolding stale
  stale_on_time p h = record { clock = h.clock; room = h.room; remains = h.remains; fair = h.fair }

  arrives_on_time : (p : Plan) (id : ℕ) → p.clock ≡ (job_of p id).ask.arrival → Punctual jobs₀ true p → After jobs₀ (arrives p id)
  unfolding arrives said joins Life.waits
  arrives_on_time p id e h =
      let j : Job = Life.waits (job_of p id) p.clock in
      let now : plus j.ask.arrival ≡ true = rw (← e) (permitted_plus p.clock h.clock) in
      record {
        clock = h.clock;
        room = timeout_on_time jobs₀ p.clock (record { events = p.events; next = p.next; ok = true }) id j j.ask.arrival now (le_of_eq (ap bits_of e)) h.room;
        remains = set_remains p.jobs id j (h.remains id) h.remains;
        fair = h.fair;
      }

  completes_on_time : (p : Plan) (id : ℕ) → Punctual jobs₀ true p → After jobs₀ (completes p id)
  unfolding completes said Life.ends
  completes_on_time p id h =
      record { clock = h.clock; room = h.room; remains = set_remains p.jobs id (Life.ends (job_of p id)) (h.remains id) h.remains; fair = h.fair }

  fails_on_time : (p : Plan) (id : ℕ) → Punctual jobs₀ true p → After jobs₀ (times_out p id)
  unfolding times_out said Life.fails
  fails_on_time p id h =
      record {
        clock = h.clock;
        room = λ o. h.room refl;
        remains = set_remains p.jobs id (Life.fails (job_of p id) p.clock) (h.remains id) h.remains;
        fair = h.fair;
      }

  kind_on_time : (kind : EventKind) (p : Plan) (e : Event) → (is_arrival kind ≡ true → p.clock ≡ (job_of p e.job).ask.arrival) → Punctual jobs₀ true p →
      After jobs₀ (by_kind kind p e)
  unfolding completed timed_out
  kind_on_time Empty p e a h = stale_on_time p h
  kind_on_time Arrival p e a h = arrives_on_time p e.job (a refl) h
  kind_on_time Completion p e a h =
      pick_either (After jobs₀) (of_run (job_of p e.job) e.generation) (completes p e.job) (stale p) (completes_on_time p e.job h) (stale_on_time p h)
  kind_on_time Timeout p e a h =
      pick_either (After jobs₀) (of_timeout (job_of p e.job) e.generation) (times_out p e.job) (stale p) (fails_on_time p e.job h) (stale_on_time p h)

  -- ---- what follows it

  module _ (k : ℕ) (h : List Decision) (m : Moment) (a : Amid jobs₀ k h m) (t : After jobs₀ m) where
    pass_left : Remains (pass_of m).jobs
    unfolding pass_of new_pass new_line sorted
    pass_left =
        let p : Plan = m.plan in
        let line : Line = new_line p.queue p.waiting p.totals m.log m.ok in
        let sized : Sized line = new_sized p.queue p.waiting p.totals m.log m.ok a.between.queue a.table in
        pass_keeps p.setting p.clock p.gpus p.jobs line a.between.gpus a.between.good.size sized refl
        (λ q. Remains q.jobs) (pass_remains p.setting p.clock) t.remains

    pass_fine : (pass_of m).line.ok ≡ true → m.ok ≡ true
    unfolding pass_of new_pass new_line
    pass_fine =
        let p : Plan = m.plan in
        walk_ok p.setting p.clock (new_pass p.gpus p.jobs (new_line p.queue p.waiting p.totals m.log m.ok))

    started_on_time : BegunOnTime m.plan.setting.options t.fair m.plan.clock (permitted_plus m.plan.clock t.clock) jobs₀
        (all_started m.plan (pass_of m))
    started_on_time =
        let p : Plan = m.plan in
        let q : Pass = pass_of m in
        let now : plus p.clock ≡ true = permitted_plus p.clock t.clock in
        starts_on_time p.setting.options t.fair p.clock now jobs₀ (to_start p q) (placings q) (
          timeouts_on_time jobs₀ p.clock q.jobs (record { events = p.events; next = p.next; ok = q.line.ok }) (victims_of q.line) now
              (λ o. t.room (pass_fine o)),
          pass_left,
        )

    settled_on_time : After jobs₀ (settled m)
    unfolding settled with_pass starts_of
    settled_on_time = record { clock = t.clock; room = started_on_time.0; remains = started_on_time.1; fair = t.fair }

  -- ---- a step

  module _ (k : ℕ) (h : List Decision) (p : Plan) (b : Between jobs₀ k h p) (has : has_event p ≡ true) (t : Punctual jobs₀ true p) where
    -- the event that is next
    pub next_on_time : OnTime jobs₀ p.clock (next_event p)
    unfolding has_event next_event
    next_on_time = t.room refl (least p.events) has

    event_on_time : Punctual jobs₀ true (with_event p)
    unfolding with_event next_event
    event_on_time =
        record {
          clock = next_on_time.fine;
          room = λ o. taken_on_time jobs₀ p.clock p.events b.counted.size (t.room refl);
          remains = t.remains;
          fair = t.fair;
        }

    arrival_now : is_arrival (next_event p).kind ≡ true → (with_event p).clock ≡ (job_of (with_event p) (next_event p).job).ask.arrival
    unfolding with_event
    arrival_now e = next_on_time.arrival e ∙ ap (λ a. a.arrival) (sym (b.good.asks (next_event p).job))

    happened_on_time : After jobs₀ (happened (with_event p) (next_event p))
    happened_on_time = kind_on_time (next_event p).kind (with_event p) (next_event p) arrival_now event_on_time

    pub step_on_time : After jobs₀ (advanced p)
    unfolding advanced
    step_on_time =
        let m : Moment = happened (with_event p) (next_event p) in
        pick_either (After jobs₀) m.goes (settled m) m (settled_on_time (k + 1) h m (happened_amid jobs₀ k h p b has) happened_on_time) happened_on_time

-- ---- the clock

clock_kind : (kind : EventKind) (p : Plan) (e : Event) → (by_kind kind p e).plan.clock ≡ p.clock
unfolding stale arrives completes times_out said joins completed timed_out
clock_kind Empty p e = refl
clock_kind Arrival p e = refl
clock_kind Completion p e =
    pick_either (λ (m : Moment). m.plan.clock ≡ p.clock) (of_run (job_of p e.job) e.generation) (completes p e.job) (stale p) refl refl
clock_kind Timeout p e =
    pick_either (λ (m : Moment). m.plan.clock ≡ p.clock) (of_timeout (job_of p e.job) e.generation) (times_out p e.job) (stale p) refl refl

-- after a step, refusals aside, the clock is the time of its event
pub clock_is : (p : Plan) → (advanced p).plan.clock ≡ (next_event p).time
unfolding advanced with_event settled with_pass
clock_is p =
    let m : Moment = happened (with_event p) (next_event p) in
    let e : m.plan.clock ≡ (next_event p).time = clock_kind (next_event p).kind (with_event p) (next_event p) in
    pick_either (λ (x : Moment). x.plan.clock ≡ (next_event p).time) m.goes (settled m) m e e
