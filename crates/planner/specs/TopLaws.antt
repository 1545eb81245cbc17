-- The top of the event room over a step: an event is taken, and all that follows only adds.
use Rattle.std.proofs.Math.Bool.{true}
use mathlib.Core.List.{List, [], ◌∷◌}
use Rattle.std.specs.Prelude.{ℕ, ltb, take}
use Rattle.std.proofs.Math.ListN.{get_or}
use Rattle.std.specs.Float.Ieee.{Float, binary64, add}
use Rattle.laws.specs.Choice.{pick, pick_either}
use Rattle.model.specs.Job.{no_job}
use Rattle.model.specs.declared.event.Event.{Event}
use Rattle.model.specs.declared.event.EventKind.{EventKind}
use Rattle.model.specs.declared.event.EventKind.TheVariants.{Empty, Arrival, Completion, Timeout}
use Rattle.model.specs.declared.job.Job.{Job}
use Rattle.model.specs.declared.plan.Plan.{Plan}
use Rattle.model.specs.declared.setting.Options.{Options}
use Rattle.life.specs.Life as Life
use Rattle.life.specs.Life.{timed}
use Rattle.room.specs.Room.{least, added}
use Rattle.room.specs.Ahead.{queued}
use Rattle.room.specs.Top.{free_from, top_after, Grown}
use Rattle.room.specs.TopLaws.{grown_free, taken_free, added_grown, top_free}
use Rattle.room.specs.declared.ahead.Ahead.{Ahead}
use Rattle.starts.specs.Timeout.{timeout_queued, timeouts_queued}
use Rattle.starts.specs.Begin.{begun, begun_all}
use Rattle.starts.specs.declared.begin.Begun.{Begun}
use Rattle.starts.specs.declared.begin.Placing.{Placing}
use Rattle.pass.specs.declared.visit.Pass.{Pass}
use Rattle.happen.specs.Happen.{job_of, stale, said, arrives, completes, times_out, of_run, of_timeout, completed, timed_out}
use Rattle.happen.specs.declared.Moment.{Moment}
use Rattle.engine.specs.Settle.{pass_of, starts_of, with_pass, settled}
use Rattle.engine.specs.Advance.{next_event, has_event, with_event, by_kind, happened, advanced}
use Rattle.planner.specs.Step.{words_needed}
use Rattle.planner.specs.Lent.{left_in}

-- ---- what every added event keeps holds after all that follows the taking

module _ (P : List Event → Type 0) (keeps : (events : List Event) (x : Event) → P events → P (added events x)) where
  queued_keeps : (a : Ahead) (time : Float) (kind : EventKind) (job generation : ℕ) → P a.events → P (queued a time kind job generation).events
  unfolding queued
  queued_keeps a time kind job generation h =
      keeps a.events (record { time = time; number = a.next; kind = kind; job = job; generation = generation }) h

  timeout_keeps : (a : Ahead) (id : ℕ) (j : Job) (from : Float) → P a.events → P (timeout_queued a id j from).events
  unfolding timeout_queued
  timeout_keeps a id j from h =
      let q : Ahead = queued a (add binary64 from j.ask.timeout) Timeout id j.timeouts in
      pick_either (λ (x : Ahead). P x.events) (timed j.ask) q a (queued_keeps a (add binary64 from j.ask.timeout) Timeout id j.timeouts h) h

  timeouts_keep : (clock : Float) (jobs : List Job) (a : Ahead) (victims : List ℕ) → P a.events → P (timeouts_queued clock jobs a victims).events
  unfolding timeouts_queued
  timeouts_keep clock jobs a [] h = h
  timeouts_keep clock jobs a (v ∷ vs) h =
      timeouts_keep clock jobs (timeout_queued a v (get_or jobs v no_job) clock) vs (timeout_keeps a v (get_or jobs v no_job) clock h)

  begun_keeps : (options : Options) (clock : Float) (b : Begun) (p : Placing) → P b.ahead.events → P (begun options clock b p).ahead.events
  unfolding begun
  begun_keeps options clock b p h =
      let j : Job = get_or b.jobs p.job no_job in
      let at : Float = Life.start_at j clock options p.cut in
      queued_keeps b.ahead (Life.completion_at j at (Life.multiplier_of options p.penalised)) Completion p.job (Life.started j at).run h

  starts_keep : (options : Options) (clock : Float) (b : Begun) (placed : List Placing) → P b.ahead.events → P (begun_all options clock b placed).ahead.events
  unfolding begun_all
  starts_keep options clock b [] h = h
  starts_keep options clock b (p ∷ ps) h = starts_keep options clock (begun options clock b p) ps (begun_keeps options clock b p h)

  -- the pass adds none, the timeouts and the starts behind it do
  settled_keeps : (m : Moment) → P m.plan.events → P (settled m).plan.events
  unfolding settled with_pass starts_of
  settled_keeps m h =
      let p : Plan = m.plan in
      let q : Pass = pass_of m in
      starts_keep _ _ _ (take q.count q.placed)
      (timeouts_keep p.clock q.jobs (record { events = p.events; next = p.next; ok = q.line.ok }) (take q.line.evicted q.line.victims) h)

  -- of the events only an arrival adds one
  stale_keeps : (p : Plan) → P p.events → P (stale p).plan.events
  unfolding stale
  stale_keeps p h = h

  arrives_keeps : (p : Plan) (id : ℕ) → P p.events → P (arrives p id).plan.events
  unfolding arrives said
  arrives_keeps p id h =
      let j : Job = Life.waits (job_of p id) p.clock in
      timeout_keeps (record { events = p.events; next = p.next; ok = true }) id j j.ask.arrival h

  completes_keeps : (p : Plan) (id : ℕ) → P p.events → P (completes p id).plan.events
  unfolding completes said
  completes_keeps p id h = h

  fails_keeps : (p : Plan) (id : ℕ) → P p.events → P (times_out p id).plan.events
  unfolding times_out said
  fails_keeps p id h = h

  happened_keeps : (kind : EventKind) (p : Plan) (e : Event) → P p.events → P (by_kind kind p e).plan.events
  unfolding completed timed_out
  happened_keeps Empty p e h = stale_keeps p h
  happened_keeps Arrival p e h = arrives_keeps p e.job h
  happened_keeps Completion p e h =
      pick_either (λ (m : Moment). P m.plan.events) (of_run (job_of p e.job) e.generation) (completes p e.job) (stale p)
      (completes_keeps p e.job h) (stale_keeps p h)
  happened_keeps Timeout p e h =
      pick_either (λ (m : Moment). P m.plan.events) (of_timeout (job_of p e.job) e.generation) (times_out p e.job) (stale p)
      (fails_keeps p e.job h) (stale_keeps p h)

  -- the whole step
  pub advanced_keeps : (p : Plan) → P (with_event p).events → P (advanced p).plan.events
  unfolding advanced
  advanced_keeps p h =
      let m : Moment = happened (with_event p) (next_event p) in
      let k : P m.plan.events = happened_keeps (next_event p).kind (with_event p) (next_event p) h in
      pick_either (λ (x : Moment). P x.plan.events) m.goes (settled m) m (settled_keeps m k) k

-- ---- the top

event_free : (top : ℕ) (p : Plan) → free_from top p.events → free_from top (with_event p).events
unfolding with_event
event_free top p free = taken_free top p.events (least p.events) free

-- a step leaves no gap from the top on
pub advanced_grown : (top : ℕ) (p : Plan) → free_from top p.events → Grown top (advanced p).plan.events
advanced_grown top p free =
    advanced_keeps (Grown top) (added_grown top) p (grown_free top (with_event p).events (event_free top p free))

left_grown : (p : Plan) (size top : ℕ) → free_from top p.events → Grown top (left_in p size).events
unfolding left_in
left_grown p size top free =
    let same : Grown top p.events = grown_free top p.events free in
    let P : Plan → Type 0 = λ q. Grown top q.events in
    pick_either P (ltb size words_needed) p (pick (has_event p) (advanced p).plan p) same
    (pick_either P (has_event p) (advanced p).plan p (advanced_grown top p free) same)

-- The first free entry from the top on is a top of the plan that a step leaves.
pub left_top : (p : Plan) (size top : ℕ) → free_from top p.events → free_from (top_after (left_in p size).events top) (left_in p size).events
left_top p size top free = top_free top (left_in p size).events (left_grown p size top free)
