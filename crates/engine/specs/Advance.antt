-- The event with least time, then lowest insertion number, is taken; the clock becomes its time, and what it says is done.
use Rattle.std.specs.Prelude.{◌≡◌, Bool, true, List, ℕ}
use Rattle.std.proofs.Common.{sym, ◌∙◌}
use Rattle.std.proofs.Math.Path.{ap}
use Rattle.laws.specs.Choice.{pick}
use Rattle.model.specs.declared.event.Event.{Event}
use Rattle.model.specs.declared.event.EventKind.{EventKind}
use Rattle.model.specs.declared.event.EventKind.TheVariants.{Empty, Arrival, Completion, Timeout}
use Rattle.model.specs.declared.plan.Plan.{Plan}
use Rattle.room.specs.Room.{used, event_at, least, taken}
use Rattle.room.specs.Top.{free_from, least_under}
use Rattle.room.specs.TopLaws.{least_under_lem}
use Rattle.happen.specs.Happen.{stale, arrived, completed, timed_out}
use Rattle.engine.specs.Settle.{settled}
use Rattle.happen.specs.declared.Moment.{Moment}
use Rattle.engine.specs.declared.advance.Found.{Found}

-- the event that is next; an empty entry where there is none
unfoldable pub next_event : Plan → Event
next_event p = event_at p.events (least p.events)

unfoldable pub has_event : Plan → Bool
has_event p = used (next_event p)

-- the plan without the event, at its time
unfoldable pub with_event : Plan → Plan
with_event p = record {
  setting = p.setting;
  gpus = p.gpus;
  jobs = p.jobs;
  queue = p.queue;
  waiting = p.waiting;
  events = taken p.events (least p.events);
  next = p.next;
  clock = (next_event p).time;
  totals = p.totals;
}

-- by the kind of the event
abbrev pub by_kind : EventKind → Plan → Event → Moment
by_kind Empty p e = stale p
by_kind Arrival p e = arrived p e
by_kind Completion p e = completed p e
by_kind Timeout p e = timed_out p e

abbrev pub happened : Plan → Event → Moment
happened p e = by_kind e.kind p e

-- One step, refusals aside: the event, and unless it is stale a pass and its starts.
unfoldable pub advanced : Plan → Moment
advanced p = let m = happened (with_event p) (next_event p) in pick m.goes (settled m) m

-- ---- the same with the event that was found

-- the least event, and the entry that it stands in
unfoldable pub found_in : List Event → Found
found_in events = record { at = least events; event = event_at events (least events) }

-- the least of those below a top
unfoldable pub found_under : ℕ → List Event → Found
found_under top events = record { at = least_under top events; event = event_at events (least_under top events) }

-- it is the least of all where no entry from the top on is used
pub found_under_lem : (top : ℕ) (events : List Event) → free_from top events → found_under top events ≡ found_in events
unfolding found_under found_in
found_under_lem top events free = rw (least_under_lem top events free)

-- the plan without the event in that entry, at its time
unfoldable pub with_found : Plan → Found → Plan
with_found p f = record {
  setting = p.setting;
  gpus = p.gpus;
  jobs = p.jobs;
  queue = p.queue;
  waiting = p.waiting;
  events = taken p.events f.at;
  next = p.next;
  clock = f.event.time;
  totals = p.totals;
}

unfoldable pub advanced_by : Plan → Found → Moment
advanced_by p f = let m = happened (with_found p f) f.event in pick m.goes (settled m) m

-- with the least event it is the step
pub advanced_found : (p : Plan) (f : Found) → f ≡ found_in p.events → advanced_by p f ≡ advanced p
unfolding advanced advanced_by with_event with_found next_event found_in
advanced_found p f h = rw h

pub has_found : (p : Plan) (f : Found) → f ≡ found_in p.events → used f.event ≡ has_event p
unfolding has_event next_event found_in
has_found p f h = rw h

-- a pass follows the least event
pub advanced_goes : (p : Plan) (m : Moment) → m ≡ happened (with_event p) (next_event p) → (r : Moment) → m.goes ≡ true → r ≡ settled m → r ≡ advanced p
unfolding advanced
advanced_goes p m is r h s = rw (← is) (s ∙ ap (λ (b : Bool). pick b (settled m) m) (sym h))
