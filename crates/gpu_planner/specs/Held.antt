-- The plan as a caller outside holds it: the same tables, with a number where the plan has an enum.
use Rattle.std.specs.Prelude.{map, ℕ, eqb}
use Rattle.laws.specs.Choice.{pick}
use Rattle.model.specs.declared.event.EventKind.{EventKind}
use Rattle.model.specs.declared.event.EventKind.TheVariants.{Empty, Arrival, Completion, Timeout}
use Rattle.model.specs.declared.event.Event.{Event}
use Rattle.model.specs.declared.job.JobState.{JobState}
use Rattle.model.specs.declared.job.JobState.TheVariants.{Pending, Waiting, Placed, Running, Finished, Failed}
use Rattle.model.specs.declared.job.Job.{Job}
use Rattle.model.specs.declared.plan.Plan.{Plan}
use Rattle.gpu_planner.specs.declared.held.HeldJob.{HeldJob}
use Rattle.gpu_planner.specs.declared.held.HeldEvent.{HeldEvent}
use Rattle.gpu_planner.specs.declared.held.HeldPlan.{HeldPlan}

abbrev pub state_number : JobState → ℕ
state_number Pending = 0
state_number Waiting = 1
state_number Placed = 2
state_number Running = 3
state_number Finished = 4
state_number Failed = 5

-- any other number reads as pending
abbrev pub state_of : ℕ → JobState
state_of n = pick (eqb n 1) Waiting (pick (eqb n 2) Placed (pick (eqb n 3) Running (pick (eqb n 4) Finished (pick (eqb n 5) Failed Pending))))

abbrev pub kind_number : EventKind → ℕ
kind_number Empty = 0
kind_number Arrival = 1
kind_number Completion = 2
kind_number Timeout = 3

-- any other number reads as empty
abbrev pub kind_of : ℕ → EventKind
kind_of n = pick (eqb n 1) Arrival (pick (eqb n 2) Completion (pick (eqb n 3) Timeout Empty))

unfoldable pub held_job : Job → HeldJob
held_job j = record {
  ask = j.ask;
  state = state_number j.state;
  since = j.since;
  start = j.start;
  remaining = j.remaining;
  waited = j.waited;
  evictions = j.evictions;
  run = j.run;
  timeouts = j.timeouts;
}

unfoldable pub job_in : HeldJob → Job
job_in h = record {
  ask = h.ask;
  state = state_of h.state;
  since = h.since;
  start = h.start;
  remaining = h.remaining;
  waited = h.waited;
  evictions = h.evictions;
  run = h.run;
  timeouts = h.timeouts;
}

unfoldable pub held_event : Event → HeldEvent
held_event e = record { time = e.time; number = e.number; kind = kind_number e.kind; job = e.job; generation = e.generation }

unfoldable pub event_in : HeldEvent → Event
event_in h = record { time = h.time; number = h.number; kind = kind_of h.kind; job = h.job; generation = h.generation }

-- the plan, to be held
unfoldable pub held_plan : Plan → HeldPlan
held_plan p = record {
  setting = p.setting;
  gpus = p.gpus;
  jobs = map held_job p.jobs;
  queue = p.queue;
  waiting = p.waiting;
  events = map held_event p.events;
  next = p.next;
  clock = p.clock;
  totals = p.totals;
}

-- and the plan in what is held
unfoldable pub plan_in : HeldPlan → Plan
plan_in h = record {
  setting = h.setting;
  gpus = h.gpus;
  jobs = map job_in h.jobs;
  queue = h.queue;
  waiting = h.waiting;
  events = map event_in h.events;
  next = h.next;
  clock = h.clock;
  totals = h.totals;
}
