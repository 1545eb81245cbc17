-- What an event says: an arrival, a completion, a timeout; a stale one changes nothing more.
use Rattle.std.specs.Prelude.{Bool, true, false, ◌&&◌, map, ℕ, eqb, length, get_or, set}
use Rattle.laws.specs.Choice.{pick}
use Rattle.laws.specs.Lists.{pad}
use Rattle.small.specs.Small.{plus_one, onward}
use Rattle.model.specs.Sizes as Sizes
use Rattle.model.specs.Job.{no_job}
use Rattle.model.specs.Number.{permitted, bits_of}
use Rattle.model.specs.declared.event.Event.{Event}
use Rattle.model.specs.declared.job.Job.{Job}
use Rattle.model.specs.declared.plan.Plan.{Plan}
use Rattle.decision_log.specs.Log.{empty_log, told}
use Rattle.decision_log.specs.declared.Kind.{Kind}
use Rattle.decision_log.specs.declared.Kind.TheVariants.{Arrived, Failed, Completed}
use Rattle.mig.specs.Owner.{freed}
use Rattle.cluster.specs.Usage.{running}
use Rattle.life.specs.Life as Life
use Rattle.noted.specs.Noted as Noted
use Rattle.room.specs.declared.ahead.Ahead.{Ahead}
use Rattle.starts.specs.Timeout.{timeout_queued}
use Rattle.starts.specs.Begin.{amount}
use Rattle.line.specs.Keep.{waits, still_waiting}
use Rattle.happen.specs.declared.Moment.{Moment}
use Rattle.happen.specs.declared.Point.{Point}

-- the moment, with the plan that was lent
abbrev pub whole_moment : Point → Plan → Moment
whole_moment m p = record { plan = p; log = m.log; ok = m.ok; goes = m.goes }

abbrev pub job_of : Plan → ℕ → Job
job_of p id = get_or p.jobs id no_job

-- nothing more is done
unfoldable pub stale : Plan → Moment
stale p = record { plan = p; log = empty_log; ok = true; goes = false }

-- what is said of it
abbrev pub nothing : Point
nothing = record { log = empty_log; ok = true; goes = false }

-- the step's first decision, at the clock; a pass follows
unfoldable pub said : Plan → Bool → Kind → ℕ → ℕ → Moment
said p ok kind job other = record { plan = p; log = told empty_log (bits_of p.clock) kind job other; ok = ok; goes = true }

-- the job stands at the queue's end; the longest queue is looked at
unfoldable pub joins : Plan → ℕ → Job → Plan
joins p id j =
    let waiting = onward p.waiting Sizes.jobs in
    record {
      setting = p.setting;
      gpus = p.gpus;
      jobs = set p.jobs id j;
      queue = set p.queue p.waiting id;
      waiting = waiting;
      events = p.events;
      next = p.next;
      clock = p.clock;
      totals = Noted.joined p.totals waiting;
    }

abbrev pub with_ahead : Plan → Ahead → Plan
with_ahead p a = record {
  setting = p.setting;
  gpus = p.gpus;
  jobs = p.jobs;
  queue = p.queue;
  waiting = p.waiting;
  events = a.events;
  next = a.next;
  clock = p.clock;
  totals = p.totals;
}

-- Arrival: the job waits since the clock; a gang job with a timeout gets one at arrival + timeout.
unfoldable pub arrives : Plan → ℕ → Moment
arrives p id =
    let j = Life.waits (job_of p id) p.clock in
    let a = timeout_queued (record { events = p.events; next = p.next; ok = true }) id j j.ask.arrival in
    said (with_ahead (joins p id j) a) a.ok Arrived id 0

-- Completion: the job has finished and its resources are free.
unfoldable pub completes : Plan → ℕ → Moment
completes p id =
    let j = job_of p id in
    said
    (record {
      setting = p.setting;
      gpus = map (freed (plus_one id)) p.gpus;
      jobs = set p.jobs id (Life.ends j);
      queue = p.queue;
      waiting = p.waiting;
      events = p.events;
      next = p.next;
      clock = p.clock;
      totals = p.totals;
    })
    true Completed id (amount j.ask)

-- Timeout: waited grows, the job has failed and leaves the queue.
unfoldable pub times_out : Plan → ℕ → Moment
times_out p id =
    let j = Life.fails (job_of p id) p.clock in
    let jobs = set p.jobs id j in
    let left = still_waiting jobs p.queue p.waiting in
    said
    (record {
      setting = p.setting;
      gpus = p.gpus;
      jobs = jobs;
      queue = pad Sizes.jobs 0 left;
      waiting = length left;
      events = p.events;
      next = p.next;
      clock = p.clock;
      totals = p.totals;
    })
    (permitted j.waited) Failed id 0

-- the job runs with that run generation
abbrev pub of_run : Job → ℕ → Bool
of_run j generation = running j && eqb j.run generation

-- the job waits with that timeout generation
abbrev pub of_timeout : Job → ℕ → Bool
of_timeout j generation = waits j && eqb j.timeouts generation

abbrev pub arrived : Plan → Event → Moment
arrived p e = arrives p e.job

-- Only if the job runs with that run generation.
unfoldable pub completed : Plan → Event → Moment
completed p e = pick (of_run (job_of p e.job) e.generation) (completes p e.job) (stale p)

-- Only if it waits with that timeout generation.
unfoldable pub timed_out : Plan → Event → Moment
timed_out p e = pick (of_timeout (job_of p e.job) e.generation) (times_out p e.job) (stale p)
