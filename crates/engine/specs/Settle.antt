-- What follows an event: the pass, the victims' timeouts, then the starts in order.
use Rattle.std.specs.Prelude.{◌≡◌, false, length, take, replicate}
use Rattle.laws.specs.Lists.{pad}
use Rattle.laws.specs.Loop.{through}
use Rattle.laws.specs.Sort.{only}
use Rattle.model.specs.Sizes as Sizes
use Rattle.model.specs.declared.plan.Plan.{Plan}
use Rattle.starts.specs.Timeout.{timeouts_queued}
use Rattle.starts.specs.Begin.{begun_all}
use Rattle.starts.specs.declared.begin.Begun.{Begun}
use Rattle.line.specs.Line.{new_line}
use Rattle.pass.specs.Visit.{new_pass}
use Rattle.line.specs.Keep.{still_waiting}
use Rattle.pass.specs.Walk.{sorted, walked}
use Rattle.pass.specs.declared.visit.Pass.{Pass}
use Rattle.happen.specs.declared.Moment.{Moment}

-- the pass
unfoldable pub pass_of : Moment → Pass
pass_of m =
    let p = m.plan in
    walked p.setting p.clock (new_pass p.gpus p.jobs (new_line p.queue p.waiting p.totals m.log m.ok))

-- the victims' timeouts are queued before any completion
unfoldable pub starts_of : Plan → Pass → Begun
starts_of p q =
    let line = q.line in
    let ahead = timeouts_queued p.clock q.jobs (record { events = p.events; next = p.next; ok = line.ok }) (take line.evicted line.victims) in
    begun_all p.setting.options p.clock (record { jobs = q.jobs; ahead = ahead; totals = line.totals; log = line.log }) (take q.count q.placed)

-- the plan after the starts; the queue keeps those that still wait
unfoldable pub with_pass : Plan → Pass → Begun → Plan
with_pass p q b =
    let left = still_waiting b.jobs q.line.queue q.line.waiting in
    record {
      setting = p.setting;
      gpus = q.gpus;
      jobs = b.jobs;
      queue = pad Sizes.jobs 0 left;
      waiting = length left;
      events = b.ahead.events;
      next = b.ahead.next;
      clock = p.clock;
      totals = b.totals;
    }

-- the timeouts, the starts and the queue after a pass
abbrev pub after_pass : Plan → Pass → Moment
after_pass p q = let b = starts_of p q in record { plan = with_pass p q b; log = b.log; ok = b.ahead.ok; goes = false }

-- Pass, timeouts, starts.
unfoldable pub settled : Moment → Moment
settled m = after_pass m.plan (pass_of m)

-- nothing changes but the queue's table, which holds nobody any more
abbrev cleared : Moment → Moment
cleared m =
    let p = m.plan in
    record {
      plan = record {
        setting = p.setting;
        gpus = p.gpus;
        jobs = p.jobs;
        queue = replicate Sizes.jobs 0;
        waiting = p.waiting;
        events = p.events;
        next = p.next;
        clock = p.clock;
        totals = p.totals;
      };
      log = m.log;
      ok = m.ok;
      goes = false;
    }

-- Where nobody waits the pass looks at nobody, and nobody starts.
pub settled_idle : (m : Moment) → m.plan.waiting ≡ 0 → cleared m ≡ settled m
unfolding settled pass_of starts_of with_pass new_pass new_line walked sorted through timeouts_queued begun_all still_waiting only pad
settled_idle m h = rw h
