-- The small changes of one job, and the numbers that they store.
use Rattle.std.specs.Prelude.{ℕ, ◌+◌, ◌%◌, ◌^◌, Bool, false, ◌==◌, Float}
use Rattle.std.specs.Float.{binary64}
use Rattle.std.specs.Float.Ieee.{add, sub, mul, lt}
use Rattle.laws.specs.Choice.{pick}
use Rattle.model.specs.Number.{zero·0, one·0}
use Rattle.model.specs.declared.job.Ask.{Ask}
use Rattle.model.specs.declared.job.Job.{Job}
use Rattle.model.specs.declared.job.JobState.TheVariants.{Waiting, Placed, Running, Finished, Failed}
use Rattle.model.specs.declared.setting.Options.{Options}

-- one more, where it is so
abbrev pub raised : ℕ → Bool → ℕ
raised n more = pick more ((n + 1) % 2 ^ 32) n

-- a gang job with a timeout above 0
abbrev pub timed : Ask → Bool
timed ask = pick ask.gang (lt zero·0 ask.timeout) false

-- Arrival: the job waits, its waiting-since the clock; a timed gang job's timeout generation is raised.
unfoldable pub waits : Job → Float → Job
waits j clock = record {
  ask = j.ask;
  state = Waiting;
  since = clock;
  start = j.start;
  remaining = j.remaining;
  waited = j.waited;
  evictions = j.evictions;
  run = j.run;
  timeouts = raised j.timeouts (timed j.ask);
}

-- Timeout: waited grows by the clock less waiting-since, and the job has failed.
unfoldable pub fails : Job → Float → Job
fails j clock = record {
  ask = j.ask;
  state = Failed;
  since = j.since;
  start = j.start;
  remaining = j.remaining;
  waited = add binary64 j.waited (sub binary64 clock j.since);
  evictions = j.evictions;
  run = j.run;
  timeouts = j.timeouts;
}

-- Completion: the job has finished.
unfoldable pub ends : Job → Job
ends j = record {
  ask = j.ask;
  state = Finished;
  since = j.since;
  start = j.start;
  remaining = j.remaining;
  waited = j.waited;
  evictions = j.evictions;
  run = j.run;
  timeouts = j.timeouts;
}

-- run seconds: the clock less the start, or 0 when the start is later
abbrev pub run_seconds : Job → Float → Float
run_seconds j clock = pick (lt clock j.start) zero·0 (sub binary64 clock j.start)

-- remaining less the run seconds, or 0 when that is not positive
abbrev pub left_after : Job → Float → Float
left_after j clock = let left = sub binary64 j.remaining (run_seconds j clock) in pick (lt zero·0 left) left zero·0

-- A victim: one more eviction, it waits from the clock on, and what it ran is taken off what remains.
unfoldable pub evicted : Job → Float → Job
evicted j clock = record {
  ask = j.ask;
  state = Waiting;
  since = clock;
  start = j.start;
  remaining = left_after j clock;
  waited = j.waited;
  evictions = (j.evictions + 1) % 2 ^ 32;
  run = j.run;
  timeouts = j.timeouts;
}

-- Placed in the present pass, to start at its end.
unfoldable pub placed : Job → Job
placed j = record {
  ask = j.ask;
  state = Placed;
  since = j.since;
  start = j.start;
  remaining = j.remaining;
  waited = j.waited;
  evictions = j.evictions;
  run = j.run;
  timeouts = j.timeouts;
}

-- reconfiguration seconds are added to the start after a cut
abbrev pub delayed : Float → Options → Bool → Float
delayed clock options cut = pick cut (add binary64 clock options.seconds) clock

-- and then the restart penalty if the job was evicted before
abbrev pub start_at : Job → Float → Options → Bool → Float
start_at j clock options cut = let start = delayed clock options cut in pick (j.evictions == 0) start (add binary64 start options.penalty)

-- the option's number when penalised, else 1.0
abbrev pub multiplier_of : Options → Bool → Float
multiplier_of options penalised = pick penalised options.multiplier one·0

-- the completion: start + remaining × multiplier
abbrev pub completion_at : Job → Float → Float → Float
completion_at j start multiplier = add binary64 start (mul binary64 j.remaining multiplier)

-- A start: run generation + 1, a gang's timeout generation + 1, waited grows by the start less waiting-since.
unfoldable pub started : Job → Float → Job
started j at = record {
  ask = j.ask;
  state = Running;
  since = j.since;
  start = at;
  remaining = j.remaining;
  waited = add binary64 j.waited (sub binary64 at j.since);
  evictions = j.evictions;
  run = (j.run + 1) % 2 ^ 32;
  timeouts = raised j.timeouts j.ask.gang;
}
