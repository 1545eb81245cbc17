-- The plan and the empty plan.
use Rattle.std.specs.Prelude.{replicate}
use Rattle.model.specs.Sizes as Sizes
use Rattle.model.specs.Number.{zero·0}
use Rattle.model.specs.Gpu.{no_gpu}
use Rattle.model.specs.Job.{no_job}
use Rattle.model.specs.Event.{empty_event}
use Rattle.model.specs.Setting.{empty_setting}
use Rattle.model.specs.Totals.{no_totals}
use Rattle.model.specs.declared.plan.Plan.{Plan}

-- The plan that holds no record: every table empty, clock 0.0.
unfoldable pub empty_plan : Plan
empty_plan = record {
  setting = empty_setting;
  gpus = replicate Sizes.gpus no_gpu;
  jobs = replicate Sizes.jobs no_job;
  queue = replicate Sizes.jobs 0;
  waiting = 0;
  events = replicate Sizes.events empty_event;
  next = 0;
  clock = zero·0;
  totals = no_totals;
}
