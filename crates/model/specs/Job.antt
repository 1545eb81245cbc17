-- A job of the table.
use Rattle.std.specs.Prelude.{false}
use Rattle.model.specs.Number.{zero·0}
use Rattle.model.specs.declared.job.JobState.TheVariants.{Pending}
use Rattle.model.specs.declared.job.Ask.{Ask}
use Rattle.model.specs.declared.job.Job.{Job}

-- A job that asks for nothing.
abbrev pub no_ask : Ask
no_ask = record {
  arrival = zero·0;
  duration = zero·0;
  priority = 0;
  count = 0;
  memory = zero·0;
  kind = 0;
  site = 0;
  tenant = 0;
  gang = false;
  nodes = 0;
  network = false;
  timeout = zero·0;
  profile = 0;
  slices = 0;
}

-- A job as loaded: it has not arrived yet, and its whole duration remains.
unfoldable pub new_job : Ask → Job
new_job ask = record { ask = ask; state = Pending; since = zero·0; start = zero·0; remaining = ask.duration; waited = zero·0; evictions = 0; run = 0; timeouts = 0 }

-- What stands in a table's places that no job has.
unfoldable pub no_job : Job
no_job = new_job no_ask
