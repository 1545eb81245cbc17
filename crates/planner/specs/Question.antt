-- The question whether a job is placeable now: yes, no, or no such job.
use Rattle.std.specs.Prelude.{Bool, ℕ, Result, Ok, Err, ltb, get_or}
use Rattle.laws.specs.Choice.{pick}
use Rattle.model.specs.Job.{no_job}
use Rattle.model.specs.declared.plan.Plan.{Plan}
use Rattle.resource.specs.Cause.{placeable}
use Rattle.planner.specs.declared.NoSuchJob.{NoSuchJob}

abbrev pub no_such_job : NoSuchJob
no_such_job = record {}

-- Of a loaded job, whether it is placeable in the plan as it is.
unfoldable pub question : Plan → ℕ → Result Bool NoSuchJob
question plan job =
    pick (ltb job plan.setting.jobs)
    (Ok (placeable plan.setting plan.gpus plan.jobs (get_or plan.jobs job no_job)))
    (Err no_such_job)

-- Document 01's number of the refusal; 0 stands for none.
abbrev pub number_of : Result Bool NoSuchJob → ℕ
number_of (Ok b) = 0
number_of (Err e) = 13
