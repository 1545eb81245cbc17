-- Who waits; the queue keeps them, in their order.
use Rattle.std.specs.Prelude.{Bool, true, false, List, ℕ, get_or, take}
use Rattle.laws.specs.Sort.{only}
use Rattle.model.specs.Job.{no_job}
use Rattle.model.specs.declared.job.Job.{Job}
use Rattle.model.specs.declared.job.JobState.{JobState}
use Rattle.model.specs.declared.job.JobState.TheVariants.{Pending, Waiting, Placed, Running, Finished, Failed}

abbrev pub waits_in : JobState → Bool
waits_in Pending = false
waits_in Waiting = true
waits_in Placed = false
waits_in Running = false
waits_in Finished = false
waits_in Failed = false

-- a job that waits
abbrev pub waits : Job → Bool
waits j = waits_in j.state

abbrev pub waits_at : List Job → ℕ → Bool
waits_at jobs id = waits (get_or jobs id no_job)

-- Of the first n of the queue those that wait.
unfoldable pub still_waiting : List Job → List ℕ → ℕ → List ℕ
still_waiting jobs queue n = only (waits_at jobs) (take n queue)
