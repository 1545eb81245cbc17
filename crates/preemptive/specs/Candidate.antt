-- The candidates for a job: running, of lower priority, evicted fewer than 3 times, and of a tenant that it may preempt; by priority, then job number.
use Rattle.std.specs.Prelude.{Bool, true, ◌&&◌, List, ℕ, min, eqb, ltb, leb, get_or}
use Rattle.laws.specs.Choice.{pick}
use Rattle.laws.specs.Search.{those}
use Rattle.laws.specs.Sort.{sort}
use Rattle.model.specs.Sizes as Sizes
use Rattle.model.specs.Job.{no_job}
use Rattle.model.specs.declared.job.Ask.{Ask}
use Rattle.model.specs.declared.job.Job.{Job}
use Rattle.model.specs.declared.setting.Setting.{Setting}
use Rattle.cluster.specs.Usage.{running}
use Rattle.cluster.specs.Queue.{priority_of}

-- quota-aware off, or the job has no tenant, or the other's tenant is the same
abbrev pub open_to : Bool → ℕ → ℕ → Bool
open_to aware tenant other = pick aware (pick (eqb tenant 0) true (eqb other tenant)) true

-- A candidate: running, lower priority, evicted fewer than 3 times, and open to the job.
unfoldable pub candidate : Bool → Ask → Job → Bool
candidate aware ask v = (running v && ltb v.ask.priority ask.priority) && (ltb v.evictions 3 && open_to aware ask.tenant v.ask.tenant)

abbrev pub candidate_at : Bool → List Job → Ask → ℕ → Bool
candidate_at aware jobs ask i = candidate aware ask (get_or jobs i no_job)

-- the candidates in job order
unfoldable pub candidates_by_number : Bool → List Job → ℕ → Ask → List ℕ
candidates_by_number aware jobs n ask = those (candidate_at aware jobs ask) (min n Sizes.jobs) 0

-- x may leave before y: its priority is no higher
abbrev pub lower : List Job → ℕ → ℕ → Bool
lower jobs x y = leb (priority_of (get_or jobs x no_job)) (priority_of (get_or jobs y no_job))

-- The candidates by priority, then job number: the sort keeps the order of equals.
unfoldable pub candidates : Setting → List Job → Ask → List ℕ
candidates s jobs ask = sort (lower jobs) (candidates_by_number s.options.aware jobs s.jobs ask)
