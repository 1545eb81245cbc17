-- Who holds what: GPUs and slices counted by owner, what each job has to hold, and that the two agree.
use Rattle.std.specs.Prelude.{◌≡◌, List, ℕ, ◌+◌, ◌≤◌, ◌<◌, eqb, length, get_or}
use Rattle.laws.specs.Choice.{pick}
use Rattle.laws.specs.Lists.{All}
use Rattle.laws.specs.Sums.{sum_over}
use Rattle.model.specs.Sizes as Sizes
use Rattle.model.specs.Gpu.{no_gpu}
use Rattle.model.specs.declared.gpu.Gpu.{Gpu}
use Rattle.model.specs.declared.job.Ask.{Ask}
use Rattle.model.specs.declared.job.Job.{Job}
use Rattle.model.specs.declared.setting.Setting.{Setting}
use Rattle.mig.specs.OwnerLaws.{is_of, owned_slices}
use Rattle.cluster.specs.Usage.{holding}
use Rattle.resource.specs.Cause.{most_of}
use Rattle.history.specs.Good.{job_at}

-- so many whole GPUs, and so many slices
pub record Share : Type 0 where
  pub gpus : ℕ
  pub slices : ℕ

abbrev pub nothing : Share
nothing = record { gpus = 0; slices = 0 }

-- What an owner holds of the table. An owner is the job's number plus 1.
unfoldable pub holds : ℕ → List Gpu → Share
holds owner gpus = record { gpus = sum_over (λ g. is_of owner g.owner) gpus; slices = sum_over (owned_slices owner) gpus }

-- What a job asks for: GPUs, or slices of a MIG job.
abbrev pub wanted : Ask → Share
wanted ask = pick (eqb ask.profile 0) (record { gpus = ask.count; slices = 0 }) (record { gpus = 0; slices = ask.slices })

-- What a job has to hold: what it asks for, from its placing to its end or its eviction.
unfoldable pub due : Job → Share
due j = pick (holding j) (wanted j.ask) nothing

-- A GPU of seven slice owners; one that is owned whole is uncut, and only slices that it was cut into are owned.
pub record Formed (g : Gpu) : Type 0 where
  pub sized : length g.owners ≡ Sizes.slices
  pub whole : 0 < g.owner → g.slices ≡ 0
  pub inside : (i : ℕ) → 0 < get_or g.owners i 0 → i < g.slices

-- Of a table of n GPUs every job holds what it has to, no more and no less; numbers that no job has hold nothing.
pub record Owners (n : ℕ) (gpus : List Gpu) (jobs : List Job) : Type 0 where
  pub table : length gpus ≡ Sizes.gpus
  pub size : length jobs ≡ Sizes.jobs
  pub behind : (i : ℕ) → n ≤ i → get_or gpus i no_gpu ≡ no_gpu
  pub formed : All Formed gpus
  pub exact : (k : ℕ) → holds (k + 1) gpus ≡ due (job_at jobs k)

-- no profile cuts a GPU into more than seven
abbrev pub Cuts : Setting → Type 0
Cuts s = (profile : ℕ) → most_of s profile ≤ Sizes.slices
