-- Preemption evicts the shortest nonempty prefix of the ordered candidates that makes the job placeable; if no prefix does, the tables stand as before.
use Rattle.std.specs.Prelude.{Bool, List, [], ◌∷◌, map, ℕ, leb, length, get_or, take, set, Float}
use Rattle.laws.specs.Choice.{pick}
use Rattle.laws.specs.Lists.{pad}
use Rattle.laws.specs.Search.{first}
use Rattle.small.specs.Small.{plus_one}
use Rattle.model.specs.Sizes as Sizes
use Rattle.model.specs.Job.{no_job}
use Rattle.model.specs.declared.gpu.Gpu.{Gpu}
use Rattle.model.specs.declared.job.Job.{Job}
use Rattle.model.specs.declared.setting.Setting.{Setting}
use Rattle.mig.specs.Owner.{freed}
use Rattle.life.specs.Life.{evicted}
use Rattle.resource.specs.Cause.{placeable}
use Rattle.preemptive.specs.Candidate.{candidates}
use Rattle.preemptive.specs.declared.prefix.Preempted.{Preempted}
use Rattle.preemptive.specs.declared.prefix.Way.{Way}

-- the GPUs when these jobs have left, one after the other: all that each held is free
unfoldable pub freed_all : List Gpu → List ℕ → List Gpu
freed_all gpus [] = gpus
freed_all gpus (v ∷ vs) = freed_all (map (freed (plus_one v)) gpus) vs

-- the jobs when these were evicted, one after the other
unfoldable pub evicted_all : Float → List Job → List ℕ → List Job
evicted_all clock jobs [] = jobs
evicted_all clock jobs (v ∷ vs) = evicted_all clock (set jobs v (evicted (get_or jobs v no_job) clock)) vs

-- The job is placeable when the first k have left; usage is then without them.
abbrev pub opens : Setting → Float → List Gpu → List Job → Job → List ℕ → ℕ → Bool
opens s clock gpus jobs j cs k = placeable s (freed_all gpus (take k cs)) (evicted_all clock jobs (take k cs)) j

-- how many leave: as few as make it placeable, at least one; 0 if no prefix does
unfoldable pub shortest : Setting → Float → List Gpu → List Job → Job → List ℕ → ℕ
shortest s clock gpus jobs j cs =
    let k = first (opens s clock gpus jobs j cs) (length cs) 1 in
    pick (leb k (length cs)) k 0

-- the tables when as many of the candidates have left; the candidates' numbers stand in a table
unfoldable pub made : Setting → Float → List Gpu → List Job → Job → List ℕ → List ℕ → Preempted
made s clock gpus jobs j ids cs =
    let k = shortest s clock gpus jobs j cs in
    record { gpus = freed_all gpus (take k cs); jobs = evicted_all clock jobs (take k cs); victims = ids; count = k }

-- the same, with the tables of GPUs and jobs that were lent
abbrev pub whole_preempted : Way → List Gpu → List Job → Preempted
whole_preempted w gpus jobs = record { gpus = gpus; jobs = jobs; victims = w.victims; count = w.count }

-- What preemption for the job does.
unfoldable pub preempted : Setting → Float → List Gpu → List Job → Job → Preempted
preempted s clock gpus jobs j = let cs = candidates s jobs j.ask in made s clock gpus jobs j (pad Sizes.jobs 0 cs) cs
