-- The GPUs that a job may take, in table order.
use Rattle.std.specs.Prelude.{Bool, List, ℕ, min, get_or}
use Rattle.laws.specs.Search.{those}
use Rattle.model.specs.Sizes as Sizes
use Rattle.model.specs.Gpu.{no_gpu}
use Rattle.model.specs.declared.gpu.Gpu.{Gpu}
use Rattle.model.specs.declared.job.Ask.{Ask}
use Rattle.eligible.specs.Keys.{node_of}
use Rattle.eligible.specs.Rule.{eligible}

-- The site of the node on which a GPU stands.
abbrev pub site_of : List ℕ → Gpu → ℕ
site_of sites g = get_or sites (node_of g) 0

-- The job may take the GPU with the number i.
abbrev pub may_take : List Gpu → List ℕ → Ask → ℕ → Bool
may_take gpus sites ask i = eligible ask (site_of sites (get_or gpus i no_gpu)) (get_or gpus i no_gpu)

-- Of the first n GPUs those that the job may take.
unfoldable pub eligibles : List Gpu → ℕ → List ℕ → Ask → List ℕ
eligibles gpus n sites ask = those (may_take gpus sites ask) (min n Sizes.gpus) 0
