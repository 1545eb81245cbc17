-- Slices over the table of GPUs.
use Rattle.std.specs.Prelude.{Bool, ◌&&◌, List, [], ◌∷◌, ℕ, zero, suc, ◌+◌, ◌-◌, min, eqb, get_or, take}
use Rattle.laws.specs.Choice.{pick}
use Rattle.laws.specs.Search.{first}
use Rattle.laws.specs.Sums.{sum_over}
use Rattle.model.specs.Sizes as Sizes
use Rattle.model.specs.Gpu.{no_gpu}
use Rattle.model.specs.declared.gpu.Gpu.{Gpu}
use Rattle.mig.specs.Owner.{idle}
use Rattle.mig.specs.Slices.{free_slices, given_slices}

-- A GPU may be cut anew if it is MIG-capable and wholly idle.
abbrev pub may_cut : Gpu → Bool
may_cut g = g.mig && idle g

-- The same of the GPU with this number.
abbrev pub may_cut_at : List Gpu → ℕ → Bool
may_cut_at gpus i = may_cut (get_or gpus i no_gpu)

-- The number of the first GPU that may be cut anew; for none, how many GPUs there are.
unfoldable pub first_idle : List Gpu → ℕ → ℕ
first_idle gpus n = first (may_cut_at gpus) (min n Sizes.gpus) 0

-- The free slices of a profile on all GPUs.
unfoldable pub free_in_all : List Gpu → ℕ → ℕ → ℕ
free_in_all gpus n profile = sum_over (λ g. free_slices g profile) (take n gpus)

-- How many of the slices still wanted GPU number i gives: none if it is the one excepted, else what it has.
unfoldable pub gives : Gpu → ℕ → ℕ → ℕ → ℕ → ℕ
gives g profile left i except = pick (eqb i except) 0 (min left (free_slices g profile))

-- The m GPUs from number i on, the first in the list, give what is still wanted, each what it has.
unfoldable pub in_order : ℕ → ℕ → ℕ → ℕ → ℕ → ℕ → List Gpu → List Gpu
in_order profile owner except left zero i gpus = gpus
in_order profile owner except left (suc m) i [] = []
in_order profile owner except left (suc m) i (g ∷ gpus) =
    given_slices g profile (gives g profile left i except) owner ∷ in_order profile owner except (left - gives g profile left i except) m (i + 1) gpus

-- The first so many free slices of the profile, in table order but for one GPU's, go to the owner.
unfoldable pub given_in_order : List Gpu → ℕ → ℕ → ℕ → ℕ → ℕ → List Gpu
given_in_order gpus n profile want owner except = in_order profile owner except want (min n Sizes.gpus) 0 gpus
