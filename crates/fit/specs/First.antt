-- A choice of GPUs, and first fit.
use Rattle.std.specs.Prelude.{Bool, List, ℕ, take}
use Rattle.eligible.specs.Chosen.{chosen}
use Rattle.eligible.specs.declared.chosen.Chosen.{Chosen}
use Rattle.fit.specs.declared.first.Choice.{Choice}

-- The GPUs held are chosen, with a penalty or without.
abbrev pub held : Chosen → Bool → Choice
held c penalised = record { chosen = c; penalised = penalised }

-- The GPUs of a list are chosen, with a penalty or without.
abbrev pub took : List ℕ → Bool → Choice
took l penalised = held (chosen l) penalised

-- First fit: the first count in table order.
abbrev pub first_fit : List ℕ → ℕ → List ℕ
first_fit l count = take count l
