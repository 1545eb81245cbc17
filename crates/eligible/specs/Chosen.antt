-- Lists of GPU numbers, as the code holds them, and what is asked of them.
use Rattle.std.specs.Prelude.{Bool, List, ℕ, eqb, length, get_or, take}
use Rattle.laws.specs.Lists.{pad}
use Rattle.laws.specs.Sort.{only}
use Rattle.model.specs.Sizes.{gpus}
use Rattle.eligible.specs.More.{each}
use Rattle.eligible.specs.declared.chosen.Chosen.{Chosen}

-- How many keys are counted, 0 to 256: a node's number, or none and each group.
abbrev pub keys_counted : ℕ
keys_counted = 257

-- A list of at most 128 numbers as it is held, filled up with zeros.
abbrev pub chosen : List ℕ → Chosen
chosen l = record { ids = pad gpus 0 l; count = length l }

-- The list that is held.
abbrev pub list_of : Chosen → List ℕ
list_of c = take c.count c.ids

-- The number i has the key k.
abbrev pub keyed : List ℕ → ℕ → ℕ → Bool
keyed keys k i = eqb (get_or keys i 0) k

-- Those of the list that have the key k, in their order.
unfoldable pub with_key : List ℕ → ℕ → List ℕ → List ℕ
with_key keys k l = only (keyed keys k) l

-- How many of the list have the key k.
unfoldable pub count_of : List ℕ → List ℕ → ℕ → ℕ
count_of keys l k = length (with_key keys k l)

-- How many of the list have each key.
unfoldable pub tally_of : List ℕ → List ℕ → List ℕ
tally_of keys l = each (count_of keys l) keys_counted 0
