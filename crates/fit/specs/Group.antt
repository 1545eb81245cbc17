-- The choice of one group over all nodes.
use Rattle.std.specs.Prelude.{true, false, List, ℕ, leb, length, get_or, take}
use Rattle.laws.specs.Choice.{pick}
use Rattle.laws.specs.Greatest.{argmax}
use Rattle.eligible.specs.Chosen.{keys_counted, with_key, tally_of}
use Rattle.fit.specs.declared.first.Choice.{Choice}
use Rattle.fit.specs.First.{took, first_fit}

-- What a tally says of a key.
abbrev pub counted : List ℕ → ℕ → ℕ
counted counts k = get_or counts k 0

-- The key that is counted most often, the first on a tie.
unfoldable pub fullest : List ℕ → ℕ
fullest counts = argmax (counted counts) keys_counted 0 0

-- Of the eligible GPUs l those of the group that has most of them, ties in the order none, 0, 1, ..
unfoldable pub fullest_group : List ℕ → List ℕ → List ℕ
fullest_group groups l = with_key groups (fullest (tally_of groups l)) l

-- The first count of that group if it has at least count; otherwise first fit, with a penalty.
unfoldable pub group_choice : List ℕ → List ℕ → ℕ → Choice
group_choice groups l count = pick (leb count (length (fullest_group groups l))) (took (take count (fullest_group groups l)) false) (took (first_fit l count) true)
