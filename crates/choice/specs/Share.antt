-- The share of a gang that one node takes.
use Rattle.std.specs.Prelude.{Bool, List, ℕ, leb, take}
use Rattle.laws.specs.Choice.{pick}
use Rattle.laws.specs.Search.{first}
use Rattle.eligible.specs.Chosen.{keys_counted, with_key, tally_of}
use Rattle.fit.specs.Group.{counted}

-- The key k is counted at least per times.
abbrev pub holds : List ℕ → ℕ → ℕ → Bool
holds counts per k = leb per (counted counts k)

-- Of the eligible GPUs here, on one node, the first group with at least per, in the order none, 0, 1, ..; 257 if none has as many.
unfoldable pub share_group : List ℕ → ℕ → List ℕ → ℕ
share_group groups per here = first (holds (tally_of groups here) per) keys_counted 0

-- No group has enough: the node is penalised.
unfoldable pub parted : List ℕ → ℕ → List ℕ → Bool
parted groups per here = leb keys_counted (share_group groups per here)

-- The first per of that group; if no group has enough, the node's first per.
unfoldable pub share : List ℕ → ℕ → List ℕ → List ℕ
share groups per here = take per (pick (parted groups per here) here (with_key groups (share_group groups per here) here))
