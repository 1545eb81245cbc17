-- Best fit.
use Rattle.std.specs.Prelude.{Bool, false, List, map, ℕ, ◌-◌, leb, length, take}
use Rattle.laws.specs.Choice.{pick}
use Rattle.laws.specs.Greatest.{argmin}
use Rattle.laws.specs.Sort.{sort}
use Rattle.model.specs.Sizes as Sizes
use Rattle.order.specs.Order.{by_numbers}
use Rattle.eligible.specs.Chosen.{with_key, tally_of}
use Rattle.fit.specs.Group.{counted}

-- More than any node can have left over.
abbrev pub not_held : ℕ
not_held = 129

-- What the job leaves over on the node k, by the counts of eligible GPUs; a node that does not hold it comes last.
unfoldable pub left_over : List ℕ → ℕ → ℕ → ℕ
left_over counts count k = pick (leb count (counted counts k)) (counted counts k - count) not_held

-- The node with least left over, the lowest number on a tie.
unfoldable pub best_node : List ℕ → ℕ → ℕ
best_node counts count = argmin (left_over counts count) Sizes.nodes 0 0

-- The eligible GPUs on that node.
unfoldable pub best_held : List ℕ → List ℕ → ℕ → List ℕ
best_held nodes l count = with_key nodes (best_node (tally_of nodes l) count) l

-- A node's rank by its count: the more eligible GPUs, the lower.
abbrev pub rank : List ℕ → ℕ → ℕ
rank counts k = Sizes.gpus - counted counts k

-- The rank of each GPU's node.
unfoldable pub rank_keys : List ℕ → List ℕ → List ℕ
rank_keys counts nodes = map (rank counts) nodes

-- A GPU may stand before another: its node has more of the eligible GPUs l, or as many and no greater number.
abbrev pub fuller : List ℕ → List ℕ → ℕ → ℕ → Bool
fuller nodes l = by_numbers false (rank_keys (tally_of nodes l) nodes) nodes

-- The eligible GPUs node by node: the node with most of them first, then by number.
unfoldable pub fullest_first : List ℕ → List ℕ → List ℕ
fullest_first nodes l = sort (fuller nodes l) l

-- The first count on the node with least left over; if none holds all, the first count node by node.
unfoldable pub best_fit : List ℕ → List ℕ → ℕ → List ℕ
best_fit nodes l count = take count (pick (leb count (length (best_held nodes l count))) (best_held nodes l count) (fullest_first nodes l))
