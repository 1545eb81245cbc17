-- The gang choice: the nodes that a gang takes, and its share of each.
use Rattle.std.specs.Prelude.{Bool, true, false, not, ◌&&◌, ◌||◌, List, [], ◌∷◌, ◌++◌, ℕ, leb, take}
use Rattle.laws.specs.Choice.{pick}
use Rattle.laws.specs.Search.{those}
use Rattle.model.specs.Sizes as Sizes
use Rattle.eligible.specs.Chosen.{with_key, count_of}
use Rattle.fit.specs.declared.first.Choice.{Choice}
use Rattle.fit.specs.First.{took}
use Rattle.choice.specs.Share.{parted, share}

-- The node k has at least per of the eligible GPUs l.
abbrev pub enough_on : List ℕ → List ℕ → ℕ → ℕ → Bool
enough_on nodes l per k = leb per (count_of nodes l k)

-- On the node k no group has enough.
abbrev pub parted_on : List ℕ → List ℕ → List ℕ → ℕ → ℕ → Bool
parted_on nodes groups l per k = parted groups per (with_key nodes k l)

-- What the gang gets of the node k.
abbrev pub share_on : List ℕ → List ℕ → List ℕ → ℕ → ℕ → List ℕ
share_on nodes groups l per k = share groups per (with_key nodes k l)

-- The node k has enough, with a penalty or without, as asked.
unfoldable pub gang_node : List ℕ → List ℕ → List ℕ → ℕ → Bool → ℕ → Bool
gang_node nodes groups l per penalised k = enough_on nodes l per k && pick penalised (parted_on nodes groups l per k) (not (parted_on nodes groups l per k))

-- The nodes with enough and no penalty, by number.
abbrev pub whole_nodes : List ℕ → List ℕ → List ℕ → ℕ → List ℕ
whole_nodes nodes groups l per = those (gang_node nodes groups l per false) Sizes.nodes 0

-- The nodes with enough and a penalty, by number.
abbrev pub parted_nodes : List ℕ → List ℕ → List ℕ → ℕ → List ℕ
parted_nodes nodes groups l per = those (gang_node nodes groups l per true) Sizes.nodes 0

-- The nodes with enough: those without a penalty first, then by number.
unfoldable pub gang_order : List ℕ → List ℕ → List ℕ → ℕ → List ℕ
gang_order nodes groups l per = whole_nodes nodes groups l per ++ parted_nodes nodes groups l per

-- The first g of them.
unfoldable pub gang_nodes : List ℕ → List ℕ → List ℕ → ℕ → ℕ → List ℕ
gang_nodes nodes groups l per g = take g (gang_order nodes groups l per)

-- The shares of the nodes ks, one behind the other.
unfoldable pub shares : List ℕ → List ℕ → List ℕ → ℕ → List ℕ → List ℕ
shares nodes groups l per [] = []
shares nodes groups l per (k ∷ ks) = share_on nodes groups l per k ++ shares nodes groups l per ks

-- One of the nodes ks is penalised.
unfoldable pub any_parted : List ℕ → List ℕ → List ℕ → ℕ → List ℕ → Bool
any_parted nodes groups l per [] = false
any_parted nodes groups l per (k ∷ ks) = parted_on nodes groups l per k || any_parted nodes groups l per ks

-- The shares of the nodes taken; one penalised node penalises the job.
unfoldable pub gang_choice : List ℕ → List ℕ → List ℕ → ℕ → ℕ → Choice
gang_choice nodes groups l per g = took (shares nodes groups l per (gang_nodes nodes groups l per g)) (any_parted nodes groups l per (gang_nodes nodes groups l per g))
