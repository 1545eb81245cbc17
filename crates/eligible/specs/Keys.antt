-- The keys of the GPUs: where each stands, and with whom it forms a group.
use Rattle.std.specs.Prelude.{List, map, ℕ}
use Rattle.model.specs.declared.gpu.Gpu.{Gpu}

-- A GPU's node.
abbrev pub node_of : Gpu → ℕ
node_of g = g.node

-- A GPU's group, by which GPUs with the same key form one: 0 for none, which is a group of its own, else its number plus 1.
abbrev pub group_of : Gpu → ℕ
group_of g = g.group

-- Each GPU's node.
unfoldable pub node_keys : List Gpu → List ℕ
node_keys gpus = map node_of gpus

-- Each GPU's group.
unfoldable pub group_keys : List Gpu → List ℕ
group_keys gpus = map group_of gpus
