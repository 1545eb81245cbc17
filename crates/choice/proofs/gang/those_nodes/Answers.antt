-- What is left to show of `those_nodes`.
use Rattle.std.proofs.Common.{rules}
use Rattle.eligible.specs.Chosen.{list_of}
use Rattle.choice.specs.Gang.{gang_node}
use Rattle.choice.proofs.gang.those_nodes.Goals as goal

pub returns : goal.returns
returns c =
    let start = c.args in
    c.those.ensures (gang_node start.nodes start.groups (list_of start.e) start.per start.penalised) (λ i b h k. search rules)
