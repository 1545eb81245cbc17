-- What is left to show of `best_fit`.
use Rattle.std.proofs.Common.{◌∙◌}
use Rattle.fit.specs.Cases.{best_one, best_none}
use Rattle.fit.proofs.best.best_fit.Goals as goal

pub returns-then-count-same : goal.returns-then-count-same
returns-then-count-same c =
    best_one _ _ _ _ c.with_key-same.result c.first_of.result _ (c.best_node-node.ensures ∙ rw c.tally-counts.ensures) c.with_key-same.ensures
    c.if-count-same.true c.first_of.ensures c.take_these.ensures

pub returns-else-count-same : goal.returns-else-count-same
returns-else-count-same c =
    best_none _ _ _ _ c.with_key-same.result c.fullest_first.result _ (c.best_node-node.ensures ∙ rw c.tally-counts.ensures) c.with_key-same.ensures
    c.if-count-same.false c.fullest_first.ensures c.take_these-else-count-same.ensures
