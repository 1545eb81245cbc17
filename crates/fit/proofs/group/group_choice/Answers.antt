-- What is left to show of `group_choice`.
use Rattle.std.proofs.Common.{ap, ◌∙◌}
use Rattle.fit.specs.Group.{fullest}
use Rattle.fit.specs.Cases.{group_one, group_none}
use Rattle.fit.proofs.group.group_choice.Goals as goal

pub returns-then-count-same : goal.returns-then-count-same
returns-then-count-same c =
    group_one _ _ _ _ c.with_key-same.result c.first_of.result _ (c.fullest_key-key.ensures ∙ ap fullest c.tally-counts.ensures)
    c.with_key-same.ensures c.if-count-same.true c.first_of.ensures c.take_these.ensures

pub returns-else-count-same : goal.returns-else-count-same
returns-else-count-same c =
    group_none _ _ _ _ c.with_key-same.result c.first_of-else-count-same.result _
    (c.fullest_key-key.ensures ∙ ap fullest c.tally-counts.ensures)
    c.with_key-same.ensures c.if-count-same.false c.first_of-else-count-same.ensures c.take_these-else-count-same.ensures
