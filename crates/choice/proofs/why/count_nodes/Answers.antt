-- What is left to show of `count_nodes`.
use Rattle.std.proofs.Common.{leb, rules, tests}
use Rattle.std.proofs.lemmas.Iterator.{YieldsList-from_slice, YieldsList-from_take}
use Rattle.std.proofs.lemmas.Iterator.Consumers.{YieldsList-at, YieldsList-from_filter, count_from_yields_List}
use Rattle.choice.specs.WhyCases.{count_done}
use Rattle.choice.proofs.why.count_nodes.Goals as goal

pub returns : goal.returns
returns c =
    let start = c.args in
    count_done start.nodes _ c.tally-counts.result start.per c.count.result c.tally-counts.ensures
    (count_from_yields_List c.filter.result _ c.count.ensures.ran
    (YieldsList-from_filter _ (λ x. leb start.per x)
    (YieldsList-at c.filter.ensures.source
    (YieldsList-from_take 32 (YieldsList-at c.take.ensures.source (YieldsList-from_slice c.tally-counts.result cc)) c.take.ensures.count))
    c.filter.ensures.closure (λ x b q k. search (rules, tests))))
