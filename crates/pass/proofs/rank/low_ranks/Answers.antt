-- What is left to show of `low_ranks`.
use Rattle.std.proofs.Common.{◌∙◌, leb, take, arith, rules}
use Rattle.std.proofs.lemmas.Iterator.{YieldsList-from_slice}
use Rattle.std.proofs.lemmas.Iterator.Consumers.{YieldsList-from_filter, count_from_yields_List}
use borrow.Author.Tests.{tests}
use Rattle.pass.specs.Rank.{low_ranks, low_counted}
use Rattle.pass.proofs.rank.low_ranks.Goals as goal

pub returns : goal.returns
unfolding low_ranks
returns c =
    let ranks = c.args.ranks.now in
    count_from_yields_List c.filter.result _ c.count.ensures.ran
    (YieldsList-from_filter _ (λ r. leb r c.args.priority) (YieldsList-from_slice (take c.min.result ranks) cc) c.filter.ensures.closure (λ x r q k. search (rules, tests)))
    ∙ low_counted ranks c.args.priority c.min.result (omega arith) ∙ rw c.min.ensures
