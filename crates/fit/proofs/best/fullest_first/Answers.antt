-- What is left to show of `fullest_first`.
use Rattle.std.proofs.Common.{◌≡◌, ◌∙◌, take}
use Rattle.eligible.specs.Chosen.{list_of}
use Rattle.fit.specs.Best.{fullest_first}
use Rattle.fit.specs.Cases.{node_by_node}
use Rattle.fit.proofs.best.fullest_first.Goals as goal

pub returns : goal.returns
returns c =
    let sorted = c.sort_front-ids in
    let e : take c.args.e.count sorted.result ≡ fullest_first c.args.nodes (list_of c.args.e) =
    node_by_node c.args.nodes c.args.e.ids c.rank_keys-first.result c.wide_keys-second.result c.tally-counts.result sorted.result c.args.e.count
    c.tally-counts.ensures c.rank_keys-first.ensures c.wide_keys-second.ensures sorted.ensures in
    c.first_of.ensures ∙ rw e
