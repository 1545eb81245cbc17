-- What is left to show of `node_share`.
use Rattle.std.proofs.Common.{◌≡◌, leb, rules, tests}
use Rattle.std.specs.List.{position}
use Rattle.std.proofs.lemmas.Iterator.{YieldsList-from_slice}
use Rattle.std.proofs.lemmas.Iterator.Search.{position_from_yields_List}
use Rattle.choice.specs.Cases.{share_one, share_none}
use Rattle.choice.proofs.share.node_share.Goals as goal

pub returns-in-Some : goal.returns-in-Some
returns-in-Some c =
    let p : c.position.result ≡ position (λ x. leb c.args.per x) c.tally.result =
    position_from_yields_List (λ x. leb c.args.per x) _ _ _ c.position.ensures.ran (YieldsList-from_slice c.tally.result cc)
    (λ x b q k. search (rules, tests)) in
    share_one _ _ c.tally.result _ c.first_of.result _ c.position.result c.tally.ensures p c.in-Some.key c.with_key.result c.in-Some.is
    c.with_key.ensures c.first_of.ensures c.take_these.ensures

pub returns-in-None : goal.returns-in-None
returns-in-None c =
    let p : c.position.result ≡ position (λ x. leb c.args.per x) c.tally.result =
    position_from_yields_List (λ x. leb c.args.per x) _ _ _ c.position.ensures.ran (YieldsList-from_slice c.tally.result cc)
    (λ x b q k. search (rules, tests)) in
    share_none _ _ c.tally.result _ c.first_of-in-None.result _ c.position.result c.tally.ensures p c.in-None.is
    c.first_of-in-None.ensures c.take_these-in-None.ensures
