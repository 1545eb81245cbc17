-- What is left to show of `is_nobodys`.
use Rattle.std.proofs.Common.{◌∙◌, rules, tests, eqb}
use Rattle.std.proofs.lemmas.Iterator.{YieldsList-from_slice}
use Rattle.std.proofs.lemmas.Iterator.Search.{all_from_yields_List}
use Rattle.mig.specs.Owner.{all_nobodys}
use Rattle.mig.proofs.owner.is_nobodys.Goals as goal

pub returns : goal.returns
returns c =
    all_from_yields_List (λ x. eqb x 0) _ _ _ c.all.ensures.ran (YieldsList-from_slice c.args.owners.now (cc)) (λ x b q k. search (rules, tests))
    ∙ all_nobodys c.args.owners.now
