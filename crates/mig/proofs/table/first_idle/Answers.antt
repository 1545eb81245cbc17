-- What is left to show of `first_idle`.
use Rattle.std.proofs.Common.{◌∙◌, take, arith, rules, tests}
use Rattle.std.proofs.lemmas.Iterator.{YieldsList-from_slice}
use Rattle.std.proofs.lemmas.Iterator.Search.{position_from_yields_List}
use Rattle.model.specs.Gpu.{no_gpu}
use Rattle.mig.specs.More.{first_position}
use Rattle.mig.specs.Table.{may_cut, first_idle}
use Rattle.mig.proofs.table.first_idle.Goals as goal

pub returns : goal.returns
unfolding first_idle
returns c =
    let gpus = c.args.gpus.now in
    let m = c.min-m.result in
    rw (← c.min-m.ensures)
    (c.unwrap_or.ensures ∙ first_position may_cut gpus no_gpu m c.position.result (omega arith)
    (position_from_yields_List may_cut _ _ _ c.position.ensures.ran
    (YieldsList-from_slice (take m gpus) (cc))
    (λ x b q k. search (rules, tests))))
