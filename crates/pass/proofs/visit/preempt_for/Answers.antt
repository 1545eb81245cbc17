-- What is left to show of `preempt_for`.
use Rattle.std.proofs.Common.{refl}
use Rattle.pass.specs.Visit.{preempting_nobody, preempting_way}
use Rattle.pass.proofs.visit.preempt_for.Goals as goal

pub returns-then-got-eq0 : goal.returns-then-got-eq0
returns-then-got-eq0 c = preempting_nobody _ _ _ _ _ _ c.preempt-got.ensures _ c.if-got-eq0.true refl

pub returns-else-got-eq0 : goal.returns-else-got-eq0
returns-else-got-eq0 c =
    let got = c.preempt-got in
    preempting_way _ _ _ _ _ _ got.ensures _ _ _ _ c.if-got-eq0.false (c.make_way-way.ensures got.new.gpus) c.settle.ensures
