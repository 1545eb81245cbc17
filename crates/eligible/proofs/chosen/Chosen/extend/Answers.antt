-- What is left to show of `extend`.
use Rattle.std.proofs.Common.{rules, arith}
use Rattle.eligible.specs.Turns.{extend_none, extend_turn}
use Rattle.eligible.proofs.chosen.Chosen.extend.Goals as goal

pub loop-x-init : goal.loop-x-init
loop-x-init c = λ r e. extend_none _ r (search rules) e

pub loop-x-preserved : goal.loop-x-preserved
loop-x-preserved c =
    λ r e. extend_turn _ _ r c.args.more.now c.loop-x.x-index (omega arith) (c.loop-x.invariant r e) c.push.ensures
