-- What is left to show of `give_in_order`.
use Rattle.std.proofs.Common.{◌≡◌, ◌∙◌, ◌-◌, length, take, arith}
use Rattle.mig.specs.TableSteps.{gives_wanted, order_turn, order_end, order_front}
use Rattle.mig.proofs.table.give_in_order.Goals as goal

pub loop-i-init : goal.loop-i-init
loop-i-init c =
    let m = length (take c.min.result c.args.gpus.now) in
    let all : m - 0 ≡ m = omega arith in rw all

pub overflow_sub-left : goal.overflow_sub-left
overflow_sub-left c = rw c.gives-k.ensures (gives_wanted _ _ _ _ _)

pub loop-i-preserved : goal.loop-i-preserved
loop-i-preserved c =
    let here = c.loop-i in
    let m = length (take c.min.result c.args.gpus.now) in
    rw (c.give_slices.ensures, c.gives-k.ensures)
    (order_turn c.args.profile c.args.owner c.args.except here.left m here.i here.g-items _ c.loop-i-test.true (omega arith) ∙ here.invariant)

pub returns : goal.returns
returns c =
    let here = c.loop-i in
    let m = length (take c.min.result c.args.gpus.now) in
    order_front c.args.profile c.args.owner c.args.except c.args.want c.args.n c.min.result c.args.gpus.now here.g-items c.told-gpus c.min.ensures
    (order_end c.args.profile c.args.owner c.args.except here.left m here.i here.g-items c.loop-i-test.false ∙ here.invariant)
