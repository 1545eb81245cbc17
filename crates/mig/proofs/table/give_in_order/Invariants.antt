-- What the loops of `give_in_order` keep true.
use Rattle.std.proofs.Common.{◌≡◌, ◌++◌, ◌-◌, take, drop}
use Rattle.mig.specs.Table.{in_order}
use Rattle.mig.proofs.table.give_in_order.Given as goal

abbrev pub invariant-loop-i : goal.invariant-loop-i
invariant-loop-i l =
    take l.i l.g-items ++ in_order l.profile l.owner l.except l.left (l.i-end - l.i) l.i (drop l.i l.g-items)
    ≡ in_order l.profile l.owner l.except l.want l.i-end 0 l.initial.g-items
