-- What is left to show of `join_all`.
use Rattle.std.proofs.Common.{◌∙◌, take, arith}
use Rattle.laws.specs.Tables.{take_least}
use Rattle.line.specs.Turns.{joined_none, joined_next}
use Rattle.line.proofs.join.join_all.Goals as goal

pub loop-v-init : goal.loop-v-init
loop-v-init c =
    let start = c.args in
    (rw c.min.ensures (take_least start.count 128 start.ids (omega arith)), joined_none _ _ _ _ start.ids)

pub loop-v-preserved : goal.loop-v-preserved
loop-v-preserved c =
    let here = c.loop-v in (
      here.invariant.0,
      c.join-after.ensures
          ∙ rw (c.read-j.ensures, c.from.ensures) (joined_next _ _ _ _ (take c.min.result c.args.ids) _ here.v-index (omega arith) here.invariant.1),
    )
