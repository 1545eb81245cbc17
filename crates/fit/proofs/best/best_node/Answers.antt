-- What is left to show of `best_node`.
use Rattle.std.proofs.Common.{sym, ◌∙◌, arith}
use Rattle.laws.specs.Greatest.{argmin_take, argmin_keep, argmin_end}
use Rattle.fit.specs.Best.{left_over, best_node}
use Rattle.fit.proofs.best.best_node.Goals as goal
use Rattle.fit.proofs.best.best_node.Goals.{else-left_over, then-left_over}

pub loop-k-init : goal.loop-k-init
unfolding best_node
loop-k-init c = (omega arith, sym (argmin_keep (left_over c.args.counts.now c.args.count) 32 0 0 (omega arith) (omega arith)))

pub loop-k-preserved : goal.loop-k-preserved
loop-k-preserved c =
    let here = c.loop-k in
    let f = left_over c.args.counts.now c.args.count in
    (elim c.if-left_over.branch [
      | then-left_over w ↦ rw w.best-is (omega arith, sym (argmin_take f 32 here.k here.best (omega arith) (omega arith)) ∙ here.invariant.1)
      | else-left_over w ↦ rw w.best-is (here.invariant.0, sym (argmin_keep f 32 here.k here.best (omega arith) (omega arith)) ∙ here.invariant.1)
    ])

pub returns : goal.returns
returns c =
    let here = c.loop-k in
    sym (argmin_end (left_over c.args.counts.now c.args.count) 32 here.k here.best (omega arith)) ∙ here.invariant.1
