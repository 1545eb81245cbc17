-- What is left to show of `fullest_key`.
use Rattle.std.proofs.Common.{refl, sym, ◌∙◌, arith}
use Rattle.laws.specs.Greatest.{argmax_take, argmax_keep, argmax_end}
use Rattle.fit.specs.Group.{counted, fullest}
use Rattle.fit.proofs.group.fullest_key.Goals as goal
use Rattle.fit.proofs.group.fullest_key.Goals.{else-counts-best, then-counts-best}

pub loop-k-init : goal.loop-k-init
unfolding fullest
loop-k-init c = (omega arith, refl)

pub loop-k-preserved : goal.loop-k-preserved
loop-k-preserved c =
    let here = c.loop-k in
    let f = counted c.args.counts.now in
    let n = c.loop-k-test.true in
    (elim c.if-counts-best.branch [
      | then-counts-best w ↦ rw w.best-is (n, sym (argmax_take f 257 here.k here.best n w.if-counts-best.true) ∙ here.invariant.1)
      | else-counts-best w ↦ rw w.best-is (here.invariant.0, sym (argmax_keep f 257 here.k here.best n w.if-counts-best.false) ∙ here.invariant.1)
    ])

pub returns : goal.returns
returns c =
    let here = c.loop-k in
    sym (argmax_end (counted c.args.counts.now) 257 here.k here.best (omega arith)) ∙ here.invariant.1
