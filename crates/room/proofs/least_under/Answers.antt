-- What is left to show of `least_under`.
use Rattle.std.proofs.Common.{◌≡◌, sym, ◌∙◌, arith}
use Rattle.laws.specs.Choice.{pick}
use Rattle.laws.specs.Greatest.{best_step, best_end}
use Rattle.room.specs.Room.{ahead_at}
use Rattle.room.specs.Top.{least_under}
use Rattle.room.proofs.least_under.Goals as goal
use Rattle.room.proofs.least_under.Goals.{else-is_ahead, then-is_ahead}

pub loop-i-init : goal.loop-i-init
unfolding least_under
loop-i-init c = rw c.min-i-end.ensures

pub loop-i-preserved : goal.loop-i-preserved
loop-i-preserved c =
    let room = c.args.room.now in
    let here = c.loop-i in
    let a : c.is_ahead.result ≡ ahead_at room here.i here.best = rw (c.read.ensures, c.read-in-loop-i.ensures) at c.is_ahead.ensures in
    let f : c.if-is_ahead.best ≡ pick (ahead_at room here.i here.best) here.i here.best =
    (elim c.if-is_ahead.branch [
      | then-is_ahead w ↦ rw (← a, w.if-is_ahead.true) w.best-is
      | else-is_ahead w ↦ rw (← a, w.if-is_ahead.false) w.best-is
    ]) in
    rw (f, ← best_step (ahead_at room) c.min-i-end.result here.i here.best (omega arith)) here.invariant

pub returns : goal.returns
returns c =
    sym (best_end (ahead_at c.args.room.now) c.min-i-end.result c.loop-i.i c.loop-i.best (omega arith)) ∙ c.loop-i.invariant
