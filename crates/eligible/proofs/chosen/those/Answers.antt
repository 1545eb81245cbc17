-- What is left to show of `those`.
use Rattle.std.proofs.Common.{◌≡◌, min, arith, sym, ◌∙◌}
use Rattle.laws.specs.Search.{those}
use Rattle.eligible.specs.Turns.{those_push, those_pass}
use Rattle.eligible.proofs.chosen.those.Goals as goal
use Rattle.eligible.proofs.chosen.those.Goals.{else-test, then-test}

pub loop-i-init : goal.loop-i-init
unfolding those
loop-i-init g c = λ p h. c.new-found.ensures

pub loop-i-preserved : goal.loop-i-preserved
loop-i-preserved g c =
    λ p h. let t : c.test.result ≡ p c.loop-i.i = h c.loop-i.i c.test.result (omega arith) c.test.ensures in
    (elim c.if-test.branch [
      | then-test w ↦ rw w.found-is (those_push p c.loop-i.i _ _ (omega arith) (sym t ∙ w.if-test.true) (c.loop-i.invariant p h) w.push.ensures)
      | else-test w ↦ rw w.found-is (those_pass p c.loop-i.i _ (sym t ∙ w.if-test.false) (c.loop-i.invariant p h))
    ])

pub returns : goal.returns
returns g c =
    λ p h. let i : c.loop-i.i ≡ min c.args.n 128 = omega arith in rw i at (c.loop-i.invariant p h)
