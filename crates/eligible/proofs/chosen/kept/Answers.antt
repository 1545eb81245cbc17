-- What is left to show of `kept`.
use Rattle.std.proofs.Common.{◌≡◌, ◌<◌, ◌≤◌, ◌^◌, length, get_or, rules, arith, sym, ap, ◌∙◌, take_all}
use Rattle.laws.specs.Sort.{only}
use Rattle.eligible.specs.Turns.{only_turn_take, only_turn_skip, held_length}
use Rattle.eligible.proofs.chosen.kept.Goals as goal
use Rattle.eligible.proofs.chosen.kept.Goals.{else-test, then-test}

pub loop-x-init : goal.loop-x-init
unfolding only
loop-x-init g c = λ p h. c.new-found.ensures

pub loop-x-preserved : goal.loop-x-preserved
loop-x-preserved g c =
    let l = c.numbers-x-items.result.now in
    let i = c.loop-x.x-index in
    let z : length c.args.e.ids ≡ 128 = search rules in
    let s : length l ≤ 128 = omega (arith, held_length c.args.e z, ap length c.numbers-x-items.ensures) in
    let b : get_or l i 0 < 2 ^ 16 = (c.type_inv.x-items i).fits in
    λ p h. let t : c.test.result ≡ p (get_or l i 0) = h (get_or l i 0) c.test.result b c.test.ensures in
    (elim c.if-test.branch [
      | then-test w ↦ rw w.found-is (only_turn_take p l i c.loop-x-test.true _ _ s (sym t ∙ w.if-test.true) (c.loop-x.invariant p h) w.push.ensures)
      | else-test w ↦ rw w.found-is (only_turn_skip p l i c.loop-x-test.true _ (sym t ∙ w.if-test.false) (c.loop-x.invariant p h))
    ])

pub returns : goal.returns
returns g c =
    λ p h. c.loop-x.invariant p h ∙ rw (take_all c.loop-x.x-index c.numbers-x-items.result.now c.loop-x-test.false, c.numbers-x-items.ensures)
