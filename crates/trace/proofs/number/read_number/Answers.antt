-- What is left to show of `read_number`.
use Rattle.std.proofs.Common.{◌≡◌, refl, ◌∙◌, ◌-◌, ◌^◌, get_or, arith, add-one, pow-suc}
use Rattle.trace.specs.Number.{groups}
use Rattle.trace.specs.NumberSteps.{room, at_end, at_padded, at_last, at_group, carry_on, start}
use Rattle.trace.proofs.number.read_number.Goals as goal

pub loop-i-init : goal.loop-i-init
loop-i-init c = (refl, omega arith, start c.args.s.now)

pub returns-then-s-i : goal.returns-then-s-i
returns-then-s-i c =
    let here = c.loop-i in
    rw (at_end c.args.s.now here.i here.least c.loop-i-test.true c.if-s-i.true) at here.invariant.2

pub returns-then-b-least : goal.returns-then-b-least
returns-then-b-least c =
    let here = c.loop-i in
    rw (at_padded c.args.s.now here.i here.least c.loop-i-test.true c.if-s-i.false c.if-b-least.true) at here.invariant.2

pub returns-then-b-lt128 : goal.returns-then-b-lt128
returns-then-b-lt128 c =
    let here = c.loop-i in
    rw (at_last c.args.s.now here.i here.least c.loop-i-test.true c.if-s-i.false c.if-b-least.false c.if-b-lt128.true) at here.invariant.2

pub loop-i-preserved : goal.loop-i-preserved
loop-i-preserved c =
    let here = c.loop-i in
    let s = c.args.s.now in (
      rw (here.invariant.0, add-one, pow-suc),
      omega (arith, room here.i here.sum here.unit (get_or s here.i 0 - 128) c.loop-i-test.true here.invariant.0 here.invariant.1 (omega (arith, c.type_inv.s here.i))),
      rw (← carry_on, ← at_group s here.i here.least c.loop-i-test.true c.if-s-i.false c.if-b-least.false c.if-b-lt128.false) here.invariant.2,
    )

pub returns : goal.returns
unfolding groups
returns c =
    let e : c.loop-i.i ≡ 9 = omega arith in
    let u : c.loop-i.unit ≡ 2 ^ 63 = rw e at c.loop-i.invariant.0 in
    c.tenth_byte.ensures ∙ (rw (e, u) at c.loop-i.invariant.2)
