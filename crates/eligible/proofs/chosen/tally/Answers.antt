-- What is left to show of `tally`.
use Rattle.std.proofs.Common.{◌≡◌, ◌≤◌, length, get_or, ap, rules, refl, arith, take_all, ◌∙◌}
use Rattle.eligible.specs.Turns.{tally_none, tally_in, tally_out, tally_small, held_length}
use Rattle.eligible.proofs.chosen.tally.Goals as goal
use Rattle.eligible.proofs.chosen.tally.Goals.{else-key-lt-KEYS, then-key-lt-KEYS}

pub loop-x-init : goal.loop-x-init
loop-x-init c = tally_none _ _ refl

pub overflow_add-counts : goal.overflow_add-counts
overflow_add-counts c =
    let l = c.numbers-x-items.result.now in
    let z : length c.args.e.ids ≡ 128 = search rules in
    let s : length l ≤ 128 = omega (arith, held_length c.args.e z, ap length c.numbers-x-items.ensures) in
    let here = c.loop-x in
    record { fits = omega (arith, tally_small c.args.keys l here.counts here.x-index c.from-key.result c.if-key-lt-KEYS.true here.invariant) }

pub loop-x-preserved : goal.loop-x-preserved
loop-x-preserved c =
    let l = c.numbers-x-items.result.now in
    let here = c.loop-x in
    let i = here.x-index in
    let key = c.from-key.result in
    let k : c.from-key.result ≡ get_or c.args.keys (get_or l i 0) 0 = cc in
    (elim c.if-key-lt-KEYS.branch [
      | then-key-lt-KEYS w ↦ rw w.counts-is (tally_in c.args.keys l i c.loop-x-test.true here.counts key k w.if-key-lt-KEYS.true here.invariant)
      | else-key-lt-KEYS w ↦ rw w.counts-is (tally_out c.args.keys l i c.loop-x-test.true here.counts key k w.if-key-lt-KEYS.false here.invariant)
    ])

pub returns : goal.returns
returns c =
    c.loop-x.invariant ∙ rw (take_all c.loop-x.x-index c.numbers-x-items.result.now c.loop-x-test.false, c.numbers-x-items.ensures)
