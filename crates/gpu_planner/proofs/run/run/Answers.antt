-- What is left to show of `run`.
use Rattle.std.proofs.Common.{◌≡◌, ℕ, refl, sym, ap, ◌∙◌, arith}
use Rattle.gpu_planner.specs.Head.{ended_head}
use Rattle.gpu_planner.specs.RunLaws.{lent_turn_is, lent_turn_on, next_top, turns_over, both_of}
use Rattle.gpu_planner.proofs.run.run.Goals as goal

pub loop-steps-init : goal.loop-steps-init
loop-steps-init c = (omega arith, refl, refl, c.requires.free_from)

pub overflow_add-count : goal.overflow_add-count
overflow_add-count c =
    let here = c.loop-steps in
    record { fits = omega (arith, here.invariant.0, here.invariant.1) }

pub returns-in-Err : goal.returns-in-Err
returns-in-Err c =
    let s = c.step_lent-answer in
    let here = c.loop-steps in
    let t : _ = lent_turn_is here.plan here.steps here.count here.words s.new.decisions s.result s.new.plan _
    (s.ensures here.invariant.3) (omega arith) here.invariant.2 in
    let both = both_of _ _ c.ended.result _ (rw c.in-Err.is at t) (rw c.end_number.ensures at c.ended.ensures) in
    record { value = both.0; words_after = both.1 }

pub loop-steps-preserved : goal.loop-steps-preserved
loop-steps-preserved c =
    let s = c.step_lent-answer in
    let here = c.loop-steps in
    let t : _ = lent_turn_on here.plan here.steps here.count here.words s.new.decisions s.result s.new.plan _
    (s.ensures here.invariant.3) (omega arith) here.invariant.2 _ c.min-count.result c.in-Ok.is
    c.min-count.ensures (omega arith) (omega arith) in (
      t.0,
      omega arith,
      t.1,
      next_top here.plan s.new.plan _ here.top c.next_top-top.result here.invariant.3 (s.ensures here.invariant.3).1.0 c.next_top-top.ensures,
    )

pub returns : goal.returns
returns c =
    let here = c.loop-steps in
    let e : 1153 ≡ here.steps = omega arith in
    let both = both_of _ _ c.ended-2.result _ (sym (turns_over here.plan here.steps here.count here.words (omega arith)) ∙ here.invariant.2)
    (c.ended-2.ensures ∙ ap (λ (n : ℕ). ended_head 10 n here.count) e) in
    record { value = both.0; words_after = both.1 }
