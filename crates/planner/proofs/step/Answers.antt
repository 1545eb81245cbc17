-- What is left to show of `step`.
use Rattle.std.proofs.Common.{sym, ◌∙◌, arith}
use Rattle.planner.specs.Lent.{done_lent, done_kept}
use Rattle.planner.proofs.step.Goals as goal

pub returns-then-is_ok : goal.returns-then-is_ok
returns-then-is_ok c =
    let p = c.args.plan in
    let b = c.args.decisions.now in
    let s = c.step_lent-answer in
    let d = done_lent p b s.result s.new.plan s.new.decisions (s.ensures (λ i l h. absurd (omega arith))) (sym c.is_ok.ensures.value ∙ c.if-is_ok.true) in
    record { value = d.0; decisions_after = d.1 }

pub returns-else-is_ok : goal.returns-else-is_ok
returns-else-is_ok c =
    let p = c.args.plan in
    let b = c.args.decisions.now in
    let s = c.step_lent-answer in
    let d = done_kept p b s.result s.new.plan s.new.decisions (s.ensures (λ i l h. absurd (omega arith))) (sym c.is_ok.ensures.value ∙ c.if-is_ok.false) in
    record { value = d.0; decisions_after = d.1 }
