-- What is left to show of `step_lent`.
use Rattle.std.proofs.Common.{sym, ◌∙◌, arith}
use Rattle.happen.specs.Happen.{whole_moment}
use Rattle.engine.specs.Advance.{found_under_lem, advanced_found, has_found}
use Rattle.planner.specs.Lent.{left_short, left_none, left_barred, left_taken}
use Rattle.planner.proofs.lent.step_lent.Goals as goal

pub returns-then-decisions-lt-WORDS : goal.returns-then-decisions-lt-WORDS
returns-then-decisions-lt-WORDS c = λ free. left_short c.args.plan.now c.args.decisions.now (omega arith)

pub returns-then-not-is_used : goal.returns-then-not-is_used
returns-then-not-is_used c =
    let f = c.next_event-next in
    let p = c.args.plan.now in
    λ free.
    let least = f.ensures ∙ found_under_lem c.args.top p.events free in
    left_none p c.args.decisions.now (omega arith) (sym (has_found p f.result least) ∙ sym c.is_used.ensures ∙ c.if-not-is_used.true)

pub returns-else-m : goal.returns-else-m
returns-else-m c =
    let f = c.next_event-next in
    let m = c.advance-m in
    let p = c.args.plan.now in
    λ free.
    let least = f.ensures ∙ found_under_lem c.args.top p.events free in
    let h = sym (has_found p f.result least) ∙ sym c.is_used.ensures ∙ c.if-not-is_used.false in
    left_barred p c.args.decisions.now (omega arith) h (whole_moment m.result m.new.plan) (m.ensures ∙ advanced_found p f.result least) c.if-m.false

pub returns-then-m : goal.returns-then-m
returns-then-m c =
    let f = c.next_event-next in
    let m = c.advance-m in
    let p = c.args.plan.now in
    λ free.
    let least = f.ensures ∙ found_under_lem c.args.top p.events free in
    let h = sym (has_found p f.result least) ∙ sym c.is_used.ensures ∙ c.if-not-is_used.false in
    left_taken p c.args.decisions.now (omega arith) h (whole_moment m.result m.new.plan) (m.ensures ∙ advanced_found p f.result least) _
    c.if-m.true c.write_words.ensures
