-- What is left to show of `take_turns`.
use Rattle.std.proofs.Common.{sym, ◌∙◌, length}
use Rattle.std.proofs.lemmas.Result.{err_from_is_err_and}
use Rattle.loader.specs.LoadLaws.{turn_inside, turns_over, turns_refused, turns_on, turns_end}
use Rattle.loader.proofs.load.take_turns.Goals as goal

pub returns-in_err-next : goal.returns-in_err-next
returns-in_err-next c =
    let trace = c.args.trace.now in
    let here = c.loop-turn in
    let p = err_from_is_err_and c.from_residual.result c.from_residual.ensures.1 in
    let e = rw c.in_err-next.was at c.take_turn.ensures in
    rw (p.1, p.2) (sym (turns_refused trace (length trace) here._turn here.at here.tables c.loop-turn-test.true c.in_err-next.field-0.0 (sym e)) ∙ here.invariant.1)

pub returns-in-None : goal.returns-in-None
returns-in-None c =
    let trace = c.args.trace.now in
    let here = c.loop-turn in
    let e = rw (c.in_ok-next.was, c.in-None.is) at c.take_turn.ensures in
    sym (turns_over trace (length trace) here._turn here.at here.tables c.loop-turn-test.true c.take_turn.new.tables (sym e)) ∙ here.invariant.1

pub loop-turn-preserved : goal.loop-turn-preserved
loop-turn-preserved c =
    let trace = c.args.trace.now in
    let here = c.loop-turn in
    let e = rw (c.in_ok-next.was, c.in-Some.is) at c.take_turn.ensures in (
      rw (← e) at (turn_inside trace here.at here.tables here.invariant.0),
      sym (turns_on trace (length trace) here._turn here.at here.tables c.loop-turn-test.true c.in-Some.next c.take_turn.new.tables (sym e)) ∙ here.invariant.1,
    )

pub returns : goal.returns
returns c =
    let trace = c.args.trace.now in
    let here = c.loop-turn in
    sym (turns_end trace (length trace) here._turn here.at here.tables c.loop-turn-test.false) ∙ here.invariant.1
