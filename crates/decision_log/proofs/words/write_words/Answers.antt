-- What is left to show of `write_words`.
use Rattle.std.proofs.Common.{◌≡◌, ◌+◌, ◌*◌, ◌≤◌, ◌∙◌, refl, length, arith, length-take-le, take}
use Rattle.laws.specs.Tables.{take_least}
use Rattle.decision_log.specs.Log.{words}
use Rattle.decision_log.specs.WordsLaws.{words_turn, words_done}
use Rattle.decision_log.proofs.words.write_words.Goals as goal

pub loop-i-init : goal.loop-i-init
unfolding words
loop-i-init c = refl

pub loop-i-preserved : goal.loop-i-preserved
loop-i-preserved c =
    let here = c.loop-i in
    let part = take c.min.result c.args.table in
    let room : 4 * here.i + 4 ≤ length c.args.out.now = omega (arith, length-take-le c.min.result c.args.table (omega arith)) in
    c.put_words.ensures ∙ words_turn part here.out c.args.out.now here.i _ c.loop-i-test.true room here.invariant

pub returns : goal.returns
returns c =
    let here = c.loop-i in
    let table = c.args.table in
    let part : take c.min.result table ≡ take c.args.count table = rw c.min.ensures (take_least c.args.count 129 table (omega arith)) in
    rw (← part) (words_done (take c.min.result table) here.out c.args.out.now here.i (omega arith) here.invariant)
