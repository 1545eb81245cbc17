-- What the loop of `write_words` keeps true.
use Rattle.std.proofs.Common.{◌≡◌, ◌*◌, ◌++◌, take, drop}
use Rattle.decision_log.specs.Log.{words}
use Rattle.decision_log.proofs.words.write_words.Given as goal

abbrev pub invariant-loop-i : goal.invariant-loop-i
invariant-loop-i l = l.out ≡ words (take l.i l.d-items) ++ drop (4 * l.i) l.initial.out
