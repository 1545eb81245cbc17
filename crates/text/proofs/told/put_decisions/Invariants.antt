-- The loop of `put_decisions`: the place stays within the bytes.
use Rattle.std.proofs.Common.{◌≤◌, length}
use Rattle.text.proofs.told.put_decisions.Given as goal

abbrev pub invariant-loop-decision : goal.invariant-loop-decision
invariant-loop-decision l = l.to ≤ length l.out
