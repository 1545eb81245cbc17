-- The loop of `run_all`: no more cases than bytes, no more wrong than cases.
use Rattle.std.proofs.Common.{◌≤◌, ◌+◌, length}
use Rattle.replay.proofs.run_all.Given as goal

abbrev pub invariant-loop-kind : goal.invariant-loop-kind
invariant-loop-kind g l = (l.cases + length l.left ≤ length l.fn.file) × (l.wrong ≤ l.cases)

abbrev pub decreases-loop-kind : goal.decreases-loop-kind
decreases-loop-kind g l = length l.left
