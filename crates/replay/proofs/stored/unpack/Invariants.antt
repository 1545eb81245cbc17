-- The loop of `unpack`: what is left of the file.
use Rattle.std.proofs.Common.{◌≤◌, length}
use Rattle.replay.proofs.stored.unpack.Given as goal

abbrev pub invariant-loop-left : goal.invariant-loop-left
invariant-loop-left l = length l.left ≤ length l.fn.file

abbrev pub decreases-loop-left : goal.decreases-loop-left
decreases-loop-left l = length l.left
