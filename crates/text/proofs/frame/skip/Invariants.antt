-- The loop of `skip`: so many bytes are left.
use Rattle.text.proofs.frame.skip.Given as goal

abbrev pub decreases-loop-left : goal.decreases-loop-left
decreases-loop-left g l = l.left
