-- What is left to show of `sort_line`.
use Rattle.pass.specs.Walk.{sorted}
use Rattle.pass.proofs.walk.sort_line.Goals as goal

pub returns : goal.returns
unfolding sorted
returns c = λ gpus. rw c.sort_queue-queue.ensures
