-- What is left to show of `place_as`.
use Rattle.pass.specs.Visit.{placed_as}
use Rattle.pass.proofs.visit.place_as.Goals as goal

pub returns : goal.returns
unfolding placed_as
returns c = λ gpus. rw (c.onward.ensures, c.put.ensures, c.write.ensures, c.place.ensures, c.from.ensures)
