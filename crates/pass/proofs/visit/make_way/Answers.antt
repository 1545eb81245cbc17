-- What is left to show of `make_way`.
use Rattle.pass.specs.Visit.{made_way}
use Rattle.pass.proofs.visit.make_way.Goals as goal

pub returns : goal.returns
unfolding made_way
returns c = λ gpus. rw c.join_all.ensures
