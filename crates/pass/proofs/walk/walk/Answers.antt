-- What is left to show of `walk`.
use Rattle.pass.specs.Walk.{walked_is}
use Rattle.pass.proofs.walk.walk.Goals as goal

pub returns : goal.returns
returns c = walked_is _ _ _ _ _ (c.sort_line-ordered.ensures c.args.gpus.now) c.visit_all.ensures
