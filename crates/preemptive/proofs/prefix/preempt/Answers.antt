-- What is left to show of `preempt`.
use Rattle.preemptive.specs.PrefixSteps.{made_is}
use Rattle.preemptive.proofs.prefix.preempt.Goals as goal

pub returns : goal.returns
returns c = made_is _ _ _ _ c.args.j c.candidates.result _ c.candidates.ensures c.make_room.ensures
