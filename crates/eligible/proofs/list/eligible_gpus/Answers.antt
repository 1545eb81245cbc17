-- What is left to show of `eligible_gpus`.
use Rattle.std.proofs.Common.{rules}
use Rattle.eligible.specs.Eligible.{may_take, eligibles}
use Rattle.eligible.proofs.list.eligible_gpus.Goals as goal

pub returns : goal.returns
unfolding eligibles
returns c = c.those.ensures (may_take c.args.gpus.now c.args.sites c.args.ask) (λ i b h k. search rules)
