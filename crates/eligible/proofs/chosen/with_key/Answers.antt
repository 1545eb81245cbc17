-- What is left to show of `with_key`.
use Rattle.std.proofs.Common.{rules}
use Rattle.eligible.specs.Chosen.{keyed, with_key}
use Rattle.eligible.proofs.chosen.with_key.Goals as goal

pub returns : goal.returns
unfolding with_key
returns c = c.kept.ensures (keyed c.args.keys c.args.key) (λ x b h k. search rules)
