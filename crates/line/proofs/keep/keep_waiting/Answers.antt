-- What is left to show of `keep_waiting`.
use Rattle.std.proofs.Common.{rules}
use Rattle.line.specs.Keep.{waits_at, still_waiting}
use Rattle.line.proofs.keep.keep_waiting.Goals as goal

pub returns : goal.returns
unfolding still_waiting
returns c = c.kept.ensures (waits_at c.args.jobs.now) (λ x b h k. search rules)
