-- What is left to show of `left_over`.
use Rattle.std.proofs.Common.{◌∙◌}
use Rattle.fit.specs.Best.{left_over}
use Rattle.fit.specs.Cases.{less_or}
use Rattle.fit.proofs.best.left_over.Goals as goal

pub returns : goal.returns
unfolding left_over
returns c = c.unwrap_or.ensures ∙ less_or c.checked_sub.result c.args.count c.counted_at.result 129 c.checked_sub.ensures ∙ rw c.counted_at.ensures
