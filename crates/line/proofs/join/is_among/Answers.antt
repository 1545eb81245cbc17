-- What is left to show of `is_among`.
use Rattle.std.proofs.Common.{◌∙◌, arith}
use Rattle.line.specs.Turns.{among_is}
use Rattle.line.proofs.join.is_among.Goals as goal

pub returns : goal.returns
returns c = c.contains.ensures.value ∙ rw c.min.ensures (among_is c.args.id c.args.count c.args.ids (omega arith))
