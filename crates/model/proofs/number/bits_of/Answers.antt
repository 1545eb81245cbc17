-- What is left to show of `bits_of`.
use lib.Ieee.{to_bits}
use Rattle.laws.specs.Floats.{nan_of}
use Rattle.model.proofs.number.bits_of.Goals as goal

pub returns-else-x : goal.returns-else-x
unfolding to_bits
returns-else-x c = rw (nan_of c.args.x c.if-x.false)
