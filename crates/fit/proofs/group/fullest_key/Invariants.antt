-- What the loops of `fullest_key` keep true.
use Rattle.std.proofs.Common.{◌≡◌, ◌-◌, ◌<◌}
use Rattle.laws.specs.Greatest.{argmax}
use Rattle.fit.specs.Group.{counted, fullest}
use Rattle.fit.proofs.group.fullest_key.Given as goal

abbrev pub invariant-loop-k : goal.invariant-loop-k
invariant-loop-k l = (l.best < 257) × (argmax (counted l.counts) (257 - l.k) l.k l.best ≡ fullest l.counts)
