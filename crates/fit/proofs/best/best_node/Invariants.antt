-- What the loops of `best_node` keep true.
use Rattle.std.proofs.Common.{◌≡◌, ◌-◌, ◌<◌}
use Rattle.laws.specs.Greatest.{argmin}
use Rattle.fit.specs.Best.{left_over, best_node}
use Rattle.fit.proofs.best.best_node.Given as goal

abbrev pub invariant-loop-k : goal.invariant-loop-k
invariant-loop-k l = (l.best < 32) × (argmin (left_over l.counts l.count) (32 - l.k) l.k l.best ≡ best_node l.counts l.count)
