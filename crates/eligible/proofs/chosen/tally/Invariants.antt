-- What the loops of `tally` keep true.
use Rattle.std.proofs.Common.{◌≡◌, take}
use Rattle.eligible.specs.Chosen.{tally_of}
use Rattle.eligible.proofs.chosen.tally.Given as goal

abbrev pub invariant-loop-x : goal.invariant-loop-x
invariant-loop-x l = l.counts ≡ tally_of l.keys (take l.x-index l.x-items)
