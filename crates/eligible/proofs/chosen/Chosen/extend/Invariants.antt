-- What the loops of `extend` keep true.
use Rattle.std.proofs.Common.{◌≡◌, List, ℕ, ◌++◌, take}
use Rattle.eligible.specs.Chosen.{chosen}
use Rattle.eligible.proofs.chosen.Chosen.extend.Given as goal

abbrev pub invariant-loop-x : goal.invariant-loop-x
invariant-loop-x l = (r : List ℕ) → l.initial.self ≡ chosen r → l.self ≡ chosen (take 128 (r ++ take l.x-index l.more))
