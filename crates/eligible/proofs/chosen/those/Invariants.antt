-- What the loops of `those` keep true.
use Rattle.std.proofs.Common.{◌≡◌, Bool, ℕ, ◌<◌}
use Rattle.laws.specs.Search.{those}
use Rattle.eligible.specs.Chosen.{chosen}
use Rattle.eligible.proofs.chosen.those.Given as goal

abbrev pub invariant-loop-i : goal.invariant-loop-i
invariant-loop-i g l =
    (p : ℕ → Bool) → ((i : ℕ) (b : Bool) → i < 128 → goal.F-post g l.test i b → b ≡ p i) → l.found ≡ chosen (those p l.i 0)
