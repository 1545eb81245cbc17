-- What the loops of `kept` keep true.
use Rattle.std.proofs.Common.{◌≡◌, Bool, ℕ, ◌<◌, ◌^◌, take}
use Rattle.laws.specs.Sort.{only}
use Rattle.eligible.specs.Chosen.{chosen}
use Rattle.eligible.proofs.chosen.kept.Given as goal

abbrev pub invariant-loop-x : goal.invariant-loop-x
invariant-loop-x g l =
    (p : ℕ → Bool) → ((x : ℕ) (b : Bool) → x < 2 ^ 16 → goal.F-post g l.test x b → b ≡ p x) → l.found ≡ chosen (only p (take l.x-index l.x-items))
