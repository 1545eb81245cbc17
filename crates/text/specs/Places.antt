-- A place in lent bytes counts the bytes before it, also after a byte is written.
use Rattle.std.specs.Prelude.{◌≡◌, List, ℕ, ◌≤◌, ◌<◌, ◌+◌, min, length, take, set}
use Rattle.std.proofs.Common.{sym, arith, length-set, length-take-le}
use Rattle.std.proofs.Math.Nat.{min-eq_left, min-eq_right}
use Rattle.std.proofs.Math.Seq.{set_out}
use Rattle.io.specs.Counts.{IsPrefixLen}

pub counted : (n : ℕ) (xs : List ℕ) → n ≤ length xs → IsPrefixLen n xs
counted n xs h = (h, sym (length-take-le n xs h))

-- What stands before a place has as many bytes as the place says.
pub cut_to : (n : ℕ) (xs : List ℕ) → n ≤ length xs → n ≡ length (take n xs)
cut_to n xs h = (counted n xs h).1

-- What a byte written leaves: the place after it, and the bytes with it.
pub wrote : (xs : List ℕ) (i b : ℕ) → i < length xs → IsPrefixLen (i + 1) (set xs i b) × (i + 1 ≡ min (i + 1) (length xs))
wrote xs i b h = (counted (i + 1) (set xs i b) (omega (arith, length-set xs i b)), sym (min-eq_left (omega arith)))

-- Past the end: nothing.
pub full : (xs : List ℕ) (i b : ℕ) → length xs ≤ i → IsPrefixLen (length xs) xs × (length xs ≡ min (i + 1) (length xs)) × (xs ≡ set xs i b)
full xs i b h = (counted (length xs) xs (omega arith), sym (min-eq_right (omega arith)), sym (set_out xs i b h))
