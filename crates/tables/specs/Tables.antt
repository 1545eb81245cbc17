-- What a read says after a write.
use Rattle.std.specs.Prelude.{◌≡◌, List, ℕ, ◌<◌, length, get_or, set}
use Rattle.std.proofs.Common.{get_or-set_same, get_or-set_other}

module _ {A : Type 0} (table : List A) (i : ℕ) (x none : A) where
  -- what is written is read back
  pub written_back : i < length table → get_or (set table i x) i none ≡ x
  written_back h = get_or-set_same table i x none h

  -- and every other entry is as it was
  pub written_apart : (k : ℕ) → (k ≡ i → ⊥) → get_or (set table i x) k none ≡ get_or table k none
  written_apart k h = get_or-set_other table i k x none h
