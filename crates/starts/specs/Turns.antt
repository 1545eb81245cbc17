-- Loops that take the entries of a table one after the other.
use Rattle.std.specs.Prelude.{◌≡◌, List, [], ◌∷◌, ℕ, ◌+◌, ◌<◌, ◌≤◌, length, get_or, drop}
use Rattle.std.proofs.Common.{add-one, drop_of_length-le, drop-cons}
use Rattle.laws.specs.Lists.{All}

module _ {S A : Type 0} (f : S → A → S) where
  -- the state after all entries, from the first on
  unfoldable pub folded : S → List A → S
  folded s [] = s
  folded s (x ∷ l) = folded (f s x) l

  -- a turn takes the first of those left
  pub folded_next : (s : S) (l : List A) (i : ℕ) (d : A) → i < length l → folded (f s (get_or l i d)) (drop (i + 1) l) ≡ folded s (drop i l)
  unfolding folded
  folded_next s l i d h = rw (add-one, drop-cons l i d h)

  -- after the last turn none is left
  pub folded_over : (s : S) (l : List A) (i : ℕ) → length l ≤ i → s ≡ folded s (drop i l)
  unfolding folded
  folded_over s l i h = rw (drop_of_length-le l h)

  -- what each entry keeps holds after all
  pub folded_keeps : (P : S → Type 0) → ((s : S) (x : A) → P s → P (f s x)) → (s : S) (l : List A) → P s → P (folded s l)
  unfolding folded
  folded_keeps P k s [] h = h
  folded_keeps P k s (x ∷ l) h = folded_keeps P k (f s x) l (k s x h)

  -- the same where only entries with a property keep it
  pub folded_among : (P : S → Type 0) (Q : A → Type 0) → ((s : S) (x : A) → Q x → P s → P (f s x)) → (s : S) (l : List A) → All Q l → P s → P (folded s l)
  unfolding folded
  folded_among P Q k s [] q h = h
  folded_among P Q k s (x ∷ l) q h = folded_among P Q k (f s x) l q.1 (k s x q.0 h)
