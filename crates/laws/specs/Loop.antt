-- Loops that carry a state from place to place.
use Rattle.std.specs.Prelude.{◌≡◌, refl}
use Prim.Native.Nat.{ℕ, zero, suc, ◌+◌, ◌-◌, ◌≤◌, ◌<◌}
use native.Mathlib.Omega.{arith}

module _ {S : Type 0} (f : S → ℕ → S) where
  -- the state after the m places from i on
  unfoldable pub through : S → ℕ → ℕ → S
  through s zero i = s
  through s (suc m) i = through (f s i) m (i + 1)

  -- one turn
  pub through_step : (s : S) (n i : ℕ) → i < n → through (f s i) (n - (i + 1)) (i + 1) ≡ through s (n - i) i
  unfolding through
  through_step s n i h = let e : n - i ≡ suc (n - (i + 1)) = omega arith in rw e

  -- past the range the state stays
  pub through_end : (s : S) (n i : ℕ) → n ≤ i → s ≡ through s (n - i) i
  unfolding through
  through_end s n i h = let e : n - i ≡ 0 = omega arith in rw e

  -- a range in two parts
  pub through_add : (s : S) (m n i : ℕ) → through s (m + n) i ≡ through (through s m i) n (i + m)
  unfolding through
  through_add s zero n i = let e : 0 + n ≡ n = omega arith in let g : i + 0 ≡ i = omega arith in rw (e, g)
  through_add s (suc m) n i =
      let e : suc m + n ≡ suc (m + n) = omega arith in
      let g : i + suc m ≡ i + 1 + m = omega arith in
      rw (e, g) (through_add (f s i) m n (i + 1))

  -- one place more at the end
  pub through_last : (s : S) (m i : ℕ) → through s (m + 1) i ≡ f (through s m i) (i + m)
  unfolding through
  through_last s m i = through_add s m 1 i

  -- what each place keeps holds after all
  pub through_keeps : (P : S → Type 0) → ((s : S) (i : ℕ) → P s → P (f s i)) → (s : S) (m i : ℕ) → P s → P (through s m i)
  unfolding through
  through_keeps P k s zero i h = h
  through_keeps P k s (suc m) i h = through_keeps P k (f s i) m (i + 1) (k s i h)

  -- the same where only the places of the range keep it, with the place known
  pub through_holds : (P : ℕ → S → Type 0) (s : S) (m i : ℕ) → ((s : S) (k : ℕ) → i ≤ k → k < i + m → P k s → P (k + 1) (f s k)) → P i s → P (i + m) (through s m i)
  unfolding through
  through_holds P s zero i k h = let e : i + 0 ≡ i = omega arith in rw e h
  through_holds P s (suc m) i k h =
      let e : i + suc m ≡ i + 1 + m = omega arith in
      rw e (through_holds P (f s i) m (i + 1) (λ s j a b. k s j (omega arith) (omega arith)) (k s i (omega arith) (omega arith) h))

-- two loops side by side: what each place keeps between their states holds after all
pub through_both : {S T : Type 0} (f : S → ℕ → S) (g : T → ℕ → T) (R : S → T → Type 0) → ((s : S) (t : T) (i : ℕ) → R s t → R (f s i) (g t i)) →
    (s : S) (t : T) (m i : ℕ) → R s t → R (through f s m i) (through g t m i)
unfolding through
through_both f g R k s t zero i h = h
through_both f g R k s t (suc m) i h = through_both f g R k (f s i) (g t i) m (i + 1) (k s t i h)

-- rules that agree on the range give the same
pub through_same : {S : Type 0} (f g : S → ℕ → S) (s : S) (m i : ℕ) → ((s : S) (k : ℕ) → i ≤ k → k < i + m → f s k ≡ g s k) → through f s m i ≡ through g s m i
unfolding through
through_same f g s zero i e = refl
through_same f g s (suc m) i e =
    rw (e s i (omega arith) (omega arith)) (through_same f g (g s i) m (i + 1) (λ s k a b. e s k (omega arith) (omega arith)))
