-- The best of a range, the first on a tie: by any test, by the greatest number, by the least.
use Rattle.std.specs.Prelude.{◌≡◌, ◌⊎◌, Bool, false, ltb}
use Rattle.std.proofs.Math.Path.{refl}
use Rattle.std.proofs.Math.Logic.{inl, inr, ⊎_elim}
use Rattle.std.proofs.Math.Bool.{true}
use Prim.Native.Nat.{ℕ, zero, suc, ◌+◌, ◌-◌, ◌≤◌, ◌<◌}
use native.Mathlib.Omega.{arith}
use Rattle.std.proofs.Common.{below_more}
use borrow.Author.Tests.{ltb-true, ltb-false, lt-ltb, le-ltb}
use Rattle.laws.specs.Choice.{pick}
use Rattle.laws.specs.Tests.{split, never_both, holds, eq_or_gt}

-- ---- by any test

module _ (ahead : ℕ → ℕ → Bool) where
  -- the best of b and the m numbers from i on, where a later one has to be ahead of the best so far
  unfoldable pub best : ℕ → ℕ → ℕ → ℕ
  best zero i b = b
  best (suc m) i b = best m (i + 1) (pick (ahead i b) i b)

  -- one turn
  pub best_step : (n i b : ℕ) → i < n → best (n - i) i b ≡ best (n - (i + 1)) (i + 1) (pick (ahead i b) i b)
  unfolding best
  best_step n i b h = let e : n - i ≡ suc (n - (i + 1)) = omega arith in rw e

  -- past the range it is the best so far
  pub best_end : (n i b : ℕ) → n ≤ i → best (n - i) i b ≡ b
  unfolding best
  best_end n i b h = let e : n - i ≡ 0 = omega arith in rw e

  -- it is b or in the range
  pub best_in : (m i b : ℕ) → (best m i b ≡ b) ⊎ ((i ≤ best m i b) × (best m i b < i + m))
  unfolding best
  best_in zero i b = inl refl
  best_in (suc m) i b =
      split
      (ahead i b)
      (λ e. rw e
      (inr
      (⊎_elim
      (λ h. (omega (arith, h), omega (arith, h)))
      (λ h. (omega (arith, h.0), omega (arith, h.1)))
      (best_in m (i + 1) i))))
      (λ e. rw e (⊎_elim (λ h. inl h) (λ h. inr (omega (arith, h.0), omega (arith, h.1))) (best_in m (i + 1) b)))

  -- it is below n where b and the range are
  pub best_below : (n m i b : ℕ) → b < n → i + m ≤ n → best m i b < n
  best_below n m i b h k = ⊎_elim (λ e. omega (arith, e)) (λ e. omega (arith, e.1)) (best_in m i b)

-- not ahead passes along a chain, and of two at most one is ahead
pub record Order (ahead : ℕ → ℕ → Bool) : Type 0 where
  pub chain : (x y z : ℕ) → ahead x y ≡ false → ahead y z ≡ false → ahead x z ≡ false
  pub oneway : (x y : ℕ) → ahead x y ≡ true → ahead y x ≡ false

module _ (ahead : ℕ → ℕ → Bool) (o : Order ahead) where
  -- none is ahead of itself
  pub never_self : (x : ℕ) → ahead x x ≡ false
  never_self x = split (ahead x x) (λ e. o.oneway x x e) (λ e. e)

  -- b is not ahead of it
  pub best_start : (m i b : ℕ) → ahead b (best ahead m i b) ≡ false
  unfolding best
  best_start zero i b = never_self b
  best_start (suc m) i b =
      split
      (ahead i b)
      (λ e. rw e (o.chain b i (best ahead m (i + 1) i) (o.oneway i b e) (best_start m (i + 1) i)))
      (λ e. rw e (best_start m (i + 1) b))

  -- none of the range is ahead of it
  pub best_most : (m i b k : ℕ) → i ≤ k → k < i + m → ahead k (best ahead m i b) ≡ false
  unfolding best
  best_most zero i b k l h = absurd (omega arith)
  best_most (suc m) i b k l h =
      ⊎_elim
      (λ s. let s : k ≡ i = s in
      split
      (ahead i b)
      (λ e. rw (e, s) (best_start m (i + 1) i))
      (λ e. rw (e, s) (o.chain i b (best ahead m (i + 1) b) e (best_start m (i + 1) b))))
      (λ s. best_most m (i + 1) (pick (ahead i b) i b) k s (omega arith))
      (eq_or_gt i k l)

  -- it is ahead of each number before it: the first on a tie
  pub best_first : (m i b : ℕ) → ((k : ℕ) → k < b → ahead b k ≡ true) → ((k : ℕ) → k < i → ahead k b ≡ false) → (k : ℕ) → k < best ahead m i b →
      ahead (best ahead m i b) k ≡ true
  unfolding best
  best_first zero i b f g k h = f k h
  best_first (suc m) i b f g k h =
      split
      (ahead i b)
      (λ e. let h : k < best ahead m (i + 1) i = rw e at h in
      rw e
      (best_first
      m
      (i + 1)
      i
      (won i b e g)
      (below_more (λ k. ahead k i ≡ false) i (λ k s. o.oneway i k (won i b e g k s)) (never_self i))
      k
      h))
      (λ e. let h : k < best ahead m (i + 1) b = rw e at h in
      rw e (best_first m (i + 1) b f (below_more (λ k. ahead k b ≡ false) i g e) k h))
    where
      won : (i b : ℕ) → ahead i b ≡ true → ((k : ℕ) → k < i → ahead k b ≡ false) → (k : ℕ) → k < i → ahead i k ≡ true
      won i b e g k s = holds (ahead i k) (λ n. never_both e (o.chain i k b n (g k s)))

-- ---- by the greatest number

module _ (f : ℕ → ℕ) where
  abbrev more : ℕ → ℕ → Bool
  more i b = ltb (f b) (f i)

  more_order : Order more
  more_order =
      record {
        chain = λ x y z a b. le-ltb (f z) (f x) (omega (arith, ltb-false (f y) (f x) a, ltb-false (f z) (f y) b));
        oneway = λ x y a. le-ltb (f x) (f y) (omega (arith, ltb-true (f y) (f x) a));
      }

  -- the one of b and the m numbers from i on with the greatest f, the first on a tie
  unfoldable pub argmax : ℕ → ℕ → ℕ → ℕ
  unfolding best
  argmax m i b = best more m i b

  -- one turn
  pub argmax_step : (n i b : ℕ) → i < n → argmax (n - i) i b ≡ argmax (n - (i + 1)) (i + 1) (pick (ltb (f b) (f i)) i b)
  unfolding argmax
  argmax_step n i b h = best_step more n i b h

  -- a greater one takes its place
  pub argmax_take : (n i b : ℕ) → i < n → f b < f i → argmax (n - i) i b ≡ argmax (n - (i + 1)) (i + 1) i
  argmax_take n i b h t = rw (argmax_step n i b h, lt-ltb (f b) (f i) t)

  -- any other does not
  pub argmax_keep : (n i b : ℕ) → i < n → f i ≤ f b → argmax (n - i) i b ≡ argmax (n - (i + 1)) (i + 1) b
  argmax_keep n i b h t = rw (argmax_step n i b h, le-ltb (f b) (f i) t)

  -- past the range it is the best so far
  pub argmax_end : (n i b : ℕ) → n ≤ i → argmax (n - i) i b ≡ b
  unfolding argmax
  argmax_end n i b h = best_end more n i b h

  -- it is below n where b and the range are
  pub argmax_below : (n m i b : ℕ) → b < n → i + m ≤ n → argmax m i b < n
  unfolding argmax
  argmax_below n m i b h k = best_below more n m i b h k

  -- over the first n numbers, from 0 on, it is at least each
  pub argmax_whole : (n k : ℕ) → k < n → f k ≤ f (argmax n 0 0)
  unfolding argmax
  argmax_whole n k h = ltb-false (f (best more n 0 0)) (f k) (best_most more more_order n 0 0 k (omega arith) (omega arith))

  -- over the first n numbers, each before it is less: it is the first on a tie
  pub argmax_whole_first : (n k : ℕ) → k < argmax n 0 0 → f k < f (argmax n 0 0)
  unfolding argmax
  argmax_whole_first n k h = ltb-true (f k) (f (best more n 0 0)) (best_first more more_order n 0 0 (λ j s. absurd (omega arith)) (λ j s. absurd (omega arith)) k h)

-- ---- by the least number

module _ (f : ℕ → ℕ) where
  abbrev less : ℕ → ℕ → Bool
  less i b = ltb (f i) (f b)

  less_order : Order less
  less_order =
      record {
        chain = λ x y z a b. le-ltb (f x) (f z) (omega (arith, ltb-false (f x) (f y) a, ltb-false (f y) (f z) b));
        oneway = λ x y a. le-ltb (f y) (f x) (omega (arith, ltb-true (f x) (f y) a));
      }

  -- the one of b and the m numbers from i on with the least f, the first on a tie
  unfoldable pub argmin : ℕ → ℕ → ℕ → ℕ
  unfolding best
  argmin m i b = best less m i b

  -- one turn
  pub argmin_step : (n i b : ℕ) → i < n → argmin (n - i) i b ≡ argmin (n - (i + 1)) (i + 1) (pick (ltb (f i) (f b)) i b)
  unfolding argmin
  argmin_step n i b h = best_step less n i b h

  -- a lesser one takes its place
  pub argmin_take : (n i b : ℕ) → i < n → f i < f b → argmin (n - i) i b ≡ argmin (n - (i + 1)) (i + 1) i
  argmin_take n i b h t = rw (argmin_step n i b h, lt-ltb (f i) (f b) t)

  -- any other does not
  pub argmin_keep : (n i b : ℕ) → i < n → f b ≤ f i → argmin (n - i) i b ≡ argmin (n - (i + 1)) (i + 1) b
  argmin_keep n i b h t = rw (argmin_step n i b h, le-ltb (f i) (f b) t)

  -- past the range it is the best so far
  pub argmin_end : (n i b : ℕ) → n ≤ i → argmin (n - i) i b ≡ b
  unfolding argmin
  argmin_end n i b h = best_end less n i b h

  -- it is below n where b and the range are
  pub argmin_below : (n m i b : ℕ) → b < n → i + m ≤ n → argmin m i b < n
  unfolding argmin
  argmin_below n m i b h k = best_below less n m i b h k

  -- over the first n numbers, from 0 on, it is at most each
  pub argmin_whole : (n k : ℕ) → k < n → f (argmin n 0 0) ≤ f k
  unfolding argmin
  argmin_whole n k h = ltb-false (f k) (f (best less n 0 0)) (best_most less less_order n 0 0 k (omega arith) (omega arith))

  -- over the first n numbers, each before it is greater: it is the first on a tie
  pub argmin_whole_first : (n k : ℕ) → k < argmin n 0 0 → f (argmin n 0 0) < f k
  unfolding argmin
  argmin_whole_first n k h = ltb-true (f (best less n 0 0)) (f k) (best_first less less_order n 0 0 (λ j s. absurd (omega arith)) (λ j s. absurd (omega arith)) k h)
