-- Tests: cases on a Bool, and what `&&`, `||` and the order tests say.
use Rattle.std.specs.Prelude.{◌≡◌, refl, ◌⊎◌, Bool, true, false, ◌&&◌, ◌||◌, ℕ, ◌+◌, ◌≤◌, ◌<◌, leb, eqb}
use Rattle.std.proofs.Common.{inl, inr, ⊎_elim, arith, leb-true, leb-false, eqb-true, eq-eqb}
use Rattle.std.proofs.lemmas.Bool.{eqb-false}

-- two cases, each with the test's equation
pub split {ℓ} : {C : Type ℓ} (b : Bool) → (b ≡ true → C) → (b ≡ false → C) → C
split true t f = t refl
split false t f = f refl

-- no test has both outcomes
pub never_both : {b : Bool} → b ≡ true → b ≡ false → ⊥
never_both t f = let z : true ≡ false = cc in let w : ◌≡◌ {A = ℕ} 0 1 = cc in omega arith

-- a test that cannot hold fails
pub fails : (b : Bool) → (b ≡ true → ⊥) → b ≡ false
fails true h = absurd (h refl)
fails false h = refl

-- a test that cannot fail holds
pub holds : (b : Bool) → (b ≡ false → ⊥) → b ≡ true
holds true h = refl
holds false h = absurd (h refl)

-- tests that imply each other are equal
pub same_test : (a b : Bool) → (a ≡ true → b ≡ true) → (b ≡ true → a ≡ true) → a ≡ b
same_test true true f g = refl
same_test true false f g = cc (f refl)
same_test false true f g = cc (g refl)
same_test false false f g = refl

-- both of `&&`
pub and_both : (a b : Bool) → a && b ≡ true → (a ≡ true) × (b ≡ true)
and_both true b h = (refl, h)
and_both false b h = absurd (never_both h refl)

-- `&&` of two tests that hold
pub both_and : (a b : Bool) → a ≡ true → b ≡ true → a && b ≡ true
both_and true b h k = k
both_and false b h k = h

-- one of `&&` fails
pub and_cases : (a b : Bool) → a && b ≡ false → (a ≡ false) ⊎ (b ≡ false)
and_cases true b h = inr h
and_cases false b h = inl refl

-- `&&` fails where the first does
pub and_left : (a b : Bool) → a ≡ false → a && b ≡ false
and_left true b h = cc
and_left false b h = refl

-- `&&` fails where the second does
pub and_right : (a b : Bool) → b ≡ false → a && b ≡ false
and_right true b h = h
and_right false b h = refl

-- one of `||` holds
pub or_cases : (a b : Bool) → a || b ≡ true → (a ≡ true) ⊎ (b ≡ true)
or_cases true b h = inl refl
or_cases false b h = inr h

-- `||` holds where the first does
pub or_left : (a b : Bool) → a ≡ true → a || b ≡ true
or_left true b h = refl
or_left false b h = cc

-- `||` holds where the second does
pub or_right : (a b : Bool) → b ≡ true → a || b ≡ true
or_right true b h = refl
or_right false b h = h

-- neither of `||`
pub or_none : (a b : Bool) → a || b ≡ false → (a ≡ false) × (b ≡ false)
or_none true b h = absurd (never_both refl h)
or_none false b h = (refl, h)

-- `||` of two tests that fail
pub none_or : (a b : Bool) → a ≡ false → b ≡ false → a || b ≡ false
none_or true b h k = h
none_or false b h k = k

-- two numbers: one is at most the other, or above it
pub le_or_lt : (m n : ℕ) → (m ≤ n) ⊎ (n < m)
le_or_lt m n = split (leb m n) (λ e. inl (leb-true m n e)) (λ e. inr (leb-false m n e))

-- two numbers are equal or not
pub eq_or_ne : (m n : ℕ) → (m ≡ n) ⊎ (m ≡ n → ⊥)
eq_or_ne m n = split (eqb m n) (λ e. inl (eqb-true m n e)) (λ e. inr (eqb-false m n e))

-- a number equals itself
pub eqb_self : (n : ℕ) → eqb n n ≡ true
eqb_self n = eq-eqb n n refl

-- equality goes both ways
pub eqb_sym : (m n : ℕ) → eqb m n ≡ eqb n m
eqb_sym m n =
    same_test (eqb m n) (eqb n m) (λ e. eq-eqb n m (omega (arith, eqb-true m n e))) (λ e. eq-eqb m n (omega (arith, eqb-true n m e)))

-- a number at least m is m or above it
pub eq_or_gt : (m n : ℕ) → m ≤ n → (n ≡ m) ⊎ (m + 1 ≤ n)
eq_or_gt m n h = ⊎_elim (λ e. inl e) (λ e. inr (omega arith)) (eq_or_ne n m)
