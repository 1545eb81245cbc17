-- Sums over a table, and what a write changes in them.
use Rattle.std.specs.Prelude.{◌≡◌, Bool, true, false, get_or, take, set, replicate}
use Rattle.std.proofs.Math.Path.{refl}
use Rattle.std.proofs.Common.{sym, ap, add-one, take-suc}
use mathlib.Core.List.{List, [], ◌∷◌, ◌++◌, map}
use Prim.Native.Nat.{ℕ, zero, suc, ◌+◌, ◌*◌, ◌≤◌, ◌<◌}
use Rattle.std.proofs.Math.Nat.{mul-suc, suc-mul}
use native.Mathlib.Omega.{arith}
use Rattle.std.proofs.Math.ListN.{length}
use Rattle.laws.specs.Lists.{All}
use Rattle.laws.specs.Search.{keep, those, those_same, those_shift}

module _ {A : Type 0} (g : A → ℕ) where
  -- g of each element, added up
  unfoldable pub sum_over : List A → ℕ
  sum_over [] = 0
  sum_over (x ∷ l) = g x + sum_over l

module _ {A : Type 0} (g : A → ℕ) where
  -- a write takes the old part out and puts the new one in
  pub sum_set : (l : List A) (i : ℕ) (y d : A) → i < length l → sum_over g (set l i y) + g (get_or l i d) ≡ sum_over g l + g y
  unfolding sum_over
  sum_set [] i y d h = absurd (omega arith)
  sum_set (x ∷ l) zero y d h = omega arith
  sum_set (x ∷ l) (suc i) y d h = omega (arith, sum_set l i y d (omega arith))

  -- a write of no more does not raise the sum
  pub sum_set_le : (l : List A) (i : ℕ) (y d : A) → g y ≤ g (get_or l i d) → sum_over g (set l i y) ≤ sum_over g l
  unfolding sum_over
  sum_set_le [] i y d h = omega arith
  sum_set_le (x ∷ l) zero y d h = omega arith
  sum_set_le (x ∷ l) (suc i) y d h = omega (arith, sum_set_le l i y d h)

  -- a write raises the sum by what is written at most
  pub sum_set_add : (l : List A) (i : ℕ) (y : A) → sum_over g (set l i y) ≤ sum_over g l + g y
  unfolding sum_over
  sum_set_add [] i y = omega arith
  sum_set_add (x ∷ l) zero y = omega arith
  sum_set_add (x ∷ l) (suc i) y = omega (arith, sum_set_add l i y)

  -- a write of the same weight keeps the sum
  pub sum_kept : (l : List A) (i : ℕ) (y d : A) → g y ≡ g (get_or l i d) → sum_over g (set l i y) ≡ sum_over g l
  unfolding sum_over
  sum_kept [] i y d h = refl
  sum_kept (x ∷ l) zero y d h = omega arith
  sum_kept (x ∷ l) (suc i) y d h = omega (arith, sum_kept l i y d h)

  -- two lists in a row
  pub sum_append : (l r : List A) → sum_over g (l ++ r) ≡ sum_over g l + sum_over g r
  unfolding sum_over
  sum_append [] r = omega arith
  sum_append (x ∷ l) r = omega (arith, sum_append l r)

  -- one more at the end
  pub sum_snoc : (l : List A) (x : A) → sum_over g (l ++ (x ∷ [])) ≡ sum_over g l + g x
  unfolding sum_over
  sum_snoc l x = omega (arith, sum_append l (x ∷ []))

  -- a front weighs no more than the whole
  pub sum_take : (n : ℕ) (l : List A) → sum_over g (take n l) ≤ sum_over g l
  unfolding sum_over
  sum_take zero l = omega arith
  sum_take (suc n) [] = omega arith
  sum_take (suc n) (x ∷ l) = omega (arith, sum_take n l)

  -- a turn of a loop that adds up
  pub sum_next : (l : List A) (i : ℕ) (d : A) → i < length l → sum_over g (take (i + 1) l) ≡ sum_over g (take i l) + g (get_or l i d)
  sum_next l i d h = rw (add-one i, take-suc l i d h) (sum_snoc (take i l) (get_or l i d))

  -- no element weighs more than the whole
  pub sum_at : (l : List A) (i : ℕ) (d : A) → i < length l → g (get_or l i d) ≤ sum_over g l
  unfolding sum_over
  sum_at [] i d h = absurd (omega arith)
  sum_at (x ∷ l) zero d h = omega arith
  sum_at (x ∷ l) (suc i) d h = omega (arith, sum_at l i d (omega arith))

  -- where none weighs more than b
  pub sum_most : (b : ℕ) (l : List A) → All (λ x. g x ≤ b) l → sum_over g l ≤ b * length l
  unfolding sum_over
  sum_most b [] h = omega arith
  sum_most b (x ∷ l) h =
      let e : b * suc (length l) ≡ b * length l + b = mul-suc b (length l) in omega (arith, h.0, sum_most b l h.1)

  -- where none weighs anything
  pub sum_none : (l : List A) → All (λ x. g x ≡ 0) l → sum_over g l ≡ 0
  unfolding sum_over
  sum_none [] h = refl
  sum_none (x ∷ l) h = omega (arith, h.0, sum_none l h.1)

  -- where only the first n weigh anything
  pub sum_first : (n : ℕ) (l : List A) (d : A) → ((k : ℕ) → n ≤ k → g (get_or l k d) ≡ 0) → sum_over g l ≡ sum_over g (take n l)
  unfolding sum_over
  sum_first zero [] d f = refl
  sum_first zero (x ∷ l) d f =
      omega (arith, f 0 (omega arith), sum_first zero l d (λ k h. f (suc k) (omega arith)))
  sum_first (suc n) [] d f = refl
  sum_first (suc n) (x ∷ l) d f = omega (arith, sum_first n l d (λ k h. f (suc k) (omega arith)))

  -- copies of one element
  pub sum_replicate : (n : ℕ) (d : A) → sum_over g (replicate n d) ≡ n * g d
  unfolding sum_over
  sum_replicate zero d = omega arith
  sum_replicate (suc n) d = let e : suc n * g d ≡ n * g d + g d = suc-mul n (g d) in omega (arith, sum_replicate n d)

-- a weight that is nowhere greater has no greater sum
pub sum_le : {A : Type 0} (g h : A → ℕ) (l : List A) → All (λ x. g x ≤ h x) l → sum_over g l ≤ sum_over h l
unfolding sum_over
sum_le g h [] f = omega arith
sum_le g h (x ∷ l) f = omega (arith, f.0, sum_le g h l f.1)

-- weights that agree have the same sum
pub sum_same : {A : Type 0} (g h : A → ℕ) (l : List A) → All (λ x. g x ≡ h x) l → sum_over g l ≡ sum_over h l
unfolding sum_over
sum_same g h [] f = refl
sum_same g h (x ∷ l) f = omega (arith, f.0, sum_same g h l f.1)

-- the sum of two weights
pub sum_add : {A : Type 0} (g h : A → ℕ) (l : List A) → sum_over (λ x. g x + h x) l ≡ sum_over g l + sum_over h l
unfolding sum_over
sum_add g h [] = refl
sum_add g h (x ∷ l) = omega (arith, sum_add g h l)

-- over the images
pub sum_map : {A B : Type 0} (g : B → ℕ) (f : A → B) (l : List A) → sum_over g (map f l) ≡ sum_over (λ x. g (f x)) l
unfolding sum_over
sum_map g f [] = refl
sum_map g f (x ∷ l) = omega (arith, sum_map g f l)

-- tables with weights that agree at each index
pub sum_alike : {A B : Type 0} (g : A → ℕ) (h : B → ℕ) (l : List A) (r : List B) (d : A) (e : B) → length l ≡ length r →
    ((k : ℕ) → k < length l → g (get_or l k d) ≡ h (get_or r k e)) → sum_over g l ≡ sum_over h r
unfolding sum_over
sum_alike g h [] [] d e n f = refl
sum_alike g h [] (y ∷ r) d e n f = absurd (omega arith)
sum_alike g h (x ∷ l) [] d e n f = absurd (omega arith)
sum_alike g h (x ∷ l) (y ∷ r) d e n f =
    omega (arith, f 0 (omega arith), sum_alike g h l r d e (omega arith) (λ k b. f (suc k) (omega arith)))

-- ---- a count as a sum

-- one where the test holds
abbrev pub bit : Bool → ℕ
bit true = 1
bit false = 0

keep_bit : (b : Bool) (i : ℕ) (l : List ℕ) → length (keep b i l) ≡ bit b + length l
keep_bit true i l = omega arith
keep_bit false i l = omega arith

-- the count of a table's elements with a property is a sum
pub count_sum : {A : Type 0} (q : A → Bool) (l : List A) (d : A) → length (those (λ i. q (get_or l i d)) (length l) 0) ≡ sum_over (λ x. bit (q x)) l
unfolding those sum_over
count_sum q [] d = refl
count_sum q (x ∷ l) d =
    let a : length (those (λ i. q (get_or (x ∷ l) i d)) (length l) (0 + 1)) ≡ length (those (λ i. q (get_or (x ∷ l) (i + 1) d)) (length l) 0) =
    sym (those_shift (λ i. q (get_or (x ∷ l) i d)) 1 (length l) 0) in
    let b : those (λ i. q (get_or (x ∷ l) (i + 1) d)) (length l) 0 ≡ those (λ i. q (get_or l i d)) (length l) 0 =
    those_same (λ i. q (get_or (x ∷ l) (i + 1) d)) (λ i. q (get_or l i d)) (length l) 0 (λ k h f. rw (add-one k)) in
    omega (arith, keep_bit (q x) 0 (those (λ i. q (get_or (x ∷ l) i d)) (length l) (0 + 1)), ap length b, count_sum q l d)
