-- General laws on tables: places written, and what iterators find in them, fill and add up.
use Rattle.std.specs.Prelude.{◌≡◌, Bool, true, false, not, cond, ltb, eqb, get_or, take, drop, set}
use Rattle.std.specs.Array.{IsFromFnResult, IsFromFnResultFrom}
use denote.Param.Members.{Mut}
use Rattle.std.specs.Fn.{Called}
use Rattle.std.specs.Option.{unwrap_or}
use Rattle.std.specs.declared.option.Option.{Option}
use Rattle.std.specs.declared.option.Option.TheVariants.{Some, None}
use Rattle.std.proofs.Math.Path.{refl, subst}
use Rattle.std.proofs.Common.{sym, ◌∙◌, add-one, take-suc-set, drop-cons, drop-set-lt, get_or-set_same, ltb-false, length-take}
use Rattle.std.proofs.Math.Logic.{⊎_elim}
use mathlib.Core.List.{List, [], ◌∷◌, ◌++◌, map}
use Prim.Native.Nat.{ℕ, zero, suc, ◌+◌, ◌*◌, ◌<◌, ◌≤◌}
use Rattle.std.proofs.Math.Nat.{suc-mul}
use native.Mathlib.Omega.{arith}
use Rattle.std.proofs.Math.ListN.{length, length-set}
use Rattle.std.proofs.Math.Seq.{append_snoc, get_or-set_other, length-take-le}
use Rattle.std.proofs.lemmas.List.{get_or-map, length-map, same_lists}
use Rattle.std.proofs.lemmas.List.Folds.{length-prefix_len}
use Rattle.std.specs.List.{filter, fold, position_or_len, range_with_len, sum_by}
use Rattle.std.proofs.lemmas.Bool.{eqb-false}
use Rattle.laws.specs.Tests.{split, or_none, never_both, eq_or_gt}
use Rattle.laws.specs.Lists.{All, Distinct, all_weaken, all_both}
use Rattle.laws.specs.Search.{has, has_cases, those, first}
use Rattle.laws.specs.Sums.{sum_over, sum_set}

-- a turn of a loop that writes the place at hand: what is before it, the new element, what is made of the rest
pub turn_set : {A : Type 0} (t r : List A) (i : ℕ) (x : A) → i < length t → take (i + 1) (set t i x) ++ r ≡ take i t ++ (x ∷ r)
turn_set t r i x h = rw (add-one i, take-suc-set t i x h, append_snoc)

-- the rest does not see the write
pub turn_rest : {A : Type 0} (t : List A) (i : ℕ) (x : A) → drop (i + 1) (set t i x) ≡ drop (i + 1) t
turn_rest t i x = drop-set-lt (i + 1) t i x (omega arith)

-- the rest begins with the element at hand
pub turn_drop : {A : Type 0} (t : List A) (i : ℕ) (d : A) → i < length t → drop i t ≡ get_or t i d ∷ drop (i + 1) t
turn_drop t i d h = rw add-one (drop-cons t i d h)

-- ---- the same written to several places

-- x in each of the places
unfoldable pub put : {A : Type 0} → List A → List ℕ → A → List A
put t [] x = t
put t (i ∷ l) x = put (set t i x) l x

-- one place more
pub put_snoc : {A : Type 0} (t : List A) (l : List ℕ) (i : ℕ) (x : A) → put t (l ++ (i ∷ [])) x ≡ set (put t l x) i x
unfolding put
put_snoc t [] i x = refl
put_snoc t (j ∷ l) i x = put_snoc (set t j x) l i x

-- ---- those of a range, and the first of them, as iterators find them

-- those of a range are what a filter lets through
pub those_filter : (p : ℕ → Bool) (n i : ℕ) → those p n i ≡ filter p (range_with_len i n)
unfolding those
those_filter p zero i = refl
those_filter p (suc n) i = split (p i) (λ e. rw (e, those_filter p n (i + 1))) (λ e. rw (e, those_filter p n (i + 1)))

module _ {A : Type 0} (q : A → Bool) (l : List A) (d : A) where
  -- the first of a range of a table's entries is where a search through them stops
  first_from : (m i : ℕ) → i + m ≤ length l → first (λ k. q (get_or l k d)) m i ≡ i + position_or_len q (take m (drop i l))
  unfolding first
  first_from zero i h = omega arith
  first_from (suc m) i h =
      rw (turn_drop l i d (omega arith)) (split (q (get_or l i d)) (λ e. rw e (omega arith))
      (λ e. rw e (omega (arith, first_from m (i + 1) (omega arith)))))

  -- the same of what the search answers, with the number of entries for none
  pub first_position : (m : ℕ) (r : Option ℕ) → m ≤ length l →
      r ≡ cond (ltb (position_or_len q (take m l)) (length (take m l))) (Some (position_or_len q (take m l))) None →
      unwrap_or r m ≡ first (λ k. q (get_or l k d)) m 0
  first_position m r h e =
      let p : ℕ = position_or_len q (take m l) in
      let n : length (take m l) ≡ m = length-take-le m l h in
      let k : length (take p (take m l)) ≡ p = length-prefix_len (λ x. not (q x)) (take m l) in
      let f : first (λ k. q (get_or l k d)) m 0 ≡ p = omega (arith, first_from m 0 (omega arith)) in
      rw (e, f) (split (ltb p (length (take m l))) (λ a. rw a)
      (λ a. rw a (omega (arith, ltb-false p (length (take m l)) a, length-take p (take m l)))))

-- ---- arrays filled by index

module _ {F A B : Type 0} (g : Mut F (ℕ × Unit {0}) B) (h : A → B) (xs : List A) (d : A) (f : F) (ys : List B)
    (told : (j : ℕ) (y : B) (q : F) → j < length xs → Called g f (j, tt) y q → (q ≡ f) × (y ≡ h (get_or xs j d))) where
  filled_from : (n i : ℕ) → i + n ≤ length xs → IsFromFnResultFrom g f ys i n →
      (k : ℕ) (e : B) → i ≤ k → k < i + n → get_or ys k e ≡ h (get_or xs k d)
  filled_from zero i l m k e a b = absurd (omega arith)
  filled_from (suc n) i l m k e a b =
      let t = told i m.1 m.0 (omega arith) m.3 in
      ⊎_elim
      (λ s. rw s (m.2.1 e ∙ t.1))
      (λ s. filled_from n (i + 1) (omega arith) (subst (λ q. IsFromFnResultFrom g q ys (i + 1) n) t.0 m.4) k e s (omega arith))
      (eq_or_gt i k a)

  -- an array filled with what a function makes of a table's entries is the table's image
  pub filled_map : (n : ℕ) → length xs ≡ n → IsFromFnResult g f ys n → ys ≡ map h xs
  filled_map n l filled =
      same_lists ys (map h xs) (omega (arith, filled.long, length-map xs h))
      (λ k e b. let c : k < n = omega (arith, filled.long) in
      filled_from n 0 (omega arith) filled.each k e (omega arith) (omega arith) ∙ sym (get_or-map h xs k d e (omega arith)))

-- ---- sums, as iterators make them

sum_from : {A : Type 0} (f : A → ℕ) (n : ℕ) (l : List A) → fold (λ a x. a + f x) n l ≡ n + sum_over f l
unfolding sum_over
sum_from f n [] = omega arith
sum_from f n (x ∷ l) = omega (arith, sum_from f (n + f x) l)

pub sum_by_over : {A : Type 0} (f : A → ℕ) (l : List A) → sum_by f l ≡ sum_over f l
sum_by_over f l = omega (arith, sum_from f 0 l)

-- ---- what several writes change

module _ {A : Type 0} (x : A) where
  -- the length stays
  pub put_length : (l : List ℕ) (t : List A) → length (put t l x) ≡ length t
  unfolding put
  put_length [] t = refl
  put_length (i ∷ l) t = put_length l (set t i x) ∙ length-set t i x

  -- a place that is none of them stays
  pub put_other : (l : List ℕ) (t : List A) (k : ℕ) (d : A) → has k l ≡ false → get_or (put t l x) k d ≡ get_or t k d
  unfolding put
  put_other [] t k d h = refl
  put_other (i ∷ l) t k d h =
      let r : (eqb k i ≡ false) × (has k l ≡ false) = or_none (eqb k i) (has k l) h in
      put_other l (set t i x) k d r.1 ∙ get_or-set_other t i k x d (eqb-false k i r.0)

  -- one of them holds what is written
  pub put_in : (l : List ℕ) (t : List A) (k : ℕ) (d : A) → k < length t → has k l ≡ true → get_or (put t l x) k d ≡ x
  unfolding put
  put_in [] t k d h e = absurd (never_both e refl)
  put_in (i ∷ l) t k d h e =
      split
      (has k l)
      (λ a. put_in l (set t i x) k d (rw (length-set t i x) h) a)
      (λ a. ⊎_elim
      (λ b. let s : k ≡ i = b in
      put_other l (set t i x) k d a ∙ rw s (get_or-set_same t i x d (omega arith)))
      (λ b. absurd (never_both b a))
      (has_cases k i l e))

  -- a weight that the places had not grows with each
  pub put_sum : (w : A → ℕ) (d : A) (l : List ℕ) (t : List A) → Distinct l → All (λ i. (i < length t) × (w (get_or t i d) ≡ 0)) l →
      sum_over w (put t l x) ≡ sum_over w t + length l * w x
  unfolding put
  put_sum w d [] t s h = omega arith
  put_sum w d (i ∷ l) t s h =
      let a : sum_over w (set t i x) + w (get_or t i d) ≡ sum_over w t + w x = sum_set w t i x d h.0.0 in
      let m : suc (length l) * w x ≡ length l * w x + w x = suc-mul (length l) (w x) in
      omega (
        arith,
        h.0.1,
        put_sum w d l (set t i x) s.1
            (all_weaken (λ j. (i ≡ j → ⊥) × ((j < length t) × (w (get_or t j d) ≡ 0)))
            (λ j. (j < length (set t i x)) × (w (get_or (set t i x) j d) ≡ 0)) l
            (λ j q. (rw (length-set t i x) q.1.0, rw (get_or-set_other t i j x d (λ e. q.0 (sym e))) q.1.1))
            (all_both (λ j. i ≡ j → ⊥) (λ j. (j < length t) × (w (get_or t j d) ≡ 0)) l s.0 h.1)),
      )

-- ---- a range of which all have the property

-- they are the numbers one after the other
pub those_every : (p : ℕ → Bool) (m i k d : ℕ) → ((j : ℕ) → i ≤ j → j < i + m → p j ≡ true) → k < m → get_or (those p m i) k d ≡ i + k
unfolding those
those_every p zero i k d f h = absurd (omega arith)
those_every p (suc m) i zero d f h = rw (f i (omega arith) (omega arith)) (omega arith)
those_every p (suc m) i (suc k) d f h =
    rw (f i (omega arith) (omega arith)) (omega (arith, those_every p m (i + 1) k d (λ j a b. f j (omega arith) (omega arith)) (omega arith)))
