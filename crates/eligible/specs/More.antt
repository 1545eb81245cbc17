-- More general laws on lists: fronts, filters, images, and tables made of a function.
use Rattle.std.specs.Prelude.{◌≡◌, Bool, true, false, length, get_or, take, set, replicate}
use Rattle.std.specs.Array.{MapsFrom, IsMapOf}
use Rattle.std.specs.Fn.{Called}
use denote.Param.Members.{Mut}
use Rattle.std.proofs.lemmas.List.{length-map, get_or-map}
use Rattle.std.proofs.Math.Path.{refl, ap}
use Rattle.std.proofs.Common.{sym, subst, ◌∙◌, ⊎_elim, add-one, length-set, take-suc, ext_get_or, get_or-set_same, get_or-set_other}
use mathlib.Core.List.{List, [], ◌∷◌, ◌++◌, map, append-nil}
use Prim.Native.Nat.{ℕ, zero, suc, ◌+◌, ◌-◌, ◌≤◌, ◌<◌}
use native.Mathlib.Omega.{arith}
use Rattle.std.proofs.Math.Seq.{take-append-add}
use Rattle.laws.specs.Tests.{split, eq_or_ne}
use Rattle.laws.specs.Lists.{All}
use Rattle.laws.specs.Sort.{only}

-- ---- fronts

-- one more
pub take_next : {A : Type 0} (l : List A) (i : ℕ) (d : A) → i < length l → take (i + 1) l ≡ take i l ++ (get_or l i d ∷ [])
take_next l i d h = rw (add-one i, take-suc l i d h)

-- the front of two lists in a row that goes past the first
pub take_past : {A : Type 0} (n : ℕ) (l r : List A) → length l ≤ n → take n (l ++ r) ≡ l ++ take (n - length l) r
take_past n l r h =
    let e : n ≡ length l + (n - length l) = omega arith in
    ap (λ (k : ℕ). take k (l ++ r)) e ∙ take-append-add l r (n - length l)

-- ---- filters

module _ {A : Type 0} (c : A → Bool) where
  -- at most as many
  pub only_length : (l : List A) → length (only c l) ≤ length l
  unfolding only
  only_length [] = omega arith
  only_length (x ∷ l) =
      split (c x) (λ e. rw e (omega (arith, only_length l))) (λ e. rw e (omega (arith, only_length l)))

  -- two lists in a row
  pub only_append : (l r : List A) → only c (l ++ r) ≡ only c l ++ only c r
  unfolding only
  only_append [] r = refl
  only_append (x ∷ l) r =
      split (c x) (λ e. rw (e, only_append l r)) (λ e. rw (e, only_append l r))

  -- a turn that keeps the element at hand
  pub only_take : (l : List A) (i : ℕ) (d : A) → i < length l → c (get_or l i d) ≡ true → only c (take (i + 1) l) ≡ only c (take i l) ++ (get_or l i d ∷ [])
  unfolding only
  only_take l i d h t = rw (take_next l i d h, only_append (take i l) (get_or l i d ∷ []), t)

  -- a turn that does not
  pub only_skip : (l : List A) (i : ℕ) (d : A) → i < length l → c (get_or l i d) ≡ false → only c (take (i + 1) l) ≡ only c (take i l)
  unfolding only
  only_skip l i d h t = rw (take_next l i d h, only_append (take i l) (get_or l i d ∷ []), t, append-nil)

-- tests that agree on each element choose the same
pub only_same : {A : Type 0} (c d : A → Bool) (l : List A) → All (λ x. c x ≡ d x) l → only c l ≡ only d l
unfolding only
only_same c d [] h = refl
only_same c d (x ∷ l) h = rw (h.0, only_same c d l h.1)

-- ---- images

pub map_append : {A B : Type 0} (f : A → B) (l r : List A) → map f (l ++ r) ≡ map f l ++ map f r
map_append f [] r = refl
map_append f (x ∷ l) r = rw (map_append f l r)

-- one more
pub map_next : {A B : Type 0} (f : A → B) (l : List A) (i : ℕ) (d : A) → i < length l → map f (take (i + 1) l) ≡ map f (take i l) ++ (f (get_or l i d) ∷ [])
map_next f l i d h = rw (take_next l i d h, map_append f (take i l) (get_or l i d ∷ []))

-- ---- an array's `map`

module _ {F A B : Type 0} (g : Mut F (A × Unit {0}) B) (f : A → B) {q : F}
    (h : (x : A) (y : B) (r : F) → Called g q (x, tt) y r → (y ≡ f x) × (r ≡ q)) where
  maps_at : (xs : List A) (ys : List B) (i n : ℕ) → MapsFrom g q xs ys i n → (j : ℕ) (d : A) (e : B) → j < n →
      get_or ys (i + j) e ≡ f (get_or xs (i + j) d)
  maps_at xs ys i zero m j d e b = absurd (omega arith)
  maps_at xs ys i (suc n) m zero d e b =
      let z : i + 0 ≡ i = omega arith in rw z (m.4.1 e ∙ (h m.1 m.2 m.0 m.5).0 ∙ sym (ap f (m.3.1 d)))
  maps_at xs ys i (suc n) m (suc j) d e b =
      let z : i + suc j ≡ i + 1 + j = omega arith in
      let t : MapsFrom g q xs ys (i + 1) n = subst (λ (z : F). MapsFrom g z xs ys (i + 1) n) (h m.1 m.2 m.0 m.5).1 m.6 in
      rw z (maps_at xs ys (i + 1) n t j d e (omega arith))

  -- where each call gives f of the element, the images of all
  pub map_is : (d : A) (e : B) (xs : List A) (ys : List B) (n : ℕ) → length xs ≡ n → IsMapOf g q xs ys n → ys ≡ map f xs
  map_is d e xs ys n m w =
      ext_get_or
      e
      ys
      (map f xs)
      (w.long ∙ sym m ∙ sym (length-map xs f))
      (λ i b. let z : 0 + i ≡ i = omega arith in
      let t : get_or ys i e ≡ f (get_or xs i d) = rw z at (maps_at xs ys 0 n w.each i d e (omega (arith, w.long))) in
      t ∙ sym (get_or-map f xs i d e (omega (arith, w.long))))

-- ---- tables made of a function

module _ {A : Type 0} (f : ℕ → A) where
  -- f of each of the n numbers from i on
  unfoldable pub each : ℕ → ℕ → List A
  each zero i = []
  each (suc n) i = f i ∷ each n (i + 1)

  -- it has n places
  pub each_length : (n i : ℕ) → length (each n i) ≡ n
  unfolding each
  each_length zero i = refl
  each_length (suc n) i = ap suc (each_length n (i + 1))

  pub each_at : (n i k : ℕ) (d : A) → k < n → get_or (each n i) k d ≡ f (i + k)
  unfolding each
  each_at zero i k d h = absurd (omega arith)
  each_at (suc n) i zero d h = let e : i + 0 ≡ i = omega arith in rw e
  each_at (suc n) i (suc k) d h = let e : i + suc k ≡ i + 1 + k = omega arith in rw e (each_at n (i + 1) k d (omega arith))

  -- from 0 on
  pub each_get : (n k : ℕ) (d : A) → k < n → get_or (each n 0) k d ≡ f k
  each_get n k d h = let e : 0 + k ≡ k = omega arith in each_at n 0 k d h ∙ rw e

-- a function that is the same everywhere
pub each_const : {A : Type 0} (f : ℕ → A) (d : A) (n i : ℕ) → ((k : ℕ) → f k ≡ d) → each f n i ≡ replicate n d
unfolding each
each_const f d zero i e = refl
each_const f d (suc n) i e = rw (e i, each_const f d n (i + 1) e)

-- functions that agree on the range make the same table
pub each_same : {A : Type 0} (f g : ℕ → A) (n i : ℕ) → ((k : ℕ) → i ≤ k → k < i + n → f k ≡ g k) → each f n i ≡ each g n i
unfolding each
each_same f g zero i e = refl
each_same f g (suc n) i e =
    rw (e i (omega arith) (omega arith), each_same f g n (i + 1) (λ k a b. e k (omega arith) (omega arith)))

-- one place written
pub each_set : {A : Type 0} (f g : ℕ → A) (n j : ℕ) (y : A) → j < n → y ≡ g j → ((k : ℕ) → (k ≡ j → ⊥) → f k ≡ g k) → set (each f n 0) j y ≡ each g n 0
each_set f g n j y h e s =
    ext_get_or
    y
    (set (each f n 0) j y)
    (each g n 0)
    (simp length-set (each_length f n 0 ∙ sym (each_length g n 0)))
    (λ k b. let b : k < n = omega (arith, simp (length-set, each_length) at b) in
    ⊎_elim
    (λ q. let q : k ≡ j = q in
    rw q (get_or-set_same (each f n 0) j y y (rw (each_length f n 0) h) ∙ e ∙ sym (each_get g n j y h)))
    (λ q. get_or-set_other (each f n 0) j k y y q ∙ each_get f n k y b ∙ s k q ∙ sym (each_get g n k y b))
    (eq_or_ne k j))
