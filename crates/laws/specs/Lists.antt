-- Lists: what holds of each element, lists without repeats, tables after a write, and lists filled up with a default.
use Rattle.std.specs.Prelude.{◌≡◌, refl, take, drop, set}
use Rattle.std.proofs.Common.{sym, subst, ◌∙◌, ⊎_elim, get_or-set_same, get_or-set_other}
use Rattle.std.proofs.Math.Path.{ap}
use mathlib.Core.List.Memᴰ
use mathlib.Core.List.{List, [], ◌∷◌, ◌++◌, map, append_assoc, append-nil, Memᴰ}
use Prim.Native.Nat.{ℕ, zero, suc, ◌+◌, ◌-◌, ◌≤◌, ◌<◌}
use native.Mathlib.Omega.{arith}
use Rattle.std.proofs.Math.ListN.{length, get_or, replicate, length-append, get_or-replicate, get_or-eq_default, get_or-append}
use Rattle.std.proofs.lemmas.List.{length-replicate}
use Rattle.std.proofs.Math.Seq.{take-append_seam, set-append_seam, set_out, get_or-append-add, sets-eq}
use Rattle.std.proofs.lemmas.List.Edits.{sets}
use Rattle.laws.specs.Tests.{le_or_lt, eq_or_ne}

-- ---- each element

-- P of each element
abbrev pub All : {A : Type 0} → (A → Type 0) → List A → Type 0
All P [] = Unit {0}
All P (x ∷ l) = P x × All P l

module _ {A : Type 0} (P : A → Type 0) where
  -- a weaker property holds of each too
  pub all_weaken : (Q : A → Type 0) (l : List A) → ((x : A) → P x → Q x) → All P l → All Q l
  all_weaken Q [] f h = tt
  all_weaken Q (x ∷ l) f h = (f x h.0, all_weaken Q l f h.1)

  -- two properties of each are one
  pub all_both : (Q : A → Type 0) (l : List A) → All P l → All Q l → All (λ x. P x × Q x) l
  all_both Q [] h k = tt
  all_both Q (x ∷ l) h k = ((h.0, k.0), all_both Q l h.1 k.1)

  -- what holds of everything
  pub all_every : (l : List A) → ((x : A) → P x) → All P l
  all_every [] f = tt
  all_every (x ∷ l) f = (f x, all_every l f)

  -- of each of the first n
  pub all_take : (n : ℕ) (l : List A) → All P l → All P (take n l)
  all_take zero l h = tt
  all_take (suc n) [] h = tt
  all_take (suc n) (x ∷ l) h = (h.0, all_take n l h.1)

  -- of each but the first n
  pub all_drop : (n : ℕ) (l : List A) → All P l → All P (drop n l)
  all_drop zero l h = h
  all_drop (suc n) [] h = tt
  all_drop (suc n) (x ∷ l) h = all_drop n l h.1

  -- of each of two lists in a row
  pub all_append : (l r : List A) → All P l → All P r → All P (l ++ r)
  all_append [] r h k = k
  all_append (x ∷ l) r h k = (h.0, all_append l r h.1 k)

  -- of each of the first of two lists
  pub all_left : (l r : List A) → All P (l ++ r) → All P l
  all_left [] r h = tt
  all_left (x ∷ l) r h = (h.0, all_left l r h.1)

  -- of each of the second of two lists
  pub all_right : (l r : List A) → All P (l ++ r) → All P r
  all_right [] r h = h
  all_right (x ∷ l) r h = all_right l r h.1

  -- one more at the end
  pub all_snoc : (l : List A) (x : A) → All P l → P x → All P (l ++ (x ∷ []))
  all_snoc l x h k = all_append l (x ∷ []) h (k, tt)

  -- what stands in the middle
  pub all_middle : (l : List A) (x : A) (r : List A) → All P (l ++ (x ∷ r)) → P x
  all_middle l x r h = (all_right l (x ∷ r) h).0

  -- at an index in range
  pub all_at : (l : List A) (i : ℕ) (d : A) → All P l → i < length l → P (get_or l i d)
  all_at [] i d h k = absurd (omega arith)
  all_at (x ∷ l) zero d h k = h.0
  all_at (x ∷ l) (suc i) d h k = all_at l i d h.1 (omega arith)

  -- at any index, where the default has it too
  pub all_get_d : (l : List A) (i : ℕ) (d : A) → All P l → P d → P (get_or l i d)
  all_get_d [] i d h k = k
  all_get_d (x ∷ l) zero d h k = h.0
  all_get_d (x ∷ l) (suc i) d h k = all_get_d l i d h.1 k

  -- from each index in range
  pub all_of : (l : List A) (d : A) → ((i : ℕ) → i < length l → P (get_or l i d)) → All P l
  all_of [] d f = tt
  all_of (x ∷ l) d f = (f 0 (omega arith), all_of l d (λ i h. f (suc i) (omega arith)))

  -- of a member
  pub all_member : (a : A) (l : List A) → All P l → Memᴰ a l → P a
  all_member a [] h m = absurd (Memᴰ.not-nil m)
  all_member a (x ∷ l) h m =
      ⊎_elim (λ e. subst P (sym e) h.0) (λ e. all_member a l h.1 e) (Memᴰ.cases_cons m)

  -- from each member
  pub all_members : (l : List A) → ((a : A) → Memᴰ a l → P a) → All P l
  all_members [] f = tt
  all_members (x ∷ l) f = (f x (Memᴰ.head refl), all_members l (λ a m. f a (Memᴰ.tail m)))

  -- after a write of what has it
  pub all_set : (l : List A) (i : ℕ) (y : A) → All P l → P y → All P (set l i y)
  all_set [] i y h k = tt
  all_set (x ∷ l) zero y h k = (k, h.1)
  all_set (x ∷ l) (suc i) y h k = (h.0, all_set l i y h.1 k)

  -- of copies of what has it
  pub all_replicate : (n : ℕ) (d : A) → P d → All P (replicate n d)
  all_replicate zero d h = tt
  all_replicate (suc n) d h = (h, all_replicate n d h)

-- of the images
pub all_map : {A B : Type 0} (P : B → Type 0) (f : A → B) (l : List A) → All (λ x. P (f x)) l → All P (map f l)
all_map P f [] h = tt
all_map P f (x ∷ l) h = (h.0, all_map P f l h.1)

-- back from the images
pub all_unmap : {A B : Type 0} (P : B → Type 0) (f : A → B) (l : List A) → All P (map f l) → All (λ x. P (f x)) l
all_unmap P f [] h = tt
all_unmap P f (x ∷ l) h = (h.0, all_unmap P f l h.1)

-- ---- no element twice

-- x is none of the list
abbrev pub Apart : {A : Type 0} → A → List A → Type 0
Apart x l = All (λ y. x ≡ y → ⊥) l

-- no element stands in it twice
abbrev pub Distinct : {A : Type 0} → List A → Type 0
Distinct [] = Unit {0}
Distinct (x ∷ l) = Apart x l × Distinct l

module _ {A : Type 0} where
  -- the first n
  pub distinct_take : (n : ℕ) (l : List A) → Distinct l → Distinct (take n l)
  distinct_take zero l h = tt
  distinct_take (suc n) [] h = tt
  distinct_take (suc n) (x ∷ l) h = (all_take (λ y. x ≡ y → ⊥) n l h.0, distinct_take n l h.1)

  -- all but the first n
  pub distinct_drop : (n : ℕ) (l : List A) → Distinct l → Distinct (drop n l)
  distinct_drop zero l h = h
  distinct_drop (suc n) [] h = tt
  distinct_drop (suc n) (x ∷ l) h = distinct_drop n l h.1

  -- two lists in a row that share nothing
  pub distinct_append : (l r : List A) → Distinct l → Distinct r → All (λ x. Apart x r) l → Distinct (l ++ r)
  distinct_append [] r h k a = k
  distinct_append (x ∷ l) r h k a =
      (all_append (λ y. x ≡ y → ⊥) l r h.0 a.0, distinct_append l r h.1 k a.1)

  -- the first of two lists
  pub distinct_left : (l r : List A) → Distinct (l ++ r) → Distinct l
  distinct_left [] r h = tt
  distinct_left (x ∷ l) r h = (all_left (λ y. x ≡ y → ⊥) l r h.0, distinct_left l r h.1)

  -- the second of two lists
  pub distinct_right : (l r : List A) → Distinct (l ++ r) → Distinct r
  distinct_right [] r h = h
  distinct_right (x ∷ l) r h = distinct_right l r h.1

  -- the two parts share nothing
  pub distinct_parts : (l r : List A) → Distinct (l ++ r) → All (λ x. Apart x r) l
  distinct_parts [] r h = tt
  distinct_parts (x ∷ l) r h = (all_right (λ y. x ≡ y → ⊥) l r h.0, distinct_parts l r h.1)

  -- one more at the end
  pub distinct_snoc : (l : List A) (x : A) → Distinct l → Apart x l → Distinct (l ++ (x ∷ []))
  distinct_snoc l x h k =
      distinct_append
      l
      (x ∷ [])
      h
      (tt, tt)
      (all_weaken (λ y. x ≡ y → ⊥) (λ y. Apart y (x ∷ [])) l (λ y f. (λ e. f (sym e), tt)) k)

  -- two places hold two elements
  pub distinct_at : (l : List A) (i j : ℕ) (d : A) → Distinct l → i < j → j < length l → get_or l i d ≡ get_or l j d → ⊥
  distinct_at [] i j d h a b e = omega arith
  distinct_at (x ∷ l) i zero d h a b e = omega arith
  distinct_at (x ∷ l) zero (suc j) d h a b e = all_at (λ y. x ≡ y → ⊥) l j d h.0 (omega arith) e
  distinct_at (x ∷ l) (suc i) (suc j) d h a b e = distinct_at l i j d h.1 (omega arith) (omega arith) e

module _ {A B : Type 0} (f : A → B) where
  -- images that differ come of elements that differ
  pub distinct_unmap : (l : List A) → Distinct (map f l) → Distinct l
  distinct_unmap [] h = tt
  distinct_unmap (x ∷ l) h =
      (all_weaken (λ y. f x ≡ f y → ⊥) (λ y. x ≡ y → ⊥) l (λ y g e. g (ap f e)) (all_unmap (λ z. f x ≡ z → ⊥) f l h.0), distinct_unmap l h.1)

  -- a function that tells all elements apart keeps them distinct
  pub distinct_map : (l : List A) → ((x y : A) → f x ≡ f y → x ≡ y) → Distinct l → Distinct (map f l)
  distinct_map [] g h = tt
  distinct_map (x ∷ l) g h =
      (all_map (λ z. f x ≡ z → ⊥) f l (all_weaken (λ y. x ≡ y → ⊥) (λ y. f x ≡ f y → ⊥) l (λ y k e. k (g x y e)) h.0), distinct_map l g h.1)

-- ---- a table after a write, read at any index

module _ {A : Type 0} (l : List A) (i : ℕ) (y d : A) where
  -- what holds of each and of what is written holds of each after
  pub set_all : (P : A → Type 0) → P y → ((k : ℕ) → P (get_or l k d)) → (k : ℕ) → P (get_or (set l i y) k d)
  set_all P h f k =
      ⊎_elim
      (λ e. let s : k ≡ i = e in
      ⊎_elim
      (λ b. rw (set_out l i y b) (f k))
      (λ b. rw (s, get_or-set_same l i y d b) h)
      (le_or_lt (length l) i))
      (λ e. rw (get_or-set_other l i k y d e) (f k))
      (eq_or_ne k i)

  -- what each has to itself, and what was there to what is written, each has to what stands there after
  pub set_related : (R : A → A → Type 0) → ((x : A) → R x x) → R (get_or l i d) y → (k : ℕ) → R (get_or l k d) (get_or (set l i y) k d)
  set_related R r h k =
      ⊎_elim
      (λ e. let s : k ≡ i = e in
      ⊎_elim
      (λ b. rw (set_out l i y b) (r (get_or l k d)))
      (λ b. rw (s, get_or-set_same l i y d b) h)
      (le_or_lt (length l) i))
      (λ e. rw (get_or-set_other l i k y d e) (r (get_or l k d)))
      (eq_or_ne k i)

  -- a field that the write keeps is kept everywhere
  pub set_kept : {B : Type 0} (g : A → B) → g y ≡ g (get_or l i d) → (k : ℕ) → g (get_or (set l i y) k d) ≡ g (get_or l k d)
  set_kept g h k = set_related (λ a b. g b ≡ g a) (λ x. refl) h k

  -- in range: what is written stands there, and each other as before
  pub set_at : (P : ℕ → A → Type 0) → i < length l → P i y → ((k : ℕ) → (k ≡ i → ⊥) → P k (get_or l k d)) → (k : ℕ) → P k (get_or (set l i y) k d)
  set_at P b h f k =
      ⊎_elim
      (λ e. let s : k ≡ i = e in rw (s, get_or-set_same l i y d b) h)
      (λ e. rw (get_or-set_other l i k y d e) (f k e))
      (eq_or_ne k i)

-- ---- lists filled up to a length with a default

-- copies without the first m
pub drop_replicate : {A : Type 0} (m n : ℕ) (d : A) → drop m (replicate n d) ≡ replicate (n - m) d
drop_replicate zero n d = let e : n - 0 ≡ n = omega arith in rw e
drop_replicate (suc m) zero d = let e : 0 - suc m ≡ 0 = omega arith in rw e
drop_replicate (suc m) (suc n) d = let e : suc n - suc m ≡ n - m = omega arith in rw e (drop_replicate m n d)

module _ {A : Type 0} where
  -- the list, and the default up to n places
  unfoldable pub pad : ℕ → A → List A → List A
  pad n d l = l ++ replicate (n - length l) d

module _ {A : Type 0} (n : ℕ) (d : A) where
  -- nothing, filled up
  pub pad_none : pad n d [] ≡ replicate n d
  unfolding pad
  pad_none = let e : n - 0 ≡ n = omega arith in rw e

  -- it has n places
  pub pad_length : (l : List A) → length l ≤ n → length (pad n d l) ≡ n
  unfolding pad
  pad_length l h = simp (length-append, length-replicate) (omega arith)

  -- a full list stays as it is
  pub pad_full : (l : List A) → n ≤ length l → pad n d l ≡ l
  unfolding pad
  pad_full l h = let e : n - length l ≡ 0 = omega arith in rw (e, append-nil)

  -- its front is the list
  pub pad_take : (l : List A) → take (length l) (pad n d l) ≡ l
  unfolding pad
  pad_take l = take-append_seam l (replicate (n - length l) d)

  -- storing into the first free place is one more at the end
  pub pad_set : (l : List A) (x : A) → length l < n → set (pad n d l) (length l) x ≡ pad n d (l ++ (x ∷ []))
  unfolding pad
  pad_set l x h =
      let e : n - length l ≡ suc (n - (length l + 1)) = omega arith in
      rw (e, set-append_seam l d (replicate (n - (length l + 1)) d) x, length-append l (x ∷ []), append_assoc l (x ∷ []) (replicate (n - (length l + 1)) d))

  -- in the list
  pub pad_at : (l : List A) (i : ℕ) (z : A) → i < length l → get_or (pad n d l) i z ≡ get_or l i z
  unfolding pad
  pad_at l i z h = get_or-append l (replicate (n - length l) d) z i h

  -- past it
  pub pad_past : (l : List A) (i : ℕ) (z : A) → length l ≤ i → i < n → get_or (pad n d l) i z ≡ d
  unfolding pad
  pad_past l i z h k =
      let e : i ≡ length l + (i - length l) = omega arith in
      ap (λ (j : ℕ). get_or (l ++ replicate (n - length l) d) j z) e ∙ get_or-append-add l (replicate (n - length l) d) (i - length l) z
      ∙ get_or-replicate (n - length l) (i - length l) d z (omega arith)

  -- read with the same default the fill does not show
  pub pad_get_d : (l : List A) (i : ℕ) → length l ≤ n → get_or (pad n d l) i d ≡ get_or l i d
  pad_get_d l i h =
      ⊎_elim
      (λ a. ⊎_elim
      (λ b. get_or-eq_default (pad n d l) d {n = i} (rw (pad_length l h) b) ∙ sym (get_or-eq_default l d {n = i} a))
      (λ b. pad_past l i d a b ∙ sym (get_or-eq_default l d {n = i} a))
      (le_or_lt n i))
      (λ a. pad_at l i d a)
      (le_or_lt (length l) i)

  -- the stores of a run into an empty table
  pub pad_sets : (l : List A) → length l ≤ n → sets (replicate n d) 0 l ≡ pad n d l
  unfolding pad
  pad_sets l h =
      let e : 0 + length l ≡ length l = omega arith in
      sets-eq l (replicate n d) 0 (rw (length-replicate n d) (omega arith)) ∙ rw (e, drop_replicate (length l) n d)
