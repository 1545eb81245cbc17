-- Those numbers of a range that have a property, in order, and the first of them.
use Rattle.std.specs.Prelude.{◌≡◌, refl, ◌⊎◌, Bool, true, false, not, ◌||◌, ℕ, zero, suc, ◌+◌, ◌-◌, ◌≤◌, ◌<◌, eqb, length, get_or, take}
use Rattle.std.proofs.Common.{ap, ◌∙◌, inl, inr, ⊎_elim, arith, eqb-true, eq-eqb}
use mathlib.Core.List.{List, [], ◌∷◌, ◌++◌, append-nil, Memᴰ}
use Rattle.laws.specs.Choice.{pick}
use Rattle.laws.specs.Lists.{All, Apart, Distinct, all_member, all_members, all_of}
use Rattle.laws.specs.Tests.{split, never_both, or_cases, or_left, or_right, le_or_lt, eq_or_gt}

-- the number in front, if it is kept
abbrev pub keep : Bool → ℕ → List ℕ → List ℕ
keep true i l = i ∷ l
keep false i l = l

-- those of the m numbers from i on that have the property
unfoldable pub those : (ℕ → Bool) → ℕ → ℕ → List ℕ
those p zero i = []
those p (suc m) i = keep (p i) i (those p m (i + 1))

-- whether k stands in the list
abbrev pub has : ℕ → List ℕ → Bool
has k [] = false
has k (x ∷ l) = eqb k x || has k l

-- each at least lo and above the one before it
abbrev pub Rising : ℕ → List ℕ → Type 0
Rising lo [] = Unit {0}
Rising lo (x ∷ l) = (lo ≤ x) × Rising (x + 1) l

-- ---- a loop over those

-- one turn: the number at hand is kept or not
pub those_step : (p : ℕ → Bool) (n i : ℕ) → i < n → those p (n - i) i ≡ keep (p i) i (those p (n - (i + 1)) (i + 1))
unfolding those
those_step p n i h = let e : n - i ≡ suc (n - (i + 1)) = omega arith in rw e

-- a turn that keeps it
pub those_take : (p : ℕ → Bool) (n i : ℕ) → i < n → p i ≡ true → those p (n - i) i ≡ i ∷ those p (n - (i + 1)) (i + 1)
those_take p n i h t = rw (those_step p n i h, t)

-- a turn that does not
pub those_skip : (p : ℕ → Bool) (n i : ℕ) → i < n → p i ≡ false → those p (n - i) i ≡ those p (n - (i + 1)) (i + 1)
those_skip p n i h t = rw (those_step p n i h, t)

-- past the range there are none
pub those_end : (p : ℕ → Bool) (n i : ℕ) → n ≤ i → those p (n - i) i ≡ []
unfolding those
those_end p n i h = let e : n - i ≡ 0 = omega arith in rw e

-- ---- membership in a list

-- what a list has is its first or in the rest
pub has_cases : (k x : ℕ) (l : List ℕ) → has k (x ∷ l) ≡ true → (k ≡ x) ⊎ (has k l ≡ true)
has_cases k x l h = ⊎_elim (λ e. inl (eqb-true k x e)) (λ e. inr e) (or_cases (eqb k x) (has k l) h)

-- a list has its first
pub has_here : (k x : ℕ) (l : List ℕ) → k ≡ x → has k (x ∷ l) ≡ true
has_here k x l e = or_left (eqb k x) (has k l) (eq-eqb k x e)

-- a list has what its rest has
pub has_there : (k x : ℕ) (l : List ℕ) → has k l ≡ true → has k (x ∷ l) ≡ true
has_there k x l h = or_right (eqb k x) (has k l) h

-- what a part of a list has, the list has
pub has_take : (k n : ℕ) (l : List ℕ) → has k (take n l) ≡ true → has k l ≡ true
has_take k zero l h = absurd (never_both h refl)
has_take k (suc n) [] h = h
has_take k (suc n) (x ∷ l) h =
    ⊎_elim (λ e. has_here k x l e) (λ e. has_there k x l (has_take k n l e)) (has_cases k x (take n l) h)

-- what stands at an index is in the list
pub has_at : (l : List ℕ) (i d : ℕ) → i < length l → has (get_or l i d) l ≡ true
has_at [] i d h = absurd (omega arith)
has_at (x ∷ l) zero d h = has_here x x l refl
has_at (x ∷ l) (suc i) d h = has_there (get_or l i d) x l (has_at l i d (omega arith))

-- two lists in a row have what one of them has
pub has_append : (k : ℕ) (l r : List ℕ) → has k (l ++ r) ≡ has k l || has k r
has_append k [] r = refl
has_append k (x ∷ l) r = split (eqb k x) (λ e. rw e) (λ e. rw e (has_append k l r))

-- what a list has is a member of it, as the kit says it
pub has_member : (k : ℕ) (l : List ℕ) → has k l ≡ true → Memᴰ k l
has_member k [] h = absurd (never_both h refl)
has_member k (x ∷ l) h =
    ⊎_elim (λ e. Memᴰ.head e) (λ e. Memᴰ.tail (has_member k l e)) (has_cases k x l h)

-- and back
pub member_has : (k : ℕ) (l : List ℕ) → Memᴰ k l → has k l ≡ true
member_has k l m =
    all_member (λ y. has y l ≡ true) k l (all_of (λ y. has y l ≡ true) l 0 (λ i h. has_at l i 0 h)) m

-- what holds of each holds of what the list has
pub has_all : (P : ℕ → Type 0) (k : ℕ) (l : List ℕ) → All P l → has k l ≡ true → P k
has_all P k l h m = all_member P k l h (has_member k l m)

-- ---- rising lists

-- a rising list has nothing below its bound
pub rising_least : (lo k : ℕ) (l : List ℕ) → Rising lo l → has k l ≡ true → lo ≤ k
rising_least lo k [] r h = absurd (never_both h refl)
rising_least lo k (x ∷ l) r h =
    ⊎_elim (λ e. omega arith) (λ e. omega (arith, rising_least (x + 1) k l r.1 e)) (has_cases k x l h)

-- a bound may be lowered
pub rising_lower : (lo hi : ℕ) (l : List ℕ) → lo ≤ hi → Rising hi l → Rising lo l
rising_lower lo hi [] h r = tt
rising_lower lo hi (x ∷ l) h r = (omega arith, r.1)

-- the front of a rising list is rising
pub rising_take : (lo n : ℕ) (l : List ℕ) → Rising lo l → Rising lo (take n l)
rising_take lo zero l r = tt
rising_take lo (suc n) [] r = tt
rising_take lo (suc n) (x ∷ l) r = (r.0, rising_take (x + 1) n l r.1)

-- a later place holds a greater number
pub rising_at : (lo : ℕ) (l : List ℕ) (i j d : ℕ) → Rising lo l → i < j → j < length l → get_or l i d < get_or l j d
rising_at lo [] i j d r h b = absurd (omega arith)
rising_at lo (x ∷ l) i zero d r h b = absurd (omega arith)
rising_at lo (x ∷ l) zero (suc j) d r h b =
    let e : x + 1 ≤ get_or l j d = rising_least (x + 1) (get_or l j d) l r.1 (has_at l j d (omega arith)) in omega arith
rising_at lo (x ∷ l) (suc i) (suc j) d r h b = rising_at (x + 1) l i j d r.1 (omega arith) (omega arith)

-- what is smaller than one of the first n of a rising list is among the first n
pub rising_before : (lo n j k : ℕ) (l : List ℕ) → Rising lo l → j < k → has j l ≡ true → has k (take n l) ≡ true → has j (take n l) ≡ true
rising_before lo zero j k l r h hj hk = absurd (never_both hk refl)
rising_before lo (suc n) j k [] r h hj hk = hj
rising_before lo (suc n) j k (x ∷ l) r h hj hk =
    ⊎_elim
    (λ e. has_here j x (take n l) e)
    (λ e. let low : x + 1 ≤ j = rising_least (x + 1) j l r.1 e in
    ⊎_elim
    (λ f. absurd (omega arith))
    (λ f. has_there j x (take n l) (rising_before (x + 1) n j k l r.1 h e f))
    (has_cases k x (take n l) hk))
    (has_cases j x l hj)

rising_apart : (x lo : ℕ) (l : List ℕ) → x < lo → Rising lo l → Apart x l
rising_apart x lo [] h r = tt
rising_apart x lo (y ∷ l) h r = (λ e. omega arith, rising_apart x (y + 1) l (omega arith) r.1)

-- nothing stands in a rising list twice
pub rising_distinct : (lo : ℕ) (l : List ℕ) → Rising lo l → Distinct l
rising_distinct lo [] r = tt
rising_distinct lo (x ∷ l) r = (rising_apart x (x + 1) l (omega arith) r.1, rising_distinct (x + 1) l r.1)

-- ---- what those are

keep_cases : (b : Bool) (k i : ℕ) (l : List ℕ) → has k (keep b i l) ≡ true → ((k ≡ i) × (b ≡ true)) ⊎ (has k l ≡ true)
keep_cases true k i l h = ⊎_elim (λ e. inl (e, refl)) (λ e. inr e) (has_cases k i l h)
keep_cases false k i l h = inr h

keep_here : (b : Bool) (i : ℕ) (l : List ℕ) → b ≡ true → has i (keep b i l) ≡ true
keep_here true i l h = has_here i i l refl
keep_here false i l h = absurd (never_both h refl)

keep_there : (b : Bool) (k i : ℕ) (l : List ℕ) → has k l ≡ true → has k (keep b i l) ≡ true
keep_there true k i l h = has_there k i l h
keep_there false k i l h = h

keep_rising : (b : Bool) (i : ℕ) (l : List ℕ) → Rising (i + 1) l → Rising i (keep b i l)
keep_rising true i l r = (omega arith, r)
keep_rising false i l r = rising_lower i (i + 1) l (omega arith) r

keep_length : (b : Bool) (i m : ℕ) (l : List ℕ) → length l ≤ m → length (keep b i l) ≤ suc m
keep_length true i m l h = omega arith
keep_length false i m l h = omega arith

keep_more : (a b : Bool) (i : ℕ) (l r : List ℕ) → (a ≡ true → b ≡ true) → length l ≤ length r → length (keep a i l) ≤ length (keep b i r)
keep_more true true i l r f h = omega arith
keep_more true false i l r f h = absurd (never_both (f refl) refl)
keep_more false true i l r f h = omega arith
keep_more false false i l r f h = h

keep_one_more : (b : Bool) (i : ℕ) (l : List ℕ) → length (keep b i (i ∷ l)) ≡ suc (length (keep b i l))
keep_one_more true i l = refl
keep_one_more false i l = refl

keep_plus : (b : Bool) (i : ℕ) (l r : List ℕ) → length r ≡ length l + 1 → length (keep b i r) ≡ length (keep b i l) + 1
keep_plus true i l r h = omega arith
keep_plus false i l r h = h

keep_append : (b : Bool) (i : ℕ) (l r : List ℕ) → keep b i (l ++ r) ≡ keep b i l ++ r
keep_append true i l r = refl
keep_append false i l r = refl

keep_same : (b : Bool) (i j : ℕ) (l r : List ℕ) → length l ≡ length r → length (keep b i l) ≡ length (keep b j r)
keep_same true i j l r h = ap suc h
keep_same false i j l r h = h

-- each is in range and has the property
pub those_in : (p : ℕ → Bool) (m i k : ℕ) → has k (those p m i) ≡ true → (i ≤ k) × (k < i + m) × (p k ≡ true)
unfolding those
those_in p zero i k h = absurd (never_both h refl)
those_in p (suc m) i k h =
    ⊎_elim
    (λ e. let q : p i ≡ true = e.1 in (omega arith, omega arith, rw e.0 q))
    (λ e. let r : (i + 1 ≤ k) × (k < i + 1 + m) × (p k ≡ true) = those_in p m (i + 1) k e in (omega arith, omega arith, r.2))
    (keep_cases (p i) k i (those p m (i + 1)) h)

-- none is left out
pub those_has : (p : ℕ → Bool) (m i k : ℕ) → i ≤ k → k < i + m → p k ≡ true → has k (those p m i) ≡ true
unfolding those
those_has p zero i k l h t = absurd (omega arith)
those_has p (suc m) i k l h t =
    ⊎_elim
    (λ e. let q : p i ≡ true = rw (← e) t in rw e (keep_here (p i) i (those p m (i + 1)) q))
    (λ e. keep_there (p i) k i (those p m (i + 1)) (those_has p m (i + 1) k (omega arith) (omega arith) t))
    (eq_or_gt i k l)

-- they rise
pub those_rising : (p : ℕ → Bool) (m i : ℕ) → Rising i (those p m i)
unfolding those
those_rising p zero i = tt
those_rising p (suc m) i = keep_rising (p i) i (those p m (i + 1)) (those_rising p m (i + 1))

-- none stands there twice
pub those_distinct : (p : ℕ → Bool) (m i : ℕ) → Distinct (those p m i)
those_distinct p m i = rising_distinct i (those p m i) (those_rising p m i)

-- each is in range and has the property, for the whole list
pub those_each : (p : ℕ → Bool) (m i : ℕ) → All (λ k. (i ≤ k) × (k < i + m) × (p k ≡ true)) (those p m i)
those_each p m i =
    all_members
    (λ k. (i ≤ k) × (k < i + m) × (p k ≡ true))
    (those p m i)
    (λ k h. those_in p m i k (member_has k (those p m i) h))

-- there are at most m
pub those_length : (p : ℕ → Bool) (m i : ℕ) → length (those p m i) ≤ m
unfolding those
those_length p zero i = omega arith
those_length p (suc m) i = keep_length (p i) i m (those p m (i + 1)) (those_length p m (i + 1))

-- properties that agree on the range choose the same
pub those_same : (p q : ℕ → Bool) (m i : ℕ) → ((k : ℕ) → i ≤ k → k < i + m → p k ≡ q k) → those p m i ≡ those q m i
unfolding those
those_same p q zero i f = refl
those_same p q (suc m) i f =
    rw (f i (omega arith) (omega arith), those_same p q m (i + 1) (λ k a b. f k (omega arith) (omega arith)))

-- a weaker property chooses at least as many
pub those_more : (p q : ℕ → Bool) (m i : ℕ) → ((k : ℕ) → i ≤ k → k < i + m → p k ≡ true → q k ≡ true) → length (those p m i) ≤ length (those q m i)
unfolding those
those_more p q zero i f = omega arith
those_more p q (suc m) i f =
    keep_more
    (p i)
    (q i)
    i
    (those p m (i + 1))
    (those q m (i + 1))
    (f i (omega arith) (omega arith))
    (those_more p q m (i + 1) (λ k a b. f k (omega arith) (omega arith)))

-- where none has the property there are none
pub those_none : (p : ℕ → Bool) (m i : ℕ) → ((k : ℕ) → i ≤ k → k < i + m → p k ≡ false) → those p m i ≡ []
unfolding those
those_none p zero i f = refl
those_none p (suc m) i f =
    rw (f i (omega arith) (omega arith), those_none p m (i + 1) (λ k a b. f k (omega arith) (omega arith)))

-- where all have it there are m
pub those_all : (p : ℕ → Bool) (m i : ℕ) → ((k : ℕ) → i ≤ k → k < i + m → p k ≡ true) → length (those p m i) ≡ m
unfolding those
those_all p zero i f = refl
those_all p (suc m) i f =
    rw (f i (omega arith) (omega arith)) (ap suc (those_all p m (i + 1) (λ k a b. f k (omega arith) (omega arith))))

-- one number more with the property is one more
pub those_one_more : (p q : ℕ → Bool) (j m i : ℕ) → i ≤ j → j < i + m → p j ≡ false → q j ≡ true → ((k : ℕ) → (k ≡ j → ⊥) → p k ≡ q k) →
    length (those q m i) ≡ length (those p m i) + 1
unfolding those
those_one_more p q j zero i a b n t f = absurd (omega arith)
those_one_more p q j (suc m) i a b n t f =
    ⊎_elim
    (λ s. let s : j ≡ i = s in
    let n : p i ≡ false = rw s at n in
    let t : q i ≡ true = rw s at t in
    let e : those p m (i + 1) ≡ those q m (i + 1) = those_same p q m (i + 1) (λ k c d. f k (λ z. omega arith)) in
    rw (n, t, e) (omega arith))
    (λ s. let b : j < i + 1 + m = omega arith in
    let e : p i ≡ q i = f i (λ z. omega arith) in
    rw e (keep_plus (q i) i (those p m (i + 1)) (those q m (i + 1)) (those_one_more p q j m (i + 1) s b n t f)))
    (eq_or_gt i j a)

-- a weaker property that one number more has chooses more
pub those_fewer : (p q : ℕ → Bool) (j m i : ℕ) → i ≤ j → j < i + m → p j ≡ false → q j ≡ true →
    ((k : ℕ) → i ≤ k → k < i + m → p k ≡ true → q k ≡ true) → length (those p m i) < length (those q m i)
unfolding those
those_fewer p q j zero i a b n t f = absurd (omega arith)
those_fewer p q j (suc m) i a b n t f =
    ⊎_elim
    (λ s. let s : j ≡ i = s in
    let n : p i ≡ false = rw s at n in
    let t : q i ≡ true = rw s at t in
    rw (n, t) (omega (arith, those_more p q m (i + 1) (λ k c d. f k (omega arith) (omega arith)))))
    (λ s. let r : length (those p m (i + 1)) < length (those q m (i + 1)) = those_fewer p q j m (i + 1) s (omega arith) n t (λ k c d. f k (omega arith) (omega arith)) in
    omega (
      arith,
      keep_more (p i) (q i) i (i ∷ those p m (i + 1)) (those q m (i + 1)) (f i (omega arith) (omega arith)) (omega arith),
      keep_one_more (p i) i (those p m (i + 1)),
    ))
    (eq_or_gt i j a)

-- the chosen and the others together are all
pub those_others : (p : ℕ → Bool) (m i : ℕ) → length (those p m i) + length (those (λ k. not (p k)) m i) ≡ m
unfolding those
those_others p zero i = refl
those_others p (suc m) i =
    let r : length (those p m (i + 1)) + length (those (λ k. not (p k)) m (i + 1)) ≡ m = those_others p m (i + 1) in
    split (p i) (λ e. rw e (omega arith)) (λ e. rw e (omega arith))

-- a range in two parts
pub those_add : (p : ℕ → Bool) (m n i : ℕ) → those p (m + n) i ≡ those p m i ++ those p n (i + m)
unfolding those
those_add p zero n i = let e : 0 + n ≡ n = omega arith in let f : i + 0 ≡ i = omega arith in rw (e, f)
those_add p (suc m) n i =
    let e : suc m + n ≡ suc (m + n) = omega arith in
    let f : i + suc m ≡ i + 1 + m = omega arith in
    rw (e, f, those_add p m n (i + 1)) (keep_append (p i) i (those p m (i + 1)) (those p n (i + 1 + m)))

-- one number more, at the end
pub those_last : (p : ℕ → Bool) (m i : ℕ) → those p (m + 1) i ≡ those p m i ++ keep (p (i + m)) (i + m) []
unfolding those
those_last p m i = those_add p m 1 i

-- a loop that appends: the number at hand is kept
pub those_next_take : (p : ℕ → Bool) (i : ℕ) → p i ≡ true → those p (i + 1) 0 ≡ those p i 0 ++ (i ∷ [])
those_next_take p i t = let e : 0 + i ≡ i = omega arith in those_last p i 0 ∙ rw (e, t)

-- a loop that appends: it is not kept
pub those_next_skip : (p : ℕ → Bool) (i : ℕ) → p i ≡ false → those p (i + 1) 0 ≡ those p i 0
those_next_skip p i t = let e : 0 + i ≡ i = omega arith in those_last p i 0 ∙ rw (e, t, append-nil)

-- as many where the property and the range are shifted
pub those_shift : (p : ℕ → Bool) (j m i : ℕ) → length (those (λ k. p (k + j)) m i) ≡ length (those p m (i + j))
unfolding those
those_shift p j zero i = refl
those_shift p j (suc m) i =
    let e : i + 1 + j ≡ i + j + 1 = omega arith in
    keep_same (p (i + j)) i (i + j) (those (λ k. p (k + j)) m (i + 1)) (those p m (i + j + 1)) (those_shift p j m (i + 1) ∙ rw e)

-- ---- the first n of those

-- ---- the first that has the property

-- the first of the m numbers from i on that has the property; i + m for none
unfoldable pub first : (ℕ → Bool) → ℕ → ℕ → ℕ
first p zero i = i
first p (suc m) i = pick (p i) i (first p m (i + 1))

-- one turn: the number at hand has the property
pub first_found : (p : ℕ → Bool) (n i : ℕ) → i < n → p i ≡ true → first p (n - i) i ≡ i
unfolding first
first_found p n i h t = let e : n - i ≡ suc (n - (i + 1)) = omega arith in rw (e, t)

-- one turn: it has not
pub first_next : (p : ℕ → Bool) (n i : ℕ) → i < n → p i ≡ false → first p (n - i) i ≡ first p (n - (i + 1)) (i + 1)
unfolding first
first_next p n i h t = let e : n - i ≡ suc (n - (i + 1)) = omega arith in rw (e, t)

-- past the range the search stands where it is
pub first_end : (p : ℕ → Bool) (n i : ℕ) → n ≤ i → first p (n - i) i ≡ i
unfolding first
first_end p n i h = let e : n - i ≡ 0 = omega arith in rw e

-- it is in range, or i + m
pub first_range : (p : ℕ → Bool) (m i : ℕ) → (i ≤ first p m i) × (first p m i ≤ i + m)
unfolding first
first_range p zero i = (omega arith, omega arith)
first_range p (suc m) i =
    let r : (i + 1 ≤ first p m (i + 1)) × (first p m (i + 1) ≤ i + 1 + m) = first_range p m (i + 1) in
    split (p i) (λ e. rw e (omega arith, omega arith)) (λ e. rw e (omega arith, omega arith))

-- in range it has the property
pub first_has : (p : ℕ → Bool) (m i : ℕ) → first p m i < i + m → p (first p m i) ≡ true
unfolding first
first_has p zero i h = absurd (omega arith)
first_has p (suc m) i h =
    split
    (p i)
    (λ e. rw (e, e))
    (λ e. let g : first p m (i + 1) < i + suc m = rw e at h in rw e (first_has p m (i + 1) (omega arith)))

-- none before it has the property
pub first_before : (p : ℕ → Bool) (m i k : ℕ) → i ≤ k → k < first p m i → p k ≡ false
unfolding first
first_before p zero i k a b = absurd (omega arith)
first_before p (suc m) i k a b =
    split
    (p i)
    (λ e. let g : k < i = rw e at b in absurd (omega arith))
    (λ e. let g : k < first p m (i + 1) = rw e at b in
    ⊎_elim (λ f. let s : k ≡ i = f in rw s e) (λ f. first_before p m (i + 1) k f g) (eq_or_gt i k a))

-- it is at most each that has the property
pub first_least : (p : ℕ → Bool) (m i k : ℕ) → i ≤ k → p k ≡ true → first p m i ≤ k
first_least p m i k a t =
    ⊎_elim (λ e. e) (λ e. absurd (never_both t (first_before p m i k a e))) (le_or_lt (first p m i) k)

-- properties that agree on the range have the same first
pub first_same : (p q : ℕ → Bool) (m i : ℕ) → ((k : ℕ) → i ≤ k → k < i + m → p k ≡ q k) → first p m i ≡ first q m i
unfolding first
first_same p q zero i f = refl
first_same p q (suc m) i f =
    rw (f i (omega arith) (omega arith), first_same p q m (i + 1) (λ k a b. f k (omega arith) (omega arith)))

-- where none has the property it is i + m
pub first_none : (p : ℕ → Bool) (m i : ℕ) → ((k : ℕ) → i ≤ k → k < i + m → p k ≡ false) → first p m i ≡ i + m
first_none p m i f =
    ⊎_elim
    (λ e. omega (arith, (first_range p m i).1))
    (λ e. absurd (never_both (first_has p m i e) (f (first p m i) (first_range p m i).0 e)))
    (le_or_lt (i + m) (first p m i))

-- it is the head of those
pub first_those : (p : ℕ → Bool) (m i : ℕ) → get_or (those p m i) 0 (i + m) ≡ first p m i
unfolding those first
first_those p zero i = omega arith
first_those p (suc m) i =
    let f : i + suc m ≡ i + 1 + m = omega arith in
    split (p i) (λ e. rw (e)) (λ e. rw (e, f) (first_those p m (i + 1)))
