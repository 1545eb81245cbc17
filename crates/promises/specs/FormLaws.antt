-- One byte string a number: the shortest form of a number, that it reads as that number, and that whatever reads as that number is it.
use Rattle.std.specs.Prelude.{◌≡◌, refl, Bool, true, false, List, [], ◌∷◌, ◌++◌, ℕ, zero, suc, ◌+◌, ◌-◌, ◌*◌, ◌/◌, ◌%◌, ◌^◌, ◌≤◌, ◌<◌, ltb, eqb, length, take, Ok, Err}
use Rattle.std.proofs.Common.{sym, ap, ◌∙◌, pow-suc, add-one, arith, length-take-le, lt-ltb, le-ltb, ltb-true, ltb-false, eqb-true}
use Rattle.std.proofs.Math.Nat.{one-le-pow}
use Rattle.laws.specs.Choice.{pick}
use Rattle.laws.specs.Lists.{All}
use Rattle.laws.specs.Tests.{split}
use Rattle.trace.specs.Number.{Number, Value, Padded, Oversized, above, tenth, groups, number, taken}
use Rattle.trace.specs.NumberLaws.{number_within}

-- each is a byte
abbrev pub Bytes : List ℕ → Type 0
Bytes s = All (λ b. b < 256) s

-- groups of seven bits, low group first, the top bit on all but the last, which comes after m others at the latest
unfoldable pub form_of : ℕ → ℕ → List ℕ
form_of zero n = n ∷ []
form_of (suc m) n = pick (ltb n 128) (n ∷ []) ((n % 128 + 128) ∷ form_of m (n / 128))

-- the shortest form of a number below 2^64: ten bytes at most
unfoldable pub form : ℕ → List ℕ
form n = form_of 9 n

-- ---- the form reads as its number

form_end : (m n : ℕ) → n < 128 → form_of (suc m) n ≡ n ∷ []
unfolding form_of
form_end m n h = rw (lt-ltb n 128 h)

form_more : (m n : ℕ) → 128 ≤ n → form_of (suc m) n ≡ (n % 128 + 128) ∷ form_of m (n / 128)
unfolding form_of
form_more m n h = rw (le-ltb n 128 h)

groups_end : (m least b : ℕ) (s : List ℕ) → least ≤ b → b < 128 → groups (suc m) least (b ∷ s) ≡ Value b 1
unfolding groups
groups_end m least b s h k = rw (le-ltb b least h, lt-ltb b 128 k)

groups_more : (m least b : ℕ) (s : List ℕ) → least ≤ b → 128 ≤ b → groups (suc m) least (b ∷ s) ≡ above (b - 128) (groups m 1 s)
unfolding groups
groups_more m least b s h k = rw (le-ltb b least h, le-ltb b 128 k)

form_groups : (m least n : ℕ) (rest : List ℕ) → least ≤ n → least ≤ 1 → 1 ≤ n + m → n < 2 * 128 ^ m → groups m least (form_of m n ++ rest) ≡ Value n (length (form_of m n))
unfolding groups tenth form_of
form_groups zero least n rest h l o k = let e : n ≡ 1 = omega arith in rw e
form_groups (suc m) least n rest h l o k =
    split (ltb n 128)
    (λ t. let s : n < 128 = ltb-true n 128 t in rw (form_end m n s, groups_end m least n rest h s))
    (λ t. let b : 128 ≤ n = ltb-false n 128 t in
    let p : n / 128 < 2 * 128 ^ m = omega (arith, k, pow-suc 128 m) in
    let i : groups m 1 (form_of m (n / 128) ++ rest) ≡ Value (n / 128) (length (form_of m (n / 128))) =
    form_groups m 1 (n / 128) rest (omega arith) (omega arith) (omega arith) p in
    let w : n % 128 + 128 - 128 + 128 * (n / 128) ≡ n = omega arith in
    rw (form_more m n b, groups_more m least (n % 128 + 128) (form_of m (n / 128) ++ rest) (omega arith) (omega arith), i, w, add-one))

-- the form of a number below 2^64 reads as that number, whatever stands behind it
pub form_reads : (n : ℕ) (rest : List ℕ) → n < 2 ^ 64 → number (form n ++ rest) ≡ Value n (length (form n))
unfolding number form
form_reads n rest h = form_groups 9 0 n rest (omega arith) (omega arith) (omega arith) (omega arith)

-- ---- what reads as a number is its form

value_in : Number → ℕ
value_in (Ok p) = p.0
value_in (Err e) = 0

parts : (v j n k : ℕ) → Value v j ≡ Value n k → (n ≡ v) × (k ≡ j)
unfolding value_in
parts v j n k e = (sym (ap value_in e), sym (ap (λ (r : Number). taken r) e))

-- m groups and a tenth byte at most, the last group least or more, read as a number and the bytes that it takes
data Reads : ℕ → ℕ → List ℕ → ℕ → ℕ → Type 0 where
  ten : {least : ℕ} {s : List ℕ} → Reads zero least (1 ∷ s) 1 1
  last : {m least b : ℕ} {s : List ℕ} → least ≤ b → b < 128 → Reads (suc m) least (b ∷ s) b 1
  more : {m least b v k : ℕ} {s : List ℕ} → 128 ≤ b → Reads m 1 s v k → Reads (suc m) least (b ∷ s) (b - 128 + 128 * v) (k + 1)

tenth_reads : (least n k : ℕ) (s : List ℕ) → tenth s ≡ Value n k → Reads zero least s n k
unfolding tenth
tenth_reads least n k [] e = let z : ◌≡◌ {A = ℕ} 0 1 = cc in absurd (omega arith)
tenth_reads least n k (b ∷ s) e = by_test (eqb b 0) (eqb b 1) refl e
  where
    by_test : (x y : Bool) → eqb b 1 ≡ y → pick x Padded (pick y (Value 1 1) Oversized) ≡ Value n k → Reads zero least (b ∷ s) n k
    by_test true y f g = let z : ◌≡◌ {A = ℕ} 0 1 = cc in absurd (omega arith)
    by_test false false f g = let z : ◌≡◌ {A = ℕ} 0 1 = cc in absurd (omega arith)
    by_test false true f g =
        let u : b ≡ 1 = eqb-true b 1 f in
        let v = parts 1 1 n k g in
        rw (u, v.0, v.1) ten

above_reads : (m least b n k : ℕ) (s : List ℕ) (r : Number) → groups m 1 s ≡ r → ((v j : ℕ) → groups m 1 s ≡ Value v j → Reads m 1 s v j) → 128 ≤ b →
    above (b - 128) r ≡ Value n k → Reads (suc m) least (b ∷ s) n k
above_reads m least b n k s (Ok w) f g h e =
    let p = parts (b - 128 + 128 * w.0) (w.1 + 1) n k e in
    rw (p.0, p.1) (more h (g w.0 w.1 f))
above_reads m least b n k s (Err x) f g h e = let z : ◌≡◌ {A = ℕ} 0 1 = cc in absurd (omega arith)

group_reads : (m least b n k : ℕ) (s : List ℕ) (x y : Bool) → ltb b least ≡ x → ltb b 128 ≡ y →
    ((v j : ℕ) → groups m 1 s ≡ Value v j → Reads m 1 s v j) → pick x Padded (pick y (Value b 1) (above (b - 128) (groups m 1 s))) ≡ Value n k →
    Reads (suc m) least (b ∷ s) n k
group_reads m least b n k s true y f g i e = let z : ◌≡◌ {A = ℕ} 0 1 = cc in absurd (omega arith)
group_reads m least b n k s false true f g i e =
    let p = parts b 1 n k e in
    rw (p.0, p.1) (last (ltb-false b least f) (ltb-true b 128 g))
group_reads m least b n k s false false f g i e = above_reads m least b n k s (groups m 1 s) refl i (ltb-false b 128 g) e

groups_reads : (m least n k : ℕ) (s : List ℕ) → groups m least s ≡ Value n k → Reads m least s n k
unfolding groups
groups_reads zero least n k s e = tenth_reads least n k s e
groups_reads (suc m) least n k [] e = let z : ◌≡◌ {A = ℕ} 0 1 = cc in absurd (omega arith)
groups_reads (suc m) least n k (b ∷ s) e =
    group_reads m least b n k s (ltb b least) (ltb b 128) refl refl (λ v j. groups_reads m 1 v j s) e

-- what the relation says: the number's range, its bytes, and that it takes one at least
reads_is : {m least n k : ℕ} {s : List ℕ} → Reads m least s n k → least ≤ 1 → Bytes s → (least ≤ n) × (n < 2 * 128 ^ m) × (take k s ≡ form_of m n)
unfolding form_of
reads_is ten h b = (omega arith, omega arith, refl)
reads_is (last {m} {least} {b = c} {s} l k) h b =
    let p : 1 ≤ 128 ^ m = one-le-pow m 128 (omega arith) in
    (l, omega (arith, pow-suc 128 m), rw (form_end m c k))
reads_is (more {m} {least} {b = c} {v} {k} {s} l r) h b =
    let i : (1 ≤ v) × (v < 2 * 128 ^ m) × (take k s ≡ form_of m v) = reads_is r (omega arith) b.1 in
    let z : c < 256 = b.0 in
    let e : (c - 128 + 128 * v) % 128 + 128 ≡ c = omega arith in
    let d : (c - 128 + 128 * v) / 128 ≡ v = omega arith in
    let o : 128 ≤ c - 128 + 128 * v = omega arith in
    (omega arith, omega (arith, pow-suc 128 m), rw (add-one, form_more m (c - 128 + 128 * v) o, e, d, i.2))

-- whatever bytes read as a number, the number is below 2^64, and those bytes are its form
pub reads_form : (n k : ℕ) (s : List ℕ) → Bytes s → number s ≡ Value n k → (n < 2 ^ 64) × (take k s ≡ form n)
unfolding number form
reads_form n k s b e =
    let i : (0 ≤ n) × (n < 2 * 128 ^ 9) × (take k s ≡ form_of 9 n) = reads_is (groups_reads 9 0 n k s e) (omega arith) b in
    (omega arith, i.2)

-- and as many bytes as its form has
pub reads_length : (n k : ℕ) (s : List ℕ) → Bytes s → number s ≡ Value n k → (k ≡ length (form n)) × (k ≤ length s)
reads_length n k s b e =
    let w : k ≤ length s = rw e at (number_within s) in
    (sym (length-take-le k s w) ∙ ap length (reads_form n k s b e).1, w)

-- so two byte strings that read as one number are the same
pub one_form : (n j k : ℕ) (s t : List ℕ) → Bytes s → Bytes t → number s ≡ Value n j → number t ≡ Value n k → take j s ≡ take k t
one_form n j k s t a b e f = (reads_form n j s a e).1 ∙ sym (reads_form n k t b f).1

-- a number takes a byte at least
pub number_some : (s : List ℕ) (n k : ℕ) → number s ≡ Value n k → 1 ≤ k
unfolding number
number_some s n k e = some (groups_reads 9 0 n k s e)
  where
    some : {m least v j : ℕ} {t : List ℕ} → Reads m least t v j → 1 ≤ j
    some ten = omega arith
    some (last l h) = omega arith
    some (more l r) = omega arith

-- a number below 128 takes one byte alone
pub number_short : (s : List ℕ) (n k : ℕ) → number s ≡ Value n k → n < 128 → k ≡ 1
unfolding number
number_short s n k e h = short (groups_reads 9 0 n k s e) h
  where
    at_least : {m least v j : ℕ} {t : List ℕ} → Reads m least t v j → least ≤ 1 → least ≤ v
    at_least ten h = h
    at_least (last l h) k = l
    at_least (more l r) h = omega (arith, at_least r (omega arith))

    short : {m least v j : ℕ} {t : List ℕ} → Reads m least t v j → v < 128 → j ≡ 1
    short ten h = refl
    short (last l h) k = refl
    short (more l r) h = absurd (omega (arith, at_least r (omega arith)))
