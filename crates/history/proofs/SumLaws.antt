-- A permitted sum of two numbers that are not negative is not less than the first of them, by their bits.
use Rattle.std.specs.Prelude.{◌≡◌, refl, Bool, true, false, cond, T, leb, ltb, eqb, ℤ, Float}
use Rattle.std.proofs.Common.{sym, ap, subst, ◌∙◌, ⊎_elim, le_trans, le_of_eq, mul_comm, mul_assoc, mul_left_comm, mul-le-mul_right, le-div_iff_mul-le, div-mul-le_self, mul-div_cancel, mul-pos, arith, pow-add, pow_pos, pow_mono, leb-true}
use Rattle.std.specs.Bool.{beq}
use Prim.Native.Nat.{ℕ, zero, suc, ◌+◌, ◌-◌, ◌*◌, ◌/◌, ◌%◌, ◌^◌, ◌≤◌, ◌<◌, compare}
use Rattle.std.proofs.Math.Nat.{div-div-eq-div-mul}
use Rattle.std.specs.Float.{nan, inf, fin, binary64}
use Rattle.std.specs.Float.Ieee.{prec, emax, low, hid, ones, top, unlike, up, down, size, odd, units, round, add, mul, lt, sum, to_bits, of_bits, of_fields}
use Rattle.std.specs.Float.Ieee.Digits.{size-lt, size_reaches}
use Rattle.std.specs.Float.Ieee.Fits.{kept-lt, down_pos, round_is}
use Rattle.std.specs.Float.Ieee.Exact.{HasValue}
use Rattle.std.specs.Float.Ieee.Nearest.{nearest-ge, div_mono}
use Rattle.std.specs.Float.Ieee.Order.{kept}
use Rattle.std.specs.Float.Ieee.Scale.{grid, finite, round_val, round_under}
use Rattle.std.proofs.lemmas.Bool.{lt-leb}
use Rattle.laws.specs.Tests.{le_or_lt, never_both}
use Rattle.model.specs.Sizes.{permitted_bits}
use Rattle.model.specs.Number.{bits_of, permitted, zero·0}
use Rattle.history.specs.SumLaws.{plus}

-- ---- the bits of a number that is not negative, from its size in the smallest units

-- the digits that are dropped, and those that stay
abbrev dropped : ℕ → ℕ
dropped n = size n - 53

abbrev front : ℕ → ℕ
front n = n / 2 ^ dropped n

abbrev unit_bits : ℕ → ℕ
unit_bits n = dropped n * 2 ^ 52 + front n

-- where digits are dropped 53 stay
front_full : (n : ℕ) → 0 < dropped n → 2 ^ 52 * 2 ^ dropped n ≤ n
front_full n h = le_trans (le_of_eq (sym (pow-add 2 52 (dropped n)))) (size_reaches n (52 + dropped n) (omega arith))

-- a number that reaches what stays of another drops as many digits
drops_more : (x y : ℕ) → front x * 2 ^ dropped x ≤ y → dropped x ≤ dropped y
drops_more x y h =
    ⊎_elim
    (λ none. omega (arith, none))
    (λ some.
    let a : 2 ^ 52 ≤ front x = (le-div_iff_mul-le (pow_pos (dropped x))).1 (front_full x some) in
    let b : 2 ^ (52 + dropped x) ≤ y = le_trans (le_of_eq (pow-add 2 52 (dropped x))) (le_trans (mul-le-mul_right (2 ^ dropped x) a) h) in
    ⊎_elim
    (λ l. let c : 2 ^ size y ≤ 2 ^ (52 + dropped x) = pow_mono l in absurd (omega (arith, b, c, size-lt y)))
    (λ l. omega (arith, l))
    (le_or_lt (size y) (52 + dropped x)))
    (le_or_lt (dropped x) 0)

same_drop : (x y k : ℕ) → dropped y ≡ k → front x * 2 ^ k ≤ y → front x ≤ front y
same_drop x y k e h = rw e ((le-div_iff_mul-le (pow_pos k)).1 h)

-- and its bits are not less
bits_up : (x y : ℕ) → front x * 2 ^ dropped x ≤ y → unit_bits x ≤ unit_bits y
bits_up x y h =
    ⊎_elim
    (λ l.
    let e : dropped y ≡ dropped x = omega (arith, l, drops_more x y h) in
    omega (arith, e, same_drop x y (dropped x) e h))
    (λ l.
    let a : front x < 2 ^ 53 = kept-lt 53 x in
    let b : 2 ^ 52 ≤ front y = (le-div_iff_mul-le (pow_pos (dropped y))).1 (front_full y (omega (arith, l))) in
    omega (arith, a, b, l))
    (le_or_lt (dropped y) (dropped x))

bits_mono : (x y : ℕ) → x ≤ y → unit_bits x ≤ unit_bits y
bits_mono x y h = bits_up x y (le_trans (div-mul-le_self x (2 ^ dropped x)) h)

-- ---- rounded

units_of : (a n d : ℕ) → 0 < d → n ≡ a * d → n / d ≡ a
units_of a n d h e = rw e (mul-div_cancel a h)

-- the size is taken in whole units
fin_bits : (m : ℕ) (e : ℤ) → bits_of (fin false m e) ≡ unit_bits (m * up e * 2 ^ low binary64 / down e)
unfolding to_bits size
fin_bits m e = omega arith

-- a minus sign weighs more than all else
minus_bits : (m : ℕ) (e : ℤ) → top binary64 ≤ bits_of (fin true m e)
unfolding to_bits size
minus_bits m e = omega arith

value_bits : (x : Float) (a : ℕ) → HasValue x false a (2 ^ low binary64) → bits_of x ≡ unit_bits a
value_bits nan a h = absurd h
value_bits (inf s) a h = absurd h
value_bits (fin true m e) a h = absurd (never_both refl h.0)
value_bits (fin false m e) a h =
    let u : m * up e * 2 ^ low binary64 / down e ≡ a = units_of a (m * up e * 2 ^ low binary64) (down e) (down_pos e) h.1 in
    fin_bits m e ∙ ap unit_bits u

-- the rounded fraction has the bits of its whole units at least
round_bits : (a c : ℕ) → T (finite (round binary64 false a c)) → unit_bits (a * 2 ^ low binary64 / c) ≤ bits_of (round binary64 false a c)
round_bits a c t =
    let n : ℕ = a * 2 ^ low binary64 in
    let k : ℕ = dropped (n / c) in
    let v : bits_of (round binary64 false a c) ≡ unit_bits (grid binary64 a c) =
    value_bits (round binary64 false a c) (grid binary64 a c) (round_val binary64 a c (round_under binary64 a c t)) in
    let w : front (n / c) ≡ n / (c * 2 ^ k) = div-div-eq-div-mul n c (2 ^ k) in
    let g : front (n / c) ≤ kept 53 n c = le_trans (le_of_eq w) (nearest-ge (n / (c * 2 ^ k)) (compare (n % (c * 2 ^ k) * 2) (c * 2 ^ k))) in
    le_trans (bits_up (n / c) (grid binary64 a c) (mul-le-mul_right (2 ^ k) g)) (le_of_eq (sym v))

-- ---- a sum

-- what is permitted is not negative,
pub permitted_plus : (x : Float) → permitted x ≡ true → plus x ≡ true
permitted_plus nan h = refl
permitted_plus (inf s) h = refl
permitted_plus (fin false m e) h = refl
permitted_plus (fin true m e) h =
    let l : bits_of (fin true m e) ≤ permitted_bits = leb-true (bits_of (fin true m e)) permitted_bits h in
    let g : top binary64 ≤ bits_of (fin true m e) = minus_bits m e in
    absurd (omega (arith, l, g))

-- and finite
permitted_finite : (x : Float) → permitted x ≡ true → T (finite x)
unfolding to_bits
permitted_finite nan h = absurd (never_both h refl)
permitted_finite (inf true) h = absurd (never_both h refl)
permitted_finite (inf false) h = absurd (never_both h refl)
permitted_finite (fin s m e) h = tt

-- the first part's units are not more than the sum's
part_units : (a b d v l : ℕ) → 0 < d → 0 < v → a * l / d ≤ (a * v + b * d) * l / (d * v)
part_units a b d v l h k =
    let one : a * l * (d * v) ≡ a * v * (l * d) = simp (mul_assoc, mul_comm, mul_left_comm) in
    let two : (a * v + b * d) * l * d ≡ (a * v + b * d) * (l * d) = mul_assoc (a * v + b * d) l d in
    let more : a * v * (l * d) ≤ (a * v + b * d) * (l * d) = mul-le-mul_right (l * d) (omega arith) in
    div_mono (a * l) d ((a * v + b * d) * l) (d * v) h (mul-pos h k) (le_trans (le_of_eq one) (le_trans more (le_of_eq (sym two))))

-- The sum is not less, by its bits, if it is permitted.
pub sum_up : (x y : Float) → plus x ≡ true → plus y ≡ true → permitted (add binary64 x y) ≡ true → bits_of x ≤ bits_of (add binary64 x y)
unfolding add sum
sum_up nan y p q h = absurd (permitted_finite nan h)
sum_up (inf s) nan p q h = absurd (permitted_finite nan h)
sum_up (inf true) (inf true) p q h = absurd (permitted_finite (inf true) h)
sum_up (inf true) (inf false) p q h = absurd (permitted_finite nan h)
sum_up (inf false) (inf true) p q h = absurd (permitted_finite nan h)
sum_up (inf false) (inf false) p q h = absurd (permitted_finite (inf false) h)
sum_up (inf true) (fin t n d) p q h = absurd (permitted_finite (inf true) h)
sum_up (inf false) (fin t n d) p q h = absurd (permitted_finite (inf false) h)
sum_up (fin s m e) nan p q h = absurd (permitted_finite nan h)
sum_up (fin s m e) (inf true) p q h = absurd (permitted_finite (inf true) h)
sum_up (fin s m e) (inf false) p q h = absurd (permitted_finite (inf false) h)
sum_up (fin true m e) (fin t n d) p q h = absurd (never_both p refl)
sum_up (fin false m e) (fin true n d) p q h = absurd (never_both q refl)
sum_up (fin false m e) (fin false n d) p q h =
    let r : Float = round binary64 false (m * up e * down d + n * up d * down e) (down e * down d) in
    let l : ℕ = 2 ^ low binary64 in
    le_trans (le_of_eq (fin_bits m e))
    (le_trans
    (bits_mono (m * up e * l / down e) ((m * up e * down d + n * up d * down e) * l / (down e * down d))
    (part_units (m * up e) (n * up d) (down e) (down d) l (down_pos e) (down_pos d)))
    (round_bits (m * up e * down d + n * up d * down e) (down e * down d) (permitted_finite r h)))

-- ---- sums and products stay so

odd_plus : (d q k l : ℕ) → plus (odd d false q k l) ≡ true
unfolding odd
odd_plus d zero k l = refl
odd_plus d (suc q) k l = refl

cond_plus : (b : Bool) (x y : Float) → plus x ≡ true → plus y ≡ true → plus (cond b x y) ≡ true
cond_plus true x y p q = p
cond_plus false x y p q = q

units_plus : (q k : ℕ) → plus (units binary64 false q k) ≡ true
unfolding units
units_plus q k =
    cond_plus (ltb (q * 2 ^ k) (2 ^ (low binary64 + suc (emax binary64)))) (odd (suc (prec binary64)) false q k (low binary64)) (inf false)
    (odd_plus (suc (prec binary64)) q k (low binary64)) refl

round_plus : (a c : ℕ) → plus (round binary64 false a c) ≡ true
round_plus a c = subst (λ (z : Float). plus z ≡ true) (sym (round_is binary64 false a c)) (units_plus _ _)

pub sum_plus : (x y : Float) → plus x ≡ true → plus y ≡ true → plus (add binary64 x y) ≡ true
unfolding add sum
sum_plus nan y p q = refl
sum_plus (inf s) nan p q = refl
sum_plus (inf s) (inf t) p q = cond_plus (beq s t) (inf s) nan refl refl
sum_plus (inf s) (fin t n d) p q = refl
sum_plus (fin s m e) nan p q = refl
sum_plus (fin s m e) (inf t) p q = refl
sum_plus (fin true m e) (fin t n d) p q = absurd (never_both p refl)
sum_plus (fin false m e) (fin true n d) p q = absurd (never_both q refl)
sum_plus (fin false m e) (fin false n d) p q = round_plus (m * up e * down d + n * up d * down e) (down e * down d)

pub product_plus : (x y : Float) → plus x ≡ true → plus y ≡ true → plus (mul binary64 x y) ≡ true
unfolding mul
product_plus nan y p q = refl
product_plus (inf s) nan p q = refl
product_plus (inf s) (inf t) p q = refl
product_plus (inf s) (fin t n d) p q = cond_plus (eqb n 0) nan (inf (unlike s t)) refl refl
product_plus (fin s m e) nan p q = refl
product_plus (fin s m e) (inf t) p q = cond_plus (eqb m 0) nan (inf (unlike s t)) refl refl
product_plus (fin true m e) (fin t n d) p q = absurd (never_both p refl)
product_plus (fin false m e) (fin true n d) p q = absurd (never_both q refl)
product_plus (fin false m e) (fin false n d) p q = round_plus (m * up e * (n * up d)) (down e * down d)

fields_plus : (x t : ℕ) → plus (of_fields binary64 false x t) ≡ true
unfolding of_fields
fields_plus zero t = odd_plus (prec binary64) t 0 (low binary64)
fields_plus (suc x) t =
    cond_plus (eqb (suc x) (ones binary64)) (cond (eqb t 0) (inf false) nan) (odd (prec binary64) false (hid binary64 + t) x (low binary64))
    (cond_plus (eqb t 0) (inf false) nan refl refl) (odd_plus (prec binary64) (hid binary64 + t) x (low binary64))

-- the number of permitted bits
pub bits_plus : (n : ℕ) → n ≤ permitted_bits → plus (of_bits binary64 n) ≡ true
unfolding of_bits
bits_plus n h =
    let s : leb (top binary64) n ≡ false = lt-leb (top binary64) n (omega (arith, h)) in
    rw s (fields_plus (n % top binary64 / hid binary64) (n % hid binary64))

-- and what is above 0.0
pub above_plus : (x : Float) → lt zero·0 x ≡ true → plus x ≡ true
unfolding lt of_bits of_fields odd
above_plus nan h = refl
above_plus (inf s) h = refl
above_plus (fin false m e) h = refl
above_plus (fin true m e) h = absurd (never_both h refl)
