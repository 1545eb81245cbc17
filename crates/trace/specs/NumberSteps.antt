-- The number, a byte at a time: what each byte decides, and what is carried past a group.
use Rattle.std.specs.Prelude.{◌≡◌, refl, List, ltb, eqb, length, get_or, drop, Ok, Err}
use Prim.Native.Nat.{ℕ, suc, ◌+◌, ◌-◌, ◌*◌, ◌^◌, ◌≤◌, ◌<◌}
use Rattle.std.proofs.Common.{mul-add, mul_assoc, mul-le-mul_left, pow-suc, lt-ltb, le-ltb, ne_eqb}
use Rattle.std.proofs.Math.Nat.{pow-le-pow_right}
use Rattle.std.proofs.Math.Numerals.{add-one}
use native.Mathlib.Omega.{arith}
use Rattle.std.proofs.Math.ListN.{drop_of_length-le}
use Rattle.std.proofs.Math.Seq.{drop-cons}
use Rattle.laws.specs.Choice.{pick}
use Rattle.trace.specs.Number.{Number, Value, Ends, Padded, Oversized, above, tenth, groups, number, carried}

-- a further group stays below the next unit, and no unit passes 2^63
pub room : (i sum unit b : ℕ) → i < 9 → unit ≡ 128 ^ i → sum < unit → b < 128 → (sum + unit * b < unit * 128) × (unit * 128 ≤ 2 ^ 63)
room i sum unit b h e l k =
    let z : b ≤ 127 = omega arith in
    let o : 0 < 128 = omega arith in
    let n : suc i ≤ 9 = omega arith in
    let p : 128 ^ suc i ≤ 128 ^ 9 = pow-le-pow_right o n in
    (omega (arith, mul-le-mul_left unit z), rw (e, ← pow-suc 128 i) p)

module _ (s : List ℕ) (i least : ℕ) (early : i < 9) where
  groups_past : length s ≤ i → groups (9 - i) least (drop i s) ≡ Ends
  unfolding groups
  groups_past h = let e : 9 - i ≡ suc (9 - (i + 1)) = omega arith in rw (e, drop_of_length-le s h)

  groups_at : i < length s → groups (9 - i) least (drop i s) ≡ pick (ltb (get_or s i 0) least) Padded
      (pick (ltb (get_or s i 0) 128) (Value (get_or s i 0) 1) (above (get_or s i 0 - 128) (groups (9 - (i + 1)) 1 (drop (i + 1) s))))
  unfolding groups
  groups_at h = let e : 9 - i ≡ suc (9 - (i + 1)) = omega arith in rw (e, drop-cons s i 0 h, ← add-one i)

  pub at_end : length s ≤ i → groups (9 - i) least (drop i s) ≡ Ends
  at_end h = groups_past h

  pub at_padded : i < length s → get_or s i 0 < least → groups (9 - i) least (drop i s) ≡ Padded
  at_padded h k = rw (groups_at h, lt-ltb (get_or s i 0) least k)

  pub at_last : i < length s → least ≤ get_or s i 0 → get_or s i 0 < 128 → groups (9 - i) least (drop i s) ≡ Value (get_or s i 0) 1
  at_last h k l = rw (groups_at h, le-ltb (get_or s i 0) least k, lt-ltb (get_or s i 0) 128 l)

  pub at_group : i < length s → least ≤ get_or s i 0 → 128 ≤ get_or s i 0 →
      groups (9 - i) least (drop i s) ≡ above (get_or s i 0 - 128) (groups (9 - (i + 1)) 1 (drop (i + 1) s))
  at_group h k l = rw (groups_at h, le-ltb (get_or s i 0) least k, le-ltb (get_or s i 0) 128 l)

-- before the first byte nothing is carried
pub start : (s : List ℕ) → carried 0 1 0 (groups 9 0 s) ≡ number s
unfolding number
start s = nothing (groups 9 0 s)
  where
    nothing : (r : Number) → carried 0 1 0 r ≡ r
    nothing (Ok p) = let e : 0 + 1 * p.0 ≡ p.0 = omega arith in let k : 0 + p.1 ≡ p.1 = omega arith in rw (e, k)
    nothing (Err e) = refl

-- a group is carried into the sum, and the unit grows
pub carry_on : (sum unit i low : ℕ) (r : Number) → carried sum unit i (above low r) ≡ carried (sum + unit * low) (unit * 128) (i + 1) r
carry_on sum unit i low (Ok p) =
    let e : unit * (low + 128 * p.0) ≡ unit * low + unit * 128 * p.0 = rw (mul-add, mul_assoc) in
    let a : sum + unit * (low + 128 * p.0) ≡ sum + unit * low + unit * 128 * p.0 = omega arith in
    let b : i + (p.1 + 1) ≡ i + 1 + p.1 = omega arith in
    rw (a, b)
carry_on sum unit i low (Err e) = refl

module _ (s : List ℕ) where
  pub tenth_end : length s ≤ 9 → tenth (drop 9 s) ≡ Ends
  unfolding tenth
  tenth_end h = rw (drop_of_length-le s h)

  tenth_at : 9 < length s → tenth (drop 9 s) ≡ pick (eqb (get_or s 9 0) 0) Padded (pick (eqb (get_or s 9 0) 1) (Value 1 1) Oversized)
  unfolding tenth
  tenth_at h = rw (drop-cons s 9 0 h)

  pub tenth_padded : 9 < length s → get_or s 9 0 ≡ 0 → tenth (drop 9 s) ≡ Padded
  tenth_padded h k = rw (tenth_at h, k)

  pub tenth_one : 9 < length s → get_or s 9 0 ≡ 1 → tenth (drop 9 s) ≡ Value 1 1
  tenth_one h k = rw (tenth_at h, k)

  pub tenth_over : 9 < length s → (get_or s 9 0 ≡ 0 → ⊥) → (get_or s 9 0 ≡ 1 → ⊥) → tenth (drop 9 s) ≡ Oversized
  tenth_over h k l = rw (tenth_at h, ne_eqb (get_or s 9 0) 0 k, ne_eqb (get_or s 9 0) 1 l)

pub ruleset tenth_steps = (tenth_end, tenth_padded, tenth_one, tenth_over)
