-- Laws of numbers: where they end.
use Rattle.std.specs.Prelude.{◌≡◌, refl, List, [], ◌∷◌, ℕ, zero, suc, ◌+◌, ◌-◌, ◌≤◌, ltb, eqb, length, drop, Ok, Err}
use Rattle.std.proofs.Common.{arith, length-drop}
use Rattle.laws.specs.Choice.{pick, pick_either}
use Rattle.trace.specs.Number.{Number, Value, Ends, Padded, Oversized, above, tenth, groups, number, taken}

-- takes at most n bytes
abbrev Within : ℕ → Number → Type 0
Within n r = taken r ≤ n

above_within : (low n : ℕ) (r : Number) → Within n r → Within (suc n) (above low r)
above_within low n (Ok p) h = omega arith
above_within low n (Err e) h = omega arith

tenth_within : (s : List ℕ) → Within (length s) (tenth s)
unfolding tenth
tenth_within [] = omega arith
tenth_within (b ∷ s) =
    pick_either (Within (suc (length s))) (eqb b 0) Padded (pick (eqb b 1) (Value 1 1) Oversized) (omega arith)
    (pick_either (Within (suc (length s))) (eqb b 1) (Value 1 1) Oversized (omega arith) (omega arith))

groups_within : (m least : ℕ) (s : List ℕ) → Within (length s) (groups m least s)
unfolding groups
groups_within zero least s = tenth_within s
groups_within (suc m) least [] = omega arith
groups_within (suc m) least (b ∷ s) =
    pick_either (Within (suc (length s))) (ltb b least) Padded (pick (ltb b 128) (Value b 1) (above (b - 128) (groups m 1 s))) (omega arith)
    (pick_either (Within (suc (length s))) (ltb b 128) (Value b 1) (above (b - 128) (groups m 1 s)) (omega arith)
    (above_within (b - 128) (length s) (groups m 1 s) (groups_within m 1 s)))

-- no bytes give no number
pub number_none : number [] ≡ Ends
unfolding number groups
number_none = refl

-- a number lies inside the bytes that it is read from
pub number_within : (s : List ℕ) → taken (number s) ≤ length s
unfolding number
number_within s = groups_within 9 0 s

pub number_inside : (s : List ℕ) (at : ℕ) → at ≤ length s → at + taken (number (drop at s)) ≤ length s
number_inside s at h = omega (arith, number_within (drop at s), length-drop at s)
