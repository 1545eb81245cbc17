-- Numbers: groups of seven bits, low group first, the top bit set on all groups but the last; shortest form only, at most 64 bits.
use Rattle.std.specs.Prelude.{List, [], ◌∷◌, ℕ, zero, suc, ◌+◌, ◌-◌, ◌*◌, ltb, eqb, Result, Ok, Err}
use Rattle.laws.specs.Choice.{pick}
use Rattle.trace.specs.declared.number.NumberFault.{NumberFault}
use Rattle.trace.specs.declared.number.NumberFault.TheVariants as N

-- a number and the bytes that it takes, or why the bytes give none
abbrev pub Number : Type 0
Number = Result (ℕ × ℕ) NumberFault

abbrev pub Value : ℕ → ℕ → Number
Value v n = Ok (v, n)

abbrev pub Ends : Number
Ends = Err N.Ends

abbrev pub Padded : Number
Padded = Err N.Padded

abbrev pub Oversized : Number
Oversized = Err N.Oversized

-- a group below the rest of the number
abbrev pub above : ℕ → Number → Number
above low (Ok p) = Value (low + 128 * p.0) (p.1 + 1)
above low (Err e) = Err e

-- the tenth byte holds the 64th bit alone: 01
unfoldable pub tenth : List ℕ → Number
tenth [] = Ends
tenth (b ∷ s) = pick (eqb b 0) Padded (pick (eqb b 1) (Value 1 1) Oversized)

-- up to m groups and a tenth byte. A last group below least is not of the shortest form: least is 0 for the first byte, 1 for the others
unfoldable pub groups : ℕ → ℕ → List ℕ → Number
groups zero least s = tenth s
groups (suc m) least [] = Ends
groups (suc m) least (b ∷ s) = pick (ltb b least) Padded (pick (ltb b 128) (Value b 1) (above (b - 128) (groups m 1 s)))

-- the number at the front of the bytes
unfoldable pub number : List ℕ → Number
number s = groups 9 0 s

-- how many bytes it takes
abbrev pub taken : Number → ℕ
taken (Ok p) = p.1
taken (Err e) = 0

-- a number whose first i groups, of weights below unit, sum to low
abbrev pub carried : ℕ → ℕ → ℕ → Number → Number
carried low unit i (Ok p) = Value (low + unit * p.0) (i + p.1)
carried low unit i (Err e) = Err e
