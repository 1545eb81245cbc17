-- Permitted numbers.
use Rattle.std.specs.Prelude.{Bool, ℕ, leb, Float}
use Rattle.std.specs.Float.{binary64}
use Rattle.std.specs.Float.Ieee.{to_bits, of_bits}
use Rattle.model.specs.Sizes.{permitted_bits}

-- 0.0 and 1.0
abbrev pub zero·0 : Float
zero·0 = of_bits binary64 0

abbrev pub one·0 : Float
one·0 = of_bits binary64 0x3ff0000000000000

-- The bits of a number, read as a u64; every NaN counts as the one whose bits are 0x7ff8000000000000.
abbrev pub bits_of : Float → ℕ
bits_of x = to_bits binary64 x

-- A permitted number has bits at most those of 2^40.
abbrev pub permitted : Float → Bool
permitted x = leb (bits_of x) permitted_bits
