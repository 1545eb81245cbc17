-- A permitted sum of two numbers that are not negative is not less than the first of them, by their bits.
use Rattle.std.specs.Prelude.{Bool, true, not, Float}
use Rattle.std.specs.Float.{nan, inf, fin}

-- ---- a sum

-- no finite number with a minus sign; NaN and infinities may stand, since no sum of theirs is permitted
abbrev pub plus : Float → Bool
plus nan = true
plus (inf s) = true
plus (fin s m e) = not s
