-- Floats and their bits.
use Rattle.std.specs.Prelude.{◌≡◌, refl, true, false, not, ◌*◌, Float}
use Rattle.std.specs.Float.{nan, inf, fin}
use Rattle.std.specs.Float.Ieee.{up, down, eq, is_nan}
use Rattle.std.proofs.Common.{eq-eqb}

-- a number equals itself exactly if it is no NaN
pub eq_self : (x : Float) → eq x x ≡ not (is_nan x)
unfolding eq is_nan
eq_self nan = refl
eq_self (inf true) = refl
eq_self (inf false) = refl
eq_self (fin true m e) = rw (eq-eqb (m * up e * down e) (m * up e * down e) refl)
eq_self (fin false m e) = rw (eq-eqb (m * up e * down e) (m * up e * down e) refl)

-- what is no number is the NaN
no_number : (x : Float) → not (is_nan x) ≡ false → x ≡ nan
unfolding is_nan
no_number nan h = refl
no_number (inf s) h = cc
no_number (fin s m e) h = cc

-- what does not equal itself is the NaN
pub nan_of : (x : Float) → eq x x ≡ false → x ≡ nan
nan_of x h = no_number x (rw eq_self at h)
