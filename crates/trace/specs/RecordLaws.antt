-- Laws of records: what the conversions of a field ask.
use Rattle.std.specs.Prelude.{◌≡◌, not, ℕ, ◌*◌, ◌%◌, ◌≤◌, ◌<◌, T, eqb}
use Rattle.std.proofs.Common.{mod-eq_of_lt, arith, le-ltb}
use Rattle.std.specs.Float.{binary64}
use Rattle.std.specs.Float.Ieee.{nan_bits, ones, hid, top}
use Rattle.std.specs.Float.Ieee.Bits.{nan_bits_above}
use Rattle.laws.specs.Choice.{pick_either}
use Rattle.model.specs.Sizes.{permitted_bits}
use Rattle.trace.specs.Ranges as Ranges
use Rattle.trace.specs.Record.{most_slices}

-- the bits of a permitted number are no NaN's
pub no_nan : (n : ℕ) → n ≤ permitted_bits → T (not (nan_bits binary64 n))
no_nan n h =
    let small : n < top binary64 = omega arith in
    let e : n % top binary64 ≡ n = mod-eq_of_lt small in
    rw (nan_bits_above binary64 n, e, le-ltb (ones binary64 * hid binary64) n (omega arith)) tt

-- no job asks for more than 64 slices
pub slices_most : (profile : ℕ) → most_slices profile ≤ Ranges.slices_asked
slices_most profile = pick_either (λ (n : ℕ). n ≤ Ranges.slices_asked) (eqb profile 0) 0 Ranges.slices_asked (omega arith) (omega arith)
