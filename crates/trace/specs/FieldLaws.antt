-- Laws of fields: past the bytes at hand there is none, and a number ends inside them.
use Rattle.std.specs.Prelude.{◌≡◌, List, [], ℕ, ◌+◌, ◌≤◌, ◌<◌, length, drop}
use Rattle.std.proofs.Common.{⊎_elim, arith, drop_of_length-le}
use Rattle.laws.specs.Tests.{le_or_lt}
use Rattle.trace.specs.Answer.{EndsEarly}
use Rattle.trace.specs.Number.{Value, Ends, number}
use Rattle.trace.specs.NumberLaws.{number_none, number_inside}
use Rattle.trace.specs.Field.{field}

pub drop_past : (s : List ℕ) (at : ℕ) → length s < at → drop at s ≡ []
drop_past s at h = drop_of_length-le s {i = at} (omega arith)

pub field_past : (s : List ℕ) (at least most : ℕ) → length s ≤ at → field s at least most ≡ EndsEarly (length s)
unfolding field
field_past s at least most h = rw (drop_of_length-le s {i = at} h, number_none)

-- a number that is read at a place ends inside the bytes
pub used_inside : (s : List ℕ) (at v k : ℕ) → number (drop at s) ≡ Value v k → at + k ≤ length s
used_inside s at v k e = ⊎_elim before past (le_or_lt at (length s))
  where
    before : at ≤ length s → at + k ≤ length s
    before h = rw e at (number_inside s at h)

    past : length s < at → at + k ≤ length s
    past h =
        let f : Ends ≡ Value v k = rw (drop_past s at h, number_none) at e in
        let z : ◌≡◌ {A = ℕ} 0 1 = cc in
        absurd (omega arith)
