-- Fields: each is read, then ranged, before the next.
use Rattle.std.specs.Prelude.{List, ℕ, ◌+◌, ltb, length, drop, Result, Ok, Err}
use Rattle.laws.specs.Choice.{pick}
use Rattle.trace.specs.Number.{Number, number}
use Rattle.trace.specs.Answer.{EndsEarly, BadNumber, OutOfRange}
use Rattle.trace.specs.declared.answer.Refusal.{Refusal}
use Rattle.trace.specs.declared.number.NumberFault.TheVariants as N

-- a field's number, and where it ends
pub record Field : Type 0 where
  pub value : ℕ
  pub end : ℕ

abbrev pub got : ℕ → ℕ → Field
got value end = record { value = value; end = end }

-- The fault of a number is one of three: the bytes end (at their length), it is not shortest or has over 64 bits (at its first byte), or it is out of range.
abbrev pub ranged : ℕ → ℕ → ℕ → ℕ → Number → Result Field Refusal
ranged length at least most (Ok p) = pick (ltb p.0 least) (OutOfRange at) (pick (ltb most p.0) (OutOfRange at) (Ok (got p.0 (at + p.1))))
ranged length at least most (Err N.Ends) = EndsEarly length
ranged length at least most (Err N.Padded) = BadNumber at
ranged length at least most (Err N.Oversized) = BadNumber at

-- The field at a place: from least to most.
unfoldable pub field : List ℕ → ℕ → ℕ → ℕ → Result Field Refusal
field s at least most = ranged (length s) at least most (number (drop at s))
