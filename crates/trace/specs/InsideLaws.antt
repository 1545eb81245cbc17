-- What is read lies inside the bytes that it is read from: the place of a refusal, and the end of a field and of a record.
use Rattle.std.specs.Prelude.{ℕ, ◌≤◌, Result, MatchResult}
use Rattle.trace.specs.Field.{Field}
use Rattle.trace.specs.declared.answer.Refusal.{Refusal}
use Rattle.trace.specs.declared.record.Read.{Read}

abbrev pub InsideF : ℕ → Result Field Refusal → Type 0
InsideF n r = MatchResult r (λ f. f.end ≤ n) (λ e. e.at ≤ n)

abbrev pub InsideR : ℕ → Result Read Refusal → Type 0
InsideR n r = MatchResult r (λ p. p.used ≤ n) (λ e. e.at ≤ n)
