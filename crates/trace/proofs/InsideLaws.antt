-- What is read lies inside the bytes that it is read from: the place of a refusal, and the end of a field and of a record.
use Rattle.std.specs.Prelude.{List, [], ◌∷◌, ℕ, ◌+◌, ◌≤◌, ◌<◌, ltb, eqb, length, drop, Result, Ok, Err, MatchResult}
use Rattle.std.proofs.Common.{⊎_elim, arith}
use Rattle.laws.specs.Choice.{pick, pick_either}
use Rattle.laws.specs.Tests.{le_or_lt}
use Rattle.trace.specs.Ranges as Ranges
use Rattle.trace.specs.Answer.{OutOfRange, UnknownKind, ◌>>=◌}
use Rattle.trace.specs.Number.{Number, number, taken}
use Rattle.trace.specs.AnswerLaws.{steps}
use Rattle.trace.specs.NumberLaws.{number_none, number_inside}
use Rattle.trace.specs.Field.{Field, field, got, ranged}
use Rattle.trace.specs.FieldLaws.{field_past}
use Rattle.trace.specs.Record.{read_as, node_read, gpu_read, quota_read, profile_read, job_read, options_read, kind_read, fields_read, record_read}
use Rattle.trace.specs.InsideLaws.{InsideF, InsideR}
use Rattle.trace.specs.declared.answer.Refusal.{Refusal}
use Rattle.trace.specs.declared.number.NumberFault.TheVariants as N
use Rattle.trace.specs.declared.record.Read.{Read}
use Rattle.trace.specs.declared.record.Record.TheVariants.{End}

ranged_inside : (n at least most : ℕ) (r : Number) → at ≤ n → at + taken r ≤ n → InsideF n (ranged n at least most r)
ranged_inside n at least most (Ok p) h t =
    pick_either (InsideF n) (ltb p.0 least) (OutOfRange at) (pick (ltb most p.0) (OutOfRange at) (Ok (got p.0 (at + p.1)))) h
    (pick_either (InsideF n) (ltb most p.0) (OutOfRange at) (Ok (got p.0 (at + p.1))) h t)
ranged_inside n at least most (Err N.Ends) h t = omega arith
ranged_inside n at least most (Err N.Padded) h t = h
ranged_inside n at least most (Err N.Oversized) h t = h

pub field_inside : (s : List ℕ) (at least most : ℕ) → InsideF (length s) (field s at least most)
unfolding field
field_inside s at least most =
    ⊎_elim
    (λ (h : at ≤ length s). ranged_inside (length s) at least most (number (drop at s)) h (number_inside s at h))
    (λ (h : length s < at). past h)
    (le_or_lt at (length s))
  where
    past : length s < at → InsideF (length s) (field s at least most)
    past h = rw (field_past s at least most (omega arith)) (omega arith)

-- behind a field
then : (n : ℕ) (r : Result Field Refusal) (f : Field → Result Read Refusal) → InsideF n r →
    ((x : Field) → x.end ≤ n → InsideR n (f x)) → InsideR n (r >>= f)
then n (Ok x) f h k = k x h
then n (Err e) f h k = h

module _ (s : List ℕ) where
  node_inside : InsideR (length s) (node_read s)
  unfolding node_read
  node_inside =
      then _ _ _ (field_inside s _ _ _) λ site h. h

  gpu_inside : InsideR (length s) (gpu_read s)
  unfolding gpu_read
  gpu_inside =
      then _ _ _ (field_inside s _ _ _) λ kind _.
      then _ _ _ (field_inside s _ _ _) λ memory _.
      then _ _ _ (field_inside s _ _ _) λ group _.
      then _ _ _ (field_inside s _ _ _) λ mig h. h

  quota_inside : InsideR (length s) (quota_read s)
  unfolding quota_read
  quota_inside =
      then _ _ _ (field_inside s _ _ _) λ tenant _.
      then _ _ _ (field_inside s _ _ _) λ quota h. h

  profile_inside : InsideR (length s) (profile_read s)
  unfolding profile_read
  profile_inside =
      then _ _ _ (field_inside s _ _ _) λ profile _.
      then _ _ _ (field_inside s _ _ _) λ most h. h

  job_inside : InsideR (length s) (job_read s)
  unfolding job_read
  job_inside =
      then _ _ _ (field_inside s _ _ _) λ arrival _.
      then _ _ _ (field_inside s _ _ _) λ duration _.
      then _ _ _ (field_inside s _ _ _) λ priority _.
      then _ _ _ (field_inside s _ _ _) λ count _.
      then _ _ _ (field_inside s _ _ _) λ memory _.
      then _ _ _ (field_inside s _ _ _) λ kind _.
      then _ _ _ (field_inside s _ _ _) λ site _.
      then _ _ _ (field_inside s _ _ _) λ tenant _.
      then _ _ _ (field_inside s _ _ _) λ gang _.
      then _ _ _ (field_inside s _ _ _) λ nodes _.
      then _ _ _ (field_inside s _ _ _) λ network _.
      then _ _ _ (field_inside s _ _ _) λ timeout _.
      then _ _ _ (field_inside s _ _ _) λ profile _.
      then _ _ _ (field_inside s _ _ _) λ slices h. h

  options_inside : InsideR (length s) (options_read s)
  unfolding options_read
  options_inside =
      then _ _ _ (field_inside s _ _ _) λ seconds _.
      then _ _ _ (field_inside s _ _ _) λ penalty _.
      then _ _ _ (field_inside s _ _ _) λ multiplier _.
      then _ _ _ (field_inside s _ _ _) λ best _.
      then _ _ _ (field_inside s _ _ _) λ aware h. h

  fields_inside : (kind : ℕ) → 0 < length s → InsideR (length s) (fields_read s kind)
  unfolding fields_read
  fields_inside kind h =
      let ended : Result Read Refusal = Ok (read_as End 1) in
      let six : Result Read Refusal = pick (eqb kind 6) (options_read s) ended in
      let five : Result Read Refusal = pick (eqb kind 5) (job_read s) six in
      let four : Result Read Refusal = pick (eqb kind 4) (profile_read s) five in
      let three : Result Read Refusal = pick (eqb kind 3) (quota_read s) four in
      let two : Result Read Refusal = pick (eqb kind 2) (gpu_read s) three in
      pick_either (InsideR (length s)) (eqb kind 1) (node_read s) two node_inside
      (pick_either (InsideR (length s)) (eqb kind 2) (gpu_read s) three gpu_inside
      (pick_either (InsideR (length s)) (eqb kind 3) (quota_read s) four quota_inside
      (pick_either (InsideR (length s)) (eqb kind 4) (profile_read s) five profile_inside
      (pick_either (InsideR (length s)) (eqb kind 5) (job_read s) six job_inside
      (pick_either (InsideR (length s)) (eqb kind 6) (options_read s) ended options_inside (omega arith))))))

-- a kind that is read has a byte
kind_inside : (s : List ℕ) → MatchResult (kind_read s) (λ kind. 0 < length s) (λ e. e.at ≤ length s)
unfolding kind_read field
kind_inside [] = rw number_none (omega arith)
kind_inside (b ∷ s) =
    steps (λ f. f.end ≤ length (b ∷ s)) (λ kind. 0 < length (b ∷ s)) (λ e. e.at ≤ length (b ∷ s)) (field (b ∷ s) 0 0 0xffffffffffffffff)
    (λ kind. pick (ltb Ranges.last_kind kind.value) (UnknownKind 0) (Ok kind.value)) (field_inside (b ∷ s) 0 0 0xffffffffffffffff)
    (λ kind h. pick_either (λ r. MatchResult r (λ kind. 0 < length (b ∷ s)) (λ e. e.at ≤ length (b ∷ s))) (ltb Ranges.last_kind kind.value)
    (UnknownKind 0) (Ok kind.value) (omega arith) (omega arith))

-- a record, or the place of its refusal, lies inside the bytes at hand
pub record_inside : (s : List ℕ) → InsideR (length s) (record_read s)
unfolding record_read
record_inside s =
    steps (λ kind. 0 < length s) (λ p. p.used ≤ length s) (λ e. e.at ≤ length s) (kind_read s) (fields_read s) (kind_inside s)
    (λ kind h. fields_inside s kind h)
