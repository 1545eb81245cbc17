-- A refusal of a record is true and first: it names the earliest number that is cut off, not of the shortest form, over 64 bits or out of its range, and every number before it is whole and in its range.
use Rattle.std.specs.Prelude.{◌≡◌, refl, Bool, true, false, List, [], ◌∷◌, ◌++◌, ℕ, ◌+◌, ◌^◌, ◌≤◌, ◌<◌, ltb, eqb, length, get_or, take, drop, Result, Ok, Err, IfErr, MatchResult, ⊤}
use Rattle.std.proofs.Common.{arith, take-add, le-ltb, ltb-true, ltb-false, eqb-true}
use Rattle.laws.specs.Choice.{pick, pick_cases}
use Rattle.laws.specs.Lists.{all_drop}
use Rattle.model.specs.Sizes.{permitted_bits}
use Rattle.trace.specs.Ranges as Ranges
use Rattle.trace.specs.Answer.{Answer, EndsEarly, BadNumber, OutOfRange, UnknownKind, number_of, ◌>>=◌}
use Rattle.trace.specs.AnswerLaws.{steps}
use Rattle.trace.specs.Number.{Number, Value, Ends, Padded, Oversized, number}
use Rattle.promises.specs.FormLaws.{Bytes, reads_form, number_short}
use Rattle.trace.specs.Field.{Field, field, got, ranged}
use Rattle.promises.specs.FoundLaws.{forms, forms_snoc}
use Rattle.trace.specs.Record.{read_as, least_slices, most_slices, kind_read, fields_read, record_read}
use Rattle.trace.specs.Record.{node_read, gpu_read, quota_read, profile_read, job_read, options_read}
use Rattle.trace.specs.declared.answer.Refusal.{Refusal}
use Rattle.trace.specs.declared.number.NumberFault.TheVariants as N
use Rattle.trace.specs.declared.record.Read.{Read}
use Rattle.trace.specs.declared.record.Record.TheVariants.{End}

-- ---- the ranges, field by field

-- from least to most
pub record Range : Type 0 where
  pub least : ℕ
  pub most : ℕ

abbrev range : ℕ → ℕ → Range
range least most = record { least = least; most = most }

-- the ranges of a kind's fields in order; those of a job's slices go by the number before them, its profile
unfoldable pub ranges_of : ℕ → ℕ → List Range
ranges_of kind before =
    pick (eqb kind 1) (range 0 Ranges.sites ∷ [])
    (pick (eqb kind 2) (range 0 Ranges.types ∷ range 0 permitted_bits ∷ range 0 Ranges.groups ∷ range 0 Ranges.flag ∷ [])
    (pick (eqb kind 3) (range 0 Ranges.tenants ∷ range 0 Ranges.quotas ∷ [])
    (pick (eqb kind 4) (range 0 Ranges.profiles ∷ range 1 Ranges.mosts ∷ [])
    (pick (eqb kind 5) (range 0 permitted_bits ∷ range 0 permitted_bits ∷ range 0 Ranges.priorities ∷ range 0 Ranges.counts ∷ range 0 permitted_bits ∷
    range 0 Ranges.types_asked ∷ range 0 Ranges.sites ∷ range 0 Ranges.tenants_asked ∷ range 0 Ranges.flag ∷ range 0 Ranges.gang_nodes ∷ range 0
    Ranges.flag ∷ range 0 permitted_bits ∷ range 0 Ranges.profiles_asked ∷ range (least_slices before) (most_slices before) ∷ [])
    (pick (eqb kind 6) (range 0 permitted_bits ∷ range 0 permitted_bits ∷ range Ranges.least_multiplier Ranges.multipliers ∷ range 0 Ranges.flag ∷ range 0 Ranges.flag ∷ [])
    [])))))

-- the range of the number behind these of a record: first a kind, then its fields in order
unfoldable pub range_after : List ℕ → Range
range_after [] = range 0 Ranges.last_kind
range_after (kind ∷ ns) = get_or (ranges_of kind (get_or (kind ∷ ns) (length ns) 0)) (length ns) (range 0 0)

-- a number more is due behind these: a kind, or a field of that kind
abbrev pub Due : List ℕ → Type 0
Due [] = Unit {0}
Due (kind ∷ ns) = length ns < length (ranges_of kind 0)

-- ---- what stands before a refusal, and what it says

-- The bytes up to a place are these numbers of a record, each whole and in its range.
pub data Fields (s : List ℕ) : List ℕ → ℕ → Type 0 where
  none : Fields s [] 0
  more : {ns : List ℕ} {at : ℕ} → Fields s ns at → Due ns → (v k : ℕ) → number (drop at s) ≡ Value v k → (range_after ns).least ≤ v →
      v ≤ (range_after ns).most → Fields s (ns ++ (v ∷ [])) (at + k)

-- A true refusal of the number behind them.
pub data Refuses (s : List ℕ) : Answer → Type 0 where
  cut : (ns : List ℕ) (at : ℕ) → Fields s ns at → Due ns → number (drop at s) ≡ Ends → Refuses s (EndsEarly (length s))
  longer : (ns : List ℕ) (at : ℕ) → Fields s ns at → Due ns → number (drop at s) ≡ Padded → Refuses s (BadNumber at)
  larger : (ns : List ℕ) (at : ℕ) → Fields s ns at → Due ns → number (drop at s) ≡ Oversized → Refuses s (BadNumber at)
  unknown : (v k : ℕ) → number s ≡ Value v k → Ranges.last_kind < v → Refuses s (UnknownKind 0)
  below : (kind : ℕ) (ns : List ℕ) (at v k : ℕ) → Fields s (kind ∷ ns) at → Due (kind ∷ ns) → number (drop at s) ≡ Value v k →
      v < (range_after (kind ∷ ns)).least → Refuses s (OutOfRange at)
  over : (kind : ℕ) (ns : List ℕ) (at v k : ℕ) → Fields s (kind ∷ ns) at → Due (kind ∷ ns) → number (drop at s) ≡ Value v k →
      (range_after (kind ∷ ns)).most < v → Refuses s (OutOfRange at)

-- the numbers' forms are those bytes
pub fields_forms : {s ns : List ℕ} {at : ℕ} → Fields s ns at → Bytes s → take at s ≡ forms ns
unfolding forms
fields_forms none b = refl
fields_forms {s} (more {ns} {at} w d v k e l h) b =
    rw (take-add at k s, forms_snoc ns v, fields_forms w b, (reads_form v k (drop at s) (all_drop (λ c. c < 256) at s b) e).1)

-- a refusal of a record is none of those that follow its last field
pub refuses_number : {s : List ℕ} {a : Answer} → Refuses s a → (1 ≤ number_of a) × (number_of a ≤ 4)
refuses_number (cut ns at w d e) = (omega arith, omega arith)
refuses_number (longer ns at w d e) = (omega arith, omega arith)
refuses_number (larger ns at w d e) = (omega arith, omega arith)
refuses_number (unknown v k e h) = (omega arith, omega arith)
refuses_number (below kind ns at v k w d e h) = (omega arith, omega arith)
refuses_number (over kind ns at v k w d e h) = (omega arith, omega arith)

-- ---- a field and the next

ranged_told : (s : List ℕ) (kind : ℕ) (ns : List ℕ) (at : ℕ) (r : Number) → Fields s (kind ∷ ns) at → Due (kind ∷ ns) → number (drop at s) ≡ r →
    MatchResult (ranged (length s) at (range_after (kind ∷ ns)).least (range_after (kind ∷ ns)).most r)
    (λ f. Fields s (kind ∷ (ns ++ (f.value ∷ []))) f.end) (λ e. Refuses s (Err e))
ranged_told s kind ns at (Ok p) w d e = by_test (ltb p.0 (range_after (kind ∷ ns)).least) (ltb (range_after (kind ∷ ns)).most p.0) refl refl
  where
    by_test : (x y : Bool) → ltb p.0 (range_after (kind ∷ ns)).least ≡ x → ltb (range_after (kind ∷ ns)).most p.0 ≡ y →
        MatchResult (pick x (OutOfRange at) (pick y (OutOfRange at) (Ok (got p.0 (at + p.1)))))
        (λ f. Fields s (kind ∷ (ns ++ (f.value ∷ []))) f.end) (λ e. Refuses s (Err e))
    by_test true y f g = below kind ns at p.0 p.1 w d e (ltb-true p.0 (range_after (kind ∷ ns)).least f)
    by_test false true f g = over kind ns at p.0 p.1 w d e (ltb-true (range_after (kind ∷ ns)).most p.0 g)
    by_test false false f g = more w d p.0 p.1 e (ltb-false p.0 (range_after (kind ∷ ns)).least f) (ltb-false (range_after (kind ∷ ns)).most p.0 g)
ranged_told s kind ns at (Err N.Ends) w d e = cut (kind ∷ ns) at w d e
ranged_told s kind ns at (Err N.Padded) w d e = longer (kind ∷ ns) at w d e
ranged_told s kind ns at (Err N.Oversized) w d e = larger (kind ∷ ns) at w d e

-- a field behind these numbers is one of them, or truly refused
field_told : (s : List ℕ) (kind : ℕ) (ns : List ℕ) (at least most : ℕ) → Fields s (kind ∷ ns) at → Due (kind ∷ ns) →
    range_after (kind ∷ ns) ≡ range least most →
    MatchResult (field s at least most) (λ f. Fields s (kind ∷ (ns ++ (f.value ∷ []))) f.end) (λ e. Refuses s (Err e))
unfolding field
field_told s kind ns at least most w d e = rw e at (ranged_told s kind ns at (number (drop at s)) w d refl)

-- ---- the records

-- accepted, or truly refused
abbrev Honest : List ℕ → Result Read Refusal → Type 0
Honest s r = IfErr r (λ e. Refuses s (Err e))

-- a field, and what is read behind it
told_then : (s : List ℕ) (kind : ℕ) (ns : List ℕ) (at least most : ℕ) (f : Field → Result Read Refusal) → Fields s (kind ∷ ns) at → Due (kind ∷ ns) →
    range_after (kind ∷ ns) ≡ range least most → ((x : Field) → Fields s (kind ∷ (ns ++ (x.value ∷ []))) x.end → Honest s (f x)) →
    Honest s (field s at least most >>= f)
told_then s kind ns at least most f w d e k = by_field (field s at least most) (field_told s kind ns at least most w d e)
  where
    by_field : (r : Result Field Refusal) → MatchResult r (λ x. Fields s (kind ∷ (ns ++ (x.value ∷ []))) x.end) (λ x. Refuses s (Err x)) → Honest s (r >>= f)
    by_field (Ok x) h = k x h
    by_field (Err x) h = h

node_told : (s : List ℕ) → Fields s (1 ∷ []) 1 → Honest s (node_read s)
unfolding node_read range_after ranges_of
node_told s w =
    told_then s 1 [] _ _ _ _ w (omega arith) refl λ site site-in. tt

gpu_told : (s : List ℕ) → Fields s (2 ∷ []) 1 → Honest s (gpu_read s)
unfolding gpu_read range_after ranges_of
gpu_told s w =
    told_then s 2 [] _ _ _ _ w (omega arith) refl λ kind kind-in.
    told_then s 2 (kind.value ∷ []) _ _ _ _ kind-in (omega arith) refl λ memory memory-in.
    told_then s 2 (kind.value ∷ memory.value ∷ []) _ _ _ _ memory-in (omega arith) refl λ group group-in.
    told_then s 2 (kind.value ∷ memory.value ∷ group.value ∷ []) _ _ _ _ group-in (omega arith) refl λ mig mig-in. tt

quota_told : (s : List ℕ) → Fields s (3 ∷ []) 1 → Honest s (quota_read s)
unfolding quota_read range_after ranges_of
quota_told s w =
    told_then s 3 [] _ _ _ _ w (omega arith) refl λ tenant tenant-in.
    told_then s 3 (tenant.value ∷ []) _ _ _ _ tenant-in (omega arith) refl λ quota quota-in. tt

profile_told : (s : List ℕ) → Fields s (4 ∷ []) 1 → Honest s (profile_read s)
unfolding profile_read range_after ranges_of
profile_told s w =
    told_then s 4 [] _ _ _ _ w (omega arith) refl λ profile profile-in.
    told_then s 4 (profile.value ∷ []) _ _ _ _ profile-in (omega arith) refl λ most most-in. tt

job_told : (s : List ℕ) → Fields s (5 ∷ []) 1 → Honest s (job_read s)
unfolding job_read range_after ranges_of
job_told s w =
    told_then s 5 [] _ _ _ _ w (omega arith) refl λ arrival arrival-in.
    told_then s 5 (arrival.value ∷ []) _ _ _ _ arrival-in (omega arith) refl λ duration duration-in.
    told_then s 5 (arrival.value ∷ duration.value ∷ []) _ _ _ _ duration-in (omega arith) refl λ priority priority-in.
    told_then s 5 (arrival.value ∷ duration.value ∷ priority.value ∷ []) _ _ _ _ priority-in (omega arith) refl λ count count-in.
    told_then s 5 (arrival.value ∷ duration.value ∷ priority.value ∷ count.value ∷ []) _ _ _ _ count-in (omega arith) refl λ memory memory-in.
    told_then s 5 (arrival.value ∷ duration.value ∷ priority.value ∷ count.value ∷ memory.value ∷ []) _ _ _ _ memory-in (omega arith) refl λ kind kind-in.
    told_then s 5 (arrival.value ∷ duration.value ∷ priority.value ∷ count.value ∷ memory.value ∷ kind.value ∷ []) _ _ _ _ kind-in (omega arith) refl λ site site-in.
    told_then s 5 (arrival.value ∷ duration.value ∷ priority.value ∷ count.value ∷ memory.value ∷ kind.value ∷ site.value ∷ []) _ _ _ _ site-in (omega arith) refl λ tenant tenant-in.
    told_then s 5 (arrival.value ∷ duration.value ∷ priority.value ∷ count.value ∷ memory.value ∷ kind.value ∷ site.value ∷ tenant.value ∷ []) _ _ _ _ tenant-in (omega arith) refl λ gang gang-in.
    told_then s 5 (arrival.value ∷ duration.value ∷ priority.value ∷ count.value ∷ memory.value ∷ kind.value ∷ site.value ∷ tenant.value ∷ gang.value ∷ []) _ _ _ _ gang-in (omega arith) refl λ nodes nodes-in.
    told_then s 5 (arrival.value ∷ duration.value ∷ priority.value ∷ count.value ∷ memory.value ∷ kind.value ∷ site.value ∷ tenant.value ∷ gang.value ∷ nodes.value ∷ []) _ _ _ _ nodes-in (omega arith) refl λ network network-in.
    told_then s 5 (arrival.value ∷ duration.value ∷ priority.value ∷ count.value ∷ memory.value ∷ kind.value ∷ site.value ∷ tenant.value ∷ gang.value ∷ nodes.value ∷ network.value ∷ []) _ _ _ _ network-in (omega arith) refl λ timeout timeout-in.
    told_then s 5 (arrival.value ∷ duration.value ∷ priority.value ∷ count.value ∷ memory.value ∷ kind.value ∷ site.value ∷ tenant.value ∷ gang.value ∷ nodes.value ∷ network.value ∷ timeout.value ∷ []) _ _ _ _ timeout-in (omega arith) refl λ profile profile-in.
    told_then s 5 (arrival.value ∷ duration.value ∷ priority.value ∷ count.value ∷ memory.value ∷ kind.value ∷ site.value ∷ tenant.value ∷ gang.value ∷ nodes.value ∷ network.value ∷ timeout.value ∷ profile.value ∷ []) _ _ _ _ profile-in (omega arith) refl λ slices slices-in. tt

options_told : (s : List ℕ) → Fields s (6 ∷ []) 1 → Honest s (options_read s)
unfolding options_read range_after ranges_of
options_told s w =
    told_then s 6 [] _ _ _ _ w (omega arith) refl λ seconds seconds-in.
    told_then s 6 (seconds.value ∷ []) _ _ _ _ seconds-in (omega arith) refl λ penalty penalty-in.
    told_then s 6 (seconds.value ∷ penalty.value ∷ []) _ _ _ _ penalty-in (omega arith) refl λ multiplier multiplier-in.
    told_then s 6 (seconds.value ∷ penalty.value ∷ multiplier.value ∷ []) _ _ _ _ multiplier-in (omega arith) refl λ best best-in.
    told_then s 6 (seconds.value ∷ penalty.value ∷ multiplier.value ∷ best.value ∷ []) _ _ _ _ best-in (omega arith) refl λ aware aware-in. tt

fields_told : (s : List ℕ) (kind : ℕ) → Fields s (kind ∷ []) 1 → Honest s (fields_read s kind)
unfolding fields_read
fields_told s kind w =
    let ended : Result Read Refusal = Ok (read_as End 1) in
    let six : Result Read Refusal = pick (eqb kind 6) (options_read s) ended in
    let five : Result Read Refusal = pick (eqb kind 5) (job_read s) six in
    let four : Result Read Refusal = pick (eqb kind 4) (profile_read s) five in
    let three : Result Read Refusal = pick (eqb kind 3) (quota_read s) four in
    let two : Result Read Refusal = pick (eqb kind 2) (gpu_read s) three in
    pick_cases (Honest s) (eqb kind 1) (node_read s) two (λ e. node_told s (rw (eqb-true kind 1 e) at w))
    (λ e1. pick_cases (Honest s) (eqb kind 2) (gpu_read s) three (λ e. gpu_told s (rw (eqb-true kind 2 e) at w))
    (λ e2. pick_cases (Honest s) (eqb kind 3) (quota_read s) four (λ e. quota_told s (rw (eqb-true kind 3 e) at w))
    (λ e3. pick_cases (Honest s) (eqb kind 4) (profile_read s) five (λ e. profile_told s (rw (eqb-true kind 4 e) at w))
    (λ e4. pick_cases (Honest s) (eqb kind 5) (job_read s) six (λ e. job_told s (rw (eqb-true kind 5 e) at w))
    (λ e5. pick_cases (Honest s) (eqb kind 6) (options_read s) ended (λ e. options_told s (rw (eqb-true kind 6 e) at w))
    (λ e6. tt))))))

-- a record's kind: its first number, 6 at most, or truly refused
abbrev Headed : List ℕ → Result ℕ Refusal → Type 0
Headed s r = MatchResult r (λ kind. Fields s (kind ∷ []) 1) (λ e. Refuses s (Err e))

kind_told : (s : List ℕ) → Bytes s → Headed s (kind_read s)
unfolding kind_read field range_after
kind_told s b = by_number (number s) refl
  where
    by_kind : (v n : ℕ) (x : Bool) → number s ≡ Value v n → ltb Ranges.last_kind v ≡ x → Headed s (pick x (UnknownKind 0) (Ok v))
    by_kind v n true e f = unknown v n e (ltb-true Ranges.last_kind v f)
    by_kind v n false e f =
        let l : v ≤ Ranges.last_kind = ltb-false Ranges.last_kind v f in
        let o : 0 + n ≡ 1 = omega (arith, number_short s v n e (omega arith)) in
        let w : Fields s (v ∷ []) (0 + n) = more none tt v n e (omega arith) l in
        rw o at w

    by_number : (r : Number) → number s ≡ r →
        Headed s (ranged (length s) 0 0 0xffffffffffffffff r >>= (λ kind. pick (ltb Ranges.last_kind kind.value) (UnknownKind 0) (Ok kind.value)))
    by_number (Ok p) e =
        let m : p.0 < 2 ^ 64 = (reads_form p.0 p.1 s b e).0 in
        let z : ltb p.0 0 ≡ false = le-ltb p.0 0 (omega arith) in
        let y : ltb 0xffffffffffffffff p.0 ≡ false = le-ltb 0xffffffffffffffff p.0 (omega arith) in
        rw (z, y) (by_kind p.0 p.1 (ltb Ranges.last_kind p.0) e refl)
    by_number (Err N.Ends) e = cut [] 0 none tt e
    by_number (Err N.Padded) e = longer [] 0 none tt e
    by_number (Err N.Oversized) e = larger [] 0 none tt e

-- a record is accepted, or its refusal is true and every number before it whole and in range
pub record_told : (s : List ℕ) → Bytes s → IfErr (record_read s) (λ e. Refuses s (Err e))
unfolding record_read
record_told s b =
    steps (λ kind. Fields s (kind ∷ []) 1) (λ r. ⊤) (λ e. Refuses s (Err e)) (kind_read s) (fields_read s) (kind_told s b) (λ kind w. fields_told s kind w)
