-- One byte string a record: the numbers that a record is stored as, that the bytes of an accepted record are those numbers' forms, and that every field lies in its range.
use Rattle.std.specs.Prelude.{◌≡◌, refl, Bool, true, false, List, [], ◌∷◌, ℕ, ◌+◌, ◌-◌, ◌*◌, ◌/◌, ◌%◌, ◌^◌, ◌≤◌, ◌<◌, ltb, eqb, take}
use Rattle.std.specs.Prelude.{Result, Ok, IfOk, ⊤}
use Rattle.std.proofs.Common.{arith, lt-ltb, le-ltb, ltb-false, eqb-true}
use Rattle.std.specs.Float.{binary64}
use Rattle.std.specs.Float.Ieee.{of_bits, to_bits}
use Rattle.std.specs.Float.Ieee.Bits.{to_bits-of_bits, nan_bits_is}
use Rattle.std.proofs.lemmas.Bool.{eqb-false}
use Rattle.std.proofs.lemmas.Result.{IfOk-weaker}
use Rattle.laws.specs.Choice.{pick, pick_cases}
use Rattle.laws.specs.Sums.{bit}
use Rattle.laws.specs.Tests.{split}
use Rattle.model.specs.Number.{bits_of}
use Rattle.model.specs.Sizes.{permitted_bits}
use Rattle.model.specs.declared.job.Ask.{Ask}
use Rattle.trace.specs.Ranges as Ranges
use Rattle.trace.specs.Answer.{UnknownKind}
use Rattle.trace.specs.AnswerLaws.{steps}
use Rattle.promises.specs.FormLaws.{Bytes, form, form_of, number_short}
use Rattle.trace.specs.Field.{Field, field}
use Rattle.promises.specs.FoundLaws.{Found, field_found, found_then, forms, Said, said_first, said_next}
use Rattle.trace.specs.Record.{read_as, priority_of, least_slices, most_slices, kind_read, fields_read, record_read}
use Rattle.trace.specs.Record.{node_read, gpu_read, quota_read, profile_read, job_read, options_read}
use Rattle.trace.specs.RecordLaws.{no_nan}
use Rattle.trace.specs.declared.answer.Refusal.{Refusal}
use Rattle.trace.specs.declared.record.Read.{Read}
use Rattle.trace.specs.declared.record.Record.{Record}
use Rattle.trace.specs.declared.record.Record.TheVariants.{End, Node, Gpu, Quota, Profile, Job, Options}

-- ---- how a record is stored

-- a priority kept as p + 2^31 is stored as 2p, or as -2p-1 when negative
abbrev pub stored_of : ℕ → ℕ
stored_of kept = pick (ltb kept 0x80000000) (2 * (0x7fffffff - kept) + 1) (2 * (kept - 0x80000000))

-- the record's kind and its fields in order, each as the number that is stored
unfoldable pub numbers_of : Record → List ℕ
numbers_of End = 0 ∷ []
numbers_of (Node site) = 1 ∷ site ∷ []
numbers_of (Gpu c) = 2 ∷ c.kind ∷ bits_of c.memory ∷ c.group ∷ bit c.mig ∷ []
numbers_of (Quota tenant quota) = 3 ∷ tenant ∷ quota ∷ []
numbers_of (Profile profile most) = 4 ∷ profile ∷ most ∷ []
numbers_of (Job a) = 5 ∷ bits_of a.arrival ∷ bits_of a.duration ∷ stored_of a.priority ∷ a.count ∷ bits_of a.memory ∷ a.kind ∷ a.site ∷
    a.tenant ∷ bit a.gang ∷ a.nodes ∷ bit a.network ∷ bits_of a.timeout ∷ a.profile ∷ a.slices ∷ []
numbers_of (Options o) = 6 ∷ bits_of o.seconds ∷ bits_of o.penalty ∷ bits_of o.multiplier ∷ bit o.best ∷ bit o.aware ∷ []

-- the bytes of a record
unfoldable pub record_form : Record → List ℕ
record_form r = forms (numbers_of r)

-- ---- the ranges of a record's fields

-- of a job: a float is permitted, and slices are 0 without a profile, 1 to 64 with one
pub record AskRanged (a : Ask) : Type 0 where
  pub arrival : bits_of a.arrival ≤ permitted_bits
  pub duration : bits_of a.duration ≤ permitted_bits
  pub priority : a.priority < 2 ^ 32
  pub count : a.count ≤ Ranges.counts
  pub memory : bits_of a.memory ≤ permitted_bits
  pub kind : a.kind ≤ Ranges.types_asked
  pub site : a.site ≤ Ranges.sites
  pub tenant : a.tenant ≤ Ranges.tenants_asked
  pub nodes : a.nodes ≤ Ranges.gang_nodes
  pub timeout : bits_of a.timeout ≤ permitted_bits
  pub profile : a.profile ≤ Ranges.profiles_asked
  pub least : least_slices a.profile ≤ a.slices
  pub most : a.slices ≤ most_slices a.profile

-- of each kind of record
abbrev pub Ranged : Record → Type 0
Ranged End = Unit {0}
Ranged (Node site) = site ≤ Ranges.sites
Ranged (Gpu c) = (c.kind ≤ Ranges.types) × (bits_of c.memory ≤ permitted_bits) × (c.group ≤ Ranges.groups)
Ranged (Quota tenant quota) = (tenant ≤ Ranges.tenants) × (quota ≤ Ranges.quotas)
Ranged (Profile profile most) = (profile ≤ Ranges.profiles) × (1 ≤ most) × (most ≤ Ranges.mosts)
Ranged (Job a) = AskRanged a
Ranged (Options o) = (bits_of o.seconds ≤ permitted_bits) × (bits_of o.penalty ≤ permitted_bits) ×
    (Ranges.least_multiplier ≤ bits_of o.multiplier) × (bits_of o.multiplier ≤ Ranges.multipliers)

-- ---- what was stored comes back

-- the bits of a permitted float
pub bits_back : (n : ℕ) → n ≤ permitted_bits → to_bits binary64 (of_bits binary64 n) ≡ n
bits_back n h = to_bits-of_bits binary64 n (omega arith) (rw nan_bits_is at (no_nan n h))

-- a flag
pub flag_back : (n : ℕ) → n ≤ 1 → bit (eqb n 1) ≡ n
flag_back n h =
    split (eqb n 1)
    (λ t. let e : n ≡ 1 = eqb-true n 1 t in rw e)
    (λ t. let e : n ≡ 0 = omega (arith, eqb-false n 1 t) in rw e)

-- a priority
pub priority_back : (n : ℕ) → n ≤ Ranges.priorities → stored_of (priority_of n) ≡ n
priority_back n h =
    split (eqb (n % 2) 0)
    (λ t. let e : n % 2 ≡ 0 = eqb-true (n % 2) 0 t in
    let g : ltb (0x80000000 + n / 2) 0x80000000 ≡ false = le-ltb (0x80000000 + n / 2) 0x80000000 (omega arith) in
    rw (t, g) (omega arith))
    (λ t. let e : n % 2 ≡ 0 → ⊥ = eqb-false (n % 2) 0 t in
    let o : n % 2 ≡ 1 = omega (arith, e) in
    let g : ltb (0x7fffffff - n / 2) 0x80000000 ≡ true = lt-ltb (0x7fffffff - n / 2) 0x80000000 (omega arith) in
    rw (t, g) (omega arith))

-- a priority is kept in 32 bits
pub priority_small : (n : ℕ) → n ≤ Ranges.priorities → priority_of n < 2 ^ 32
priority_small n h =
    split (eqb (n % 2) 0)
    (λ t. rw t (omega arith))
    (λ t. rw t (omega arith))

-- ---- an accepted record

-- the record's fields lie in their ranges, it takes a byte at least, and its bytes are its form
pub record Whole (s : List ℕ) (r : Read) : Type 0 where
  pub ranged : Ranged r.found
  pub said : Said s (numbers_of r.found) r.used

-- accepted, it is whole
abbrev Good : List ℕ → Result Read Refusal → Type 0
Good s r = IfOk r (Whole s)

node_whole : (s : List ℕ) → Said s (1 ∷ []) 1 → Good s (node_read s)
unfolding node_read numbers_of
node_whole s k =
    found_then s _ _ _ _ _ λ site site-in.
    let site-said = said_next s _ _ _ _ site k site-in in
    record { ranged = site-in.high; said = site-said }

gpu_whole : (s : List ℕ) → Said s (2 ∷ []) 1 → Good s (gpu_read s)
unfolding gpu_read numbers_of
gpu_whole s k =
    found_then s _ _ _ _ _ λ kind kind-in.
    let kind-said = said_next s _ _ _ _ kind k kind-in in
    found_then s _ _ _ _ _ λ memory memory-in.
    let memory-said = said_next s _ _ _ _ memory kind-said memory-in in
    found_then s _ _ _ _ _ λ group group-in.
    let group-said = said_next s _ _ _ _ group memory-said group-in in
    found_then s _ _ _ _ _ λ mig mig-in.
    let mig-said = said_next s _ _ _ _ mig group-said mig-in in
    let memory-back : to_bits binary64 (of_bits binary64 memory.value) ≡ memory.value = bits_back memory.value memory-in.high in
    let mig-back : bit (eqb mig.value 1) ≡ mig.value = flag_back mig.value mig-in.high in
    record { ranged = (kind-in.high, rw memory-back memory-in.high, group-in.high); said = rw (memory-back, mig-back) mig-said }

quota_whole : (s : List ℕ) → Said s (3 ∷ []) 1 → Good s (quota_read s)
unfolding quota_read numbers_of
quota_whole s k =
    found_then s _ _ _ _ _ λ tenant tenant-in.
    let tenant-said = said_next s _ _ _ _ tenant k tenant-in in
    found_then s _ _ _ _ _ λ quota quota-in.
    let quota-said = said_next s _ _ _ _ quota tenant-said quota-in in
    record { ranged = (tenant-in.high, quota-in.high); said = quota-said }

profile_whole : (s : List ℕ) → Said s (4 ∷ []) 1 → Good s (profile_read s)
unfolding profile_read numbers_of
profile_whole s k =
    found_then s _ _ _ _ _ λ profile profile-in.
    let profile-said = said_next s _ _ _ _ profile k profile-in in
    found_then s _ _ _ _ _ λ most most-in.
    let most-said = said_next s _ _ _ _ most profile-said most-in in
    record { ranged = (profile-in.high, most-in.low, most-in.high); said = most-said }

job_whole : (s : List ℕ) → Said s (5 ∷ []) 1 → Good s (job_read s)
unfolding job_read numbers_of
job_whole s k =
    found_then s _ _ _ _ _ λ arrival arrival-in.
    let arrival-said = said_next s _ _ _ _ arrival k arrival-in in
    found_then s _ _ _ _ _ λ duration duration-in.
    let duration-said = said_next s _ _ _ _ duration arrival-said duration-in in
    found_then s _ _ _ _ _ λ priority priority-in.
    let priority-said = said_next s _ _ _ _ priority duration-said priority-in in
    found_then s _ _ _ _ _ λ count count-in.
    let count-said = said_next s _ _ _ _ count priority-said count-in in
    found_then s _ _ _ _ _ λ memory memory-in.
    let memory-said = said_next s _ _ _ _ memory count-said memory-in in
    found_then s _ _ _ _ _ λ kind kind-in.
    let kind-said = said_next s _ _ _ _ kind memory-said kind-in in
    found_then s _ _ _ _ _ λ site site-in.
    let site-said = said_next s _ _ _ _ site kind-said site-in in
    found_then s _ _ _ _ _ λ tenant tenant-in.
    let tenant-said = said_next s _ _ _ _ tenant site-said tenant-in in
    found_then s _ _ _ _ _ λ gang gang-in.
    let gang-said = said_next s _ _ _ _ gang tenant-said gang-in in
    found_then s _ _ _ _ _ λ nodes nodes-in.
    let nodes-said = said_next s _ _ _ _ nodes gang-said nodes-in in
    found_then s _ _ _ _ _ λ network network-in.
    let network-said = said_next s _ _ _ _ network nodes-said network-in in
    found_then s _ _ _ _ _ λ timeout timeout-in.
    let timeout-said = said_next s _ _ _ _ timeout network-said timeout-in in
    found_then s _ _ _ _ _ λ profile profile-in.
    let profile-said = said_next s _ _ _ _ profile timeout-said profile-in in
    found_then s _ _ _ _ _ λ slices slices-in.
    let slices-said = said_next s _ _ _ _ slices profile-said slices-in in
    let arrival-back : to_bits binary64 (of_bits binary64 arrival.value) ≡ arrival.value = bits_back arrival.value arrival-in.high in
    let duration-back : to_bits binary64 (of_bits binary64 duration.value) ≡ duration.value = bits_back duration.value duration-in.high in
    let priority_back : stored_of (priority_of priority.value) ≡ priority.value = priority_back priority.value priority-in.high in
    let memory-back : to_bits binary64 (of_bits binary64 memory.value) ≡ memory.value = bits_back memory.value memory-in.high in
    let gang-back : bit (eqb gang.value 1) ≡ gang.value = flag_back gang.value gang-in.high in
    let network-back : bit (eqb network.value 1) ≡ network.value = flag_back network.value network-in.high in
    let timeout-back : to_bits binary64 (of_bits binary64 timeout.value) ≡ timeout.value = bits_back timeout.value timeout-in.high in
    record {
      ranged = record {
        arrival = rw arrival-back arrival-in.high;
        duration = rw duration-back duration-in.high;
        priority = priority_small priority.value priority-in.high;
        count = count-in.high;
        memory = rw memory-back memory-in.high;
        kind = kind-in.high;
        site = site-in.high;
        tenant = tenant-in.high;
        nodes = nodes-in.high;
        timeout = rw timeout-back timeout-in.high;
        profile = profile-in.high;
        least = slices-in.low;
        most = slices-in.high;
      };
      said = rw (arrival-back, duration-back, priority_back, memory-back, gang-back, network-back, timeout-back) slices-said;
    }

options_whole : (s : List ℕ) → Said s (6 ∷ []) 1 → Good s (options_read s)
unfolding options_read numbers_of
options_whole s k =
    found_then s _ _ _ _ _ λ seconds seconds-in.
    let seconds-said = said_next s _ _ _ _ seconds k seconds-in in
    found_then s _ _ _ _ _ λ penalty penalty-in.
    let penalty-said = said_next s _ _ _ _ penalty seconds-said penalty-in in
    found_then s _ _ _ _ _ λ multiplier multiplier-in.
    let multiplier-said = said_next s _ _ _ _ multiplier penalty-said multiplier-in in
    found_then s _ _ _ _ _ λ best best-in.
    let best-said = said_next s _ _ _ _ best multiplier-said best-in in
    found_then s _ _ _ _ _ λ aware aware-in.
    let aware-said = said_next s _ _ _ _ aware best-said aware-in in
    let seconds-back : to_bits binary64 (of_bits binary64 seconds.value) ≡ seconds.value = bits_back seconds.value seconds-in.high in
    let penalty-back : to_bits binary64 (of_bits binary64 penalty.value) ≡ penalty.value = bits_back penalty.value penalty-in.high in
    let multiplier-back : to_bits binary64 (of_bits binary64 multiplier.value) ≡ multiplier.value =
    bits_back multiplier.value (omega (arith, multiplier-in.high)) in
    let best-back : bit (eqb best.value 1) ≡ best.value = flag_back best.value best-in.high in
    let aware-back : bit (eqb aware.value 1) ≡ aware.value = flag_back aware.value aware-in.high in
    record {
      ranged = (
        rw seconds-back seconds-in.high,
        rw penalty-back penalty-in.high,
        rw multiplier-back multiplier-in.low,
        rw multiplier-back multiplier-in.high,
      );
      said = rw (seconds-back, penalty-back, multiplier-back, best-back, aware-back) aware-said;
    }

-- an accepted kind is one of the seven, and takes the first byte alone
kind_found : (s : List ℕ) → IfOk (kind_read s) (λ kind. Said s (kind ∷ []) 1 × (kind ≤ Ranges.last_kind))
unfolding kind_read
kind_found s =
    steps (Found s 0 0 0xffffffffffffffff) (λ kind. Said s (kind ∷ []) 1 × (kind ≤ Ranges.last_kind)) (λ e. ⊤) (field s 0 0 0xffffffffffffffff)
    (λ kind. pick (ltb Ranges.last_kind kind.value) (UnknownKind 0) (Ok kind.value)) (field_found s 0 0 0xffffffffffffffff)
    (λ kind h. by_test kind h (ltb Ranges.last_kind kind.value) refl)
  where
    by_test : (f : Field) → Found s 0 0 0xffffffffffffffff f → (b : Bool) → ltb Ranges.last_kind f.value ≡ b →
        IfOk (pick b (UnknownKind 0) (Ok f.value)) (λ kind. Said s (kind ∷ []) 1 × (kind ≤ Ranges.last_kind))
    by_test f h true e = tt
    by_test f h false e =
        let l : f.value ≤ Ranges.last_kind = ltb-false Ranges.last_kind f.value e in
        let o : h.size ≡ 1 = number_short s f.value h.size h.reads (omega arith) in
        let z : f.end ≡ 1 = omega (arith, h.ends) in
        (rw z at (said_first s 0 0xffffffffffffffff f h), l)

fields_whole : (s : List ℕ) (kind : ℕ) → Said s (kind ∷ []) 1 → kind ≤ Ranges.last_kind → Good s (fields_read s kind)
unfolding fields_read numbers_of
fields_whole s kind t h =
    let ended : Result Read Refusal = Ok (read_as End 1) in
    let six : Result Read Refusal = pick (eqb kind 6) (options_read s) ended in
    let five : Result Read Refusal = pick (eqb kind 5) (job_read s) six in
    let four : Result Read Refusal = pick (eqb kind 4) (profile_read s) five in
    let three : Result Read Refusal = pick (eqb kind 3) (quota_read s) four in
    let two : Result Read Refusal = pick (eqb kind 2) (gpu_read s) three in
    pick_cases (Good s) (eqb kind 1) (node_read s) two (λ e. node_whole s (rw (eqb-true kind 1 e) at t))
    (λ e1. pick_cases (Good s) (eqb kind 2) (gpu_read s) three (λ e. gpu_whole s (rw (eqb-true kind 2 e) at t))
    (λ e2. pick_cases (Good s) (eqb kind 3) (quota_read s) four (λ e. quota_whole s (rw (eqb-true kind 3 e) at t))
    (λ e3. pick_cases (Good s) (eqb kind 4) (profile_read s) five (λ e. profile_whole s (rw (eqb-true kind 4 e) at t))
    (λ e4. pick_cases (Good s) (eqb kind 5) (job_read s) six (λ e. job_whole s (rw (eqb-true kind 5 e) at t))
    (λ e5. pick_cases (Good s) (eqb kind 6) (options_read s) ended (λ e. options_whole s (rw (eqb-true kind 6 e) at t))
    (λ e6. let z : kind ≡ 0 = omega (
      arith,
      eqb-false kind 1 e1,
      eqb-false kind 2 e2,
      eqb-false kind 3 e3,
      eqb-false kind 4 e4,
      eqb-false kind 5 e5,
      eqb-false kind 6 e6,
    ) in
    record { ranged = tt; said = rw z at t }))))))

-- an accepted record has every field in its range and takes a byte at least, and the bytes that it takes are its form
pub record_whole : (s : List ℕ) → IfOk (record_read s) (Whole s)
unfolding record_read
record_whole s =
    steps (λ kind. Said s (kind ∷ []) 1 × (kind ≤ Ranges.last_kind)) (Whole s) (λ e. ⊤) (kind_read s) (fields_read s) (kind_found s)
    (λ kind h. fields_whole s kind h.0 h.1)

-- whatever bytes read as a record are its form
pub record_form_lem : (s : List ℕ) → Bytes s → IfOk (record_read s) (λ r. take r.used s ≡ record_form r.found)
unfolding record_form
record_form_lem s b =
    IfOk-weaker (record_read s) (Whole s) (λ r. take r.used s ≡ forms (numbers_of r.found)) (λ r w. w.said.bytes b)
    (record_whole s)

-- the form of the end record
pub form_of_end : record_form End ≡ 0 ∷ []
unfolding record_form numbers_of forms form form_of
form_of_end = refl
