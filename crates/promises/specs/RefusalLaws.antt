-- Every refusal is true and first: where it stands, what stands before it, and that a refused load gives the empty plan.
use Rattle.std.specs.Prelude.{◌≡◌, refl, Bool, true, false, not, ◌⊎◌, List, [], ◌∷◌, ℕ, ◌+◌, ◌≤◌, ◌<◌, ltb, eqb, length, take, drop, get_or, Ok, Err}
use Rattle.std.proofs.Common.{inl, inr, arith, lt-ltb, ltb-false, eqb-true}
use Rattle.std.proofs.lemmas.List.{length-map}
use Rattle.std.proofs.lemmas.Bool.{eqb-false, not-true}
use Rattle.laws.specs.Choice.{pick}
use Rattle.laws.specs.Lists.{all_drop}
use Rattle.model.specs.Sizes as Sizes
use Rattle.model.specs.Plan.{empty_plan}
use Rattle.model.specs.Job.{new_job}
use Rattle.model.specs.declared.job.Ask.{Ask}
use Rattle.model.specs.declared.setting.Options.{Options}
use Rattle.trace.specs.Answer.{Answer, Accepted, AfterEnd, GpuBeforeNode, Repeated, TableFull, TooLong, accepted, number_of, place_of, shifted}
use Rattle.promises.specs.FormLaws.{Bytes}
use Rattle.trace.specs.Record.{record_read}
use Rattle.promises.specs.RefusedLaws.{Refuses, refuses_number, record_told}
use Rattle.trace.specs.declared.record.Card.{Card}
use Rattle.trace.specs.declared.record.Record.{Record}
use Rattle.trace.specs.declared.record.Record.TheVariants as R
use Rattle.loader.specs.Fault.{room_for, once, on_node, fault_of}
use Rattle.loader.specs.Load.{refused, load_into, loaded, load}
use Rattle.loader.specs.LoadLaws.{read_inside}
use Rattle.promises.specs.RunLaws.{whole, Reached, Stopped, unread, faulty, after, Outcome, done, stopped, long, reached_inside, takes_inside, load_outcome}
use Rattle.promises.specs.ListedLaws.{sites_of, gpus_of, asks_of, quotas_of, mosts_of, options_of, lookup}
use Rattle.promises.specs.NothingDroppedLaws.{Holds, reached_holds}
use Rattle.promises.specs.TraceFormLaws.{forms_of, reached_forms}
use Rattle.loader.specs.declared.loading.Tables.{Tables}
use Rattle.loader.specs.declared.load.Loaded.{Loaded}

-- ---- places

-- a fault stands at its record's kind
room_place : (count size at : ℕ) → accepted (room_for count size at) ≡ false → place_of (room_for count size at) ≡ at
room_place count size at = by_test (ltb count size)
  where
    by_test : (b : Bool) → accepted (pick b Accepted (TableFull at)) ≡ false → place_of (pick b Accepted (TableFull at)) ≡ at
    by_test true h = let z : ◌≡◌ {A = ℕ} 0 1 = cc in absurd (omega arith)
    by_test false h = refl

once_place : (told : Bool) (at : ℕ) → accepted (once told at) ≡ false → place_of (once told at) ≡ at
once_place true at h = refl
once_place false at h = let z : ◌≡◌ {A = ℕ} 0 1 = cc in absurd (omega arith)

node_place : (nodes gpus at : ℕ) → accepted (on_node nodes gpus at) ≡ false → place_of (on_node nodes gpus at) ≡ at
node_place nodes gpus at = by_test (eqb nodes 0)
  where
    by_test : (b : Bool) → accepted (pick b (GpuBeforeNode at) (room_for gpus Sizes.gpus at)) ≡ false →
        place_of (pick b (GpuBeforeNode at) (room_for gpus Sizes.gpus at)) ≡ at
    by_test true h = refl
    by_test false h = room_place gpus Sizes.gpus at h

fault_place : (t : Tables) (at : ℕ) (r : Record) → accepted (fault_of t.setting t.told at r) ≡ false → place_of (fault_of t.setting t.told at r) ≡ at
fault_place t at R.End h = let z : ◌≡◌ {A = ℕ} 0 1 = cc in absurd (omega arith)
fault_place t at (R.Node site) h = room_place t.setting.nodes Sizes.nodes at h
fault_place t at (R.Gpu card) h = node_place t.setting.nodes t.setting.gpus at h
fault_place t at (R.Quota tenant quota) h = once_place (not (eqb (get_or t.setting.quotas tenant 0) 0)) at h
fault_place t at (R.Profile profile most) h = once_place (not (eqb (get_or t.setting.mosts profile 0) 0)) at h
fault_place t at (R.Job ask) h = room_place t.setting.jobs Sizes.jobs at h
fault_place t at (R.Options options) h = once_place t.told at h

-- the place of a refusal lies behind the records before it, and inside the trace
pub stopped_place : {trace : List ℕ} {at : ℕ} {t : Tables} {a : Answer} → at ≤ length trace → Stopped trace at t a → (at ≤ place_of a) × (place_of a ≤ length trace)
stopped_place {trace} {at} h (unread e f) =
    let i : at + e.at ≤ length trace = rw f at (read_inside trace at h) in
    (omega arith, i)
stopped_place {trace} {at} {t} h (faulty r k e g f) =
    let p : place_of (fault_of t.setting t.told at r) ≡ at = fault_place t at r f in
    (omega arith, omega arith)
stopped_place {trace} {at} h (after k e g) = (omega arith, takes_inside trace at R.End k e h)

-- ---- reasons

-- A true fault of a record behind these: it has no node, its table is full, or the same was given before.
pub data Faulty (rs : List Record) (at : ℕ) : Record → Answer → Type 0 where
  no_node : (card : Card) → sites_of rs ≡ [] → Faulty rs at (R.Gpu card) (GpuBeforeNode at)
  nodes_full : (site : ℕ) → length (sites_of rs) ≡ Sizes.nodes → Faulty rs at (R.Node site) (TableFull at)
  gpus_full : (card : Card) → 1 ≤ length (sites_of rs) → length (gpus_of rs) ≡ Sizes.gpus → Faulty rs at (R.Gpu card) (TableFull at)
  jobs_full : (ask : Ask) → length (asks_of rs) ≡ Sizes.jobs → Faulty rs at (R.Job ask) (TableFull at)
  tenant_again : (tenant quota : ℕ) → 1 ≤ lookup tenant (quotas_of rs) → Faulty rs at (R.Quota tenant quota) (Repeated at)
  profile_again : (profile most : ℕ) → 1 ≤ lookup profile (mosts_of rs) → Faulty rs at (R.Profile profile most) (Repeated at)
  options_again : (options : Options) → 1 ≤ length (options_of rs) → Faulty rs at (R.Options options) (Repeated at)

no_room : (count size at : ℕ) → accepted (room_for count size at) ≡ false → (room_for count size at ≡ TableFull at) × (size ≤ count)
no_room count size at = by_test (ltb count size) refl
  where
    by_test : (b : Bool) → ltb count size ≡ b → accepted (pick b Accepted (TableFull at)) ≡ false → (pick b Accepted (TableFull at) ≡ TableFull at) × (size ≤ count)
    by_test true e h = let z : ◌≡◌ {A = ℕ} 0 1 = cc in absurd (omega arith)
    by_test false e h = (refl, ltb-false count size e)

again : (told : Bool) (at : ℕ) → accepted (once told at) ≡ false → (once told at ≡ Repeated at) × (told ≡ true)
again true at h = (refl, refl)
again false at h = let z : ◌≡◌ {A = ℕ} 0 1 = cc in absurd (omega arith)

above_zero : (n : ℕ) → not (eqb n 0) ≡ true → 1 ≤ n
above_zero n h = omega (arith, eqb-false n 0 (not-true (eqb n 0) h))

length_zero : {A : Type 0} (l : List A) → length l ≡ 0 → l ≡ []
length_zero [] h = refl
length_zero (x ∷ l) h = absurd (omega arith)

gpu_true : (rs : List Record) (t : Tables) (at : ℕ) (card : Card) → Holds rs t →
    accepted (on_node t.setting.nodes t.setting.gpus at) ≡ false → Faulty rs at (R.Gpu card) (on_node t.setting.nodes t.setting.gpus at)
gpu_true rs t at card h = by_test (eqb t.setting.nodes 0) refl
  where
    by_test : (b : Bool) → eqb t.setting.nodes 0 ≡ b → accepted (pick b (GpuBeforeNode at) (room_for t.setting.gpus Sizes.gpus at)) ≡ false →
        Faulty rs at (R.Gpu card) (pick b (GpuBeforeNode at) (room_for t.setting.gpus Sizes.gpus at))
    by_test true e f = no_node card (length_zero (sites_of rs) (omega (arith, eqb-true t.setting.nodes 0 e, h.nodes.count_is)))
    by_test false e f =
        let q = no_room t.setting.gpus Sizes.gpus at f in
        rw q.0 (gpus_full card (omega (arith, eqb-false t.setting.nodes 0 e, h.nodes.count_is)) (omega (arith, q.1, h.gpus.count_is, h.gpus.room)))

-- a fault is true of the records before it
pub fault_true : (rs : List Record) (t : Tables) (at : ℕ) (r : Record) → Holds rs t → accepted (fault_of t.setting t.told at r) ≡ false →
    Faulty rs at r (fault_of t.setting t.told at r)
fault_true rs t at R.End h f = let z : ◌≡◌ {A = ℕ} 0 1 = cc in absurd (omega arith)
fault_true rs t at (R.Node site) h f =
    let q = no_room t.setting.nodes Sizes.nodes at f in
    rw q.0 (nodes_full site (omega (arith, q.1, h.nodes.count_is, h.nodes.room)))
fault_true rs t at (R.Gpu card) h f = gpu_true rs t at card h f
fault_true rs t at (R.Quota tenant quota) h f =
    let q = again (not (eqb (get_or t.setting.quotas tenant 0) 0)) at f in
    rw q.0 (tenant_again tenant quota (rw (h.quotas.each tenant) at (above_zero (get_or t.setting.quotas tenant 0) q.1)))
fault_true rs t at (R.Profile profile most) h f =
    let q = again (not (eqb (get_or t.setting.mosts profile 0) 0)) at f in
    rw q.0 (profile_again profile most (rw (h.mosts.each profile) at (above_zero (get_or t.setting.mosts profile 0) q.1)))
fault_true rs t at (R.Job ask) h f =
    let q = no_room t.setting.jobs Sizes.jobs at f in
    rw q.0 (jobs_full ask (omega (arith, q.1, h.jobs.count_is, h.jobs.room, length-map (asks_of rs) new_job)))
fault_true rs t at (R.Options options) h f =
    let q = again t.told at f in
    rw q.0 (options_again options (h.options.is_told q.1))

-- Why a load is refused at the record that begins at a place, behind these records: a number of it, a fault of it, or bytes behind the end.
pub data Because (trace : List ℕ) (rs : List Record) (at : ℕ) : Answer → Type 0 where
  by_number : (a : Answer) → Refuses (drop at trace) a → Because trace rs at (shifted at a)
  by_fault : (r : Record) (k : ℕ) (a : Answer) → record_read (drop at trace) ≡ whole r k → Faulty rs at r a → Because trace rs at a
  by_end : (k : ℕ) → record_read (drop at trace) ≡ whole R.End k → at + k < length trace → Because trace rs at (AfterEnd (at + k))

stopped_because : {trace : List ℕ} {rs : List Record} {at : ℕ} {t : Tables} {a : Answer} → Bytes trace → at ≤ length trace → Holds rs t →
    Stopped trace at t a → Because trace rs at a
stopped_because {trace} {rs} {at} b i h (unread e f) =
    let r : Refuses (drop at trace) (Err e) = rw f at (record_told (drop at trace) (all_drop (λ c. c < 256) at trace b)) in
    by_number (Err e) r
stopped_because {trace} {rs} {at} {t} b i h (faulty r k e g f) = by_fault r k (fault_of t.setting t.told at r) e (fault_true rs t at r h f)
stopped_because {trace} {rs} {at} b i h (after k e g) = by_end k e (omega (arith, takes_inside trace at R.End k e i, g))

-- ---- a refused load

-- The refusal stands behind whole records without fault, which take the bytes up to the place at and have been put into the tables; at that place it is the one that reading the record gives, or the fault of the record there, or the bytes behind the end.
pub record First (trace : List ℕ) (a : Answer) : Type 0 where
  pub records : List Record
  pub at : ℕ
  pub tables : Tables
  pub reached : Reached trace records at tables
  pub holds : Holds records tables
  pub bytes : Bytes trace → take at trace ≡ forms_of records
  pub here : Stopped trace at tables a
  pub because : Bytes trace → Because trace records at a
  pub behind : at ≤ place_of a
  pub inside : place_of a ≤ length trace
  pub fits : length trace ≤ Sizes.trace_bytes

-- The trace is too long, which is told before all else, at 65,536; or the refusal is the first.
abbrev pub Refusal : List ℕ → Answer → Type 0
Refusal trace a = ((Sizes.trace_bytes < length trace) × (a ≡ TooLong Sizes.trace_bytes)) ⊎ First trace a

-- a refusal is true and first
pub load_refusal : (trace : List ℕ) → accepted (load trace).answer ≡ false → Refusal trace (load trace).answer
unfolding refused
load_refusal trace = by_outcome (load trace) (load_outcome trace)
  where
    by_outcome : (l : Loaded) → Outcome trace l → accepted l.answer ≡ false → Refusal trace l.answer
    by_outcome l (done rs at k t f w r x) h = let z : ◌≡◌ {A = ℕ} 0 1 = cc in absurd (omega arith)
    by_outcome l (stopped rs at t a w q s) h =
        let p : (at ≤ place_of a) × (place_of a ≤ length trace) = stopped_place (reached_inside w) q in
        inr (record {
          records = rs;
          at = at;
          tables = t;
          reached = w;
          holds = reached_holds w;
          bytes = reached_forms w;
          here = q;
          because = λ b. stopped_because b (reached_inside w) (reached_holds w) q;
          behind = p.0;
          inside = p.1;
          fits = s;
        })
    by_outcome l (long s) h = inl (s, refl)

-- a refused load gives the empty plan
pub refused_empty : (trace : List ℕ) → accepted (load trace).answer ≡ false → (load trace).plan ≡ empty_plan
unfolding refused
refused_empty trace = by_outcome (load trace) (load_outcome trace)
  where
    by_outcome : (l : Loaded) → Outcome trace l → accepted l.answer ≡ false → l.plan ≡ empty_plan
    by_outcome l (done rs at k t f w r x) h = let z : ◌≡◌ {A = ℕ} 0 1 = cc in absurd (omega arith)
    by_outcome l (stopped rs at t a w q s) h = refl
    by_outcome l (long s) h = refl

-- the place of a refusal is at most the trace's length
pub refusal_inside : (trace : List ℕ) → place_of (load trace).answer ≤ length trace
unfolding refused
refusal_inside trace = by_outcome (load trace) (load_outcome trace)
  where
    by_outcome : (l : Loaded) → Outcome trace l → place_of l.answer ≤ length trace
    by_outcome l (done rs at k t f w r x) = omega arith
    by_outcome l (stopped rs at t a w q s) = (stopped_place (reached_inside w) q).1
    by_outcome l (long s) = omega arith

-- a trace over 65,536 bytes is refused as such, there, before all else
pub long_refused : (trace : List ℕ) → Sizes.trace_bytes < length trace → (load trace).answer ≡ TooLong Sizes.trace_bytes
unfolding load load_into loaded refused
long_refused trace h = rw (lt-ltb Sizes.trace_bytes (length trace) h)

-- ---- numbers and places

shifted_number : (by : ℕ) (a : Answer) → number_of (shifted by a) ≡ number_of a
shifted_number by (Ok u) = refl
shifted_number by (Err e) = refl

because_number : {trace : List ℕ} {rs : List Record} {at : ℕ} {a : Answer} → Because trace rs at a → number_of a ≤ 8
because_number {trace} {rs} {at} (by_number a r) = omega (arith, shifted_number at a, (refuses_number r).1)
because_number (by_fault r k a e f) = by_reason f
  where
    by_reason : {rs : List Record} {at : ℕ} {r : Record} {a : Answer} → Faulty rs at r a → number_of a ≤ 8
    by_reason (no_node card h) = omega arith
    by_reason (nodes_full site h) = omega arith
    by_reason (gpus_full card g h) = omega arith
    by_reason (jobs_full ask h) = omega arith
    by_reason (tenant_again tenant quota h) = omega arith
    by_reason (profile_again profile most h) = omega arith
    by_reason (options_again options h) = omega arith
because_number (by_end k e l) = omega arith

-- refusal 9 is given of a trace over 65,536 bytes alone, and its place is 65,536
pub nine_place : (trace : List ℕ) → Bytes trace → number_of (load trace).answer ≡ 9 →
    (place_of (load trace).answer ≡ Sizes.trace_bytes) × (Sizes.trace_bytes < length trace)
nine_place trace b n = by_refusal (load trace).answer n (load_refusal trace (not_accepted (load trace).answer n))
  where
    not_accepted : (a : Answer) → number_of a ≡ 9 → accepted a ≡ false
    not_accepted (Ok u) h = absurd (omega arith)
    not_accepted (Err e) h = refl

    by_refusal : (a : Answer) → number_of a ≡ 9 → Refusal trace a → (place_of a ≡ Sizes.trace_bytes) × (Sizes.trace_bytes < length trace)
    by_refusal a h (inl q) = (rw q.1, q.0)
    by_refusal a h (inr f) = absurd (omega (arith, because_number (f.because b)))
