-- The run of a load, record by record: what was read when it ended, and by what it ended.
use Rattle.std.specs.Prelude.{◌≡◌, refl, Bool, true, false, List, [], ◌∷◌, ◌++◌, ℕ, zero, suc, ◌+◌, ◌≤◌, ◌<◌, ltb, eqb, length, drop, Result, Ok, Err}
use Rattle.std.proofs.Common.{sym, ◌∙◌, append_assoc, append-nil, arith, drop_of_length-le, ltb-true, ltb-false, eqb-true}
use Rattle.std.proofs.lemmas.Bool.{eqb-false}
use Rattle.laws.specs.Choice.{pick}
use Rattle.model.specs.Sizes as Sizes
use Rattle.trace.specs.Answer.{Answer, Accepted, EndsEarly, AfterEnd, TooLong, accepted, further, shifted, ◌>>=◌}
use Rattle.trace.specs.Field.{field}
use Rattle.trace.specs.NumberLaws.{number_none}
use Rattle.trace.specs.Record.{read_as, kind_read, record_read}
use Rattle.promises.specs.RecordFormLaws.{Ranged, Whole, record_whole}
use Rattle.trace.specs.declared.answer.Refusal.{Refusal}
use Rattle.trace.specs.declared.record.Read.{Read}
use Rattle.trace.specs.declared.record.Record.{Record}
use Rattle.trace.specs.declared.record.Record.TheVariants as R
use Rattle.loader.specs.Fault.{fault_of}
use Rattle.loader.specs.Tables.{empty_tables, put_record}
use Rattle.loader.specs.Load.{Turn, over, on, plan_of, is_end, follow, turn, go_on, refused, turns, load_into, loaded, load}
use Rattle.loader.specs.LoadLaws.{read_inside}
use Rattle.loader.specs.declared.loading.Tables.{Tables}
use Rattle.loader.specs.declared.load.Loaded.{Loaded}

-- ---- what a run is

-- a whole record and the bytes that it takes
abbrev pub whole : Record → ℕ → Result Read Refusal
whole r k = Ok (read_as r k)

-- These records, whole and without fault, stand one behind the other in the bytes up to the place, and have been put into the tables in that order.
pub data Reached (trace : List ℕ) : List Record → ℕ → Tables → Type 0 where
  begin : Reached trace [] 0 empty_tables
  onward : {rs : List Record} {at : ℕ} {t : Tables} → Reached trace rs at t → (r : Record) (k : ℕ) → record_read (drop at trace) ≡ whole r k →
      is_end r ≡ false → fault_of t.setting t.told at r ≡ Accepted → Reached trace (rs ++ (r ∷ [])) (at + k) (put_record t r)

-- The refusal at a place: the record there cannot be read, or it has a fault after those before it, or it is the end and bytes follow.
pub data Stopped (trace : List ℕ) (at : ℕ) (t : Tables) : Answer → Type 0 where
  unread : (e : Refusal) → record_read (drop at trace) ≡ Err e → Stopped trace at t (shifted at (Err e))
  faulty : (r : Record) (k : ℕ) → record_read (drop at trace) ≡ whole r k → is_end r ≡ false → accepted (fault_of t.setting t.told at r) ≡ false →
      Stopped trace at t (fault_of t.setting t.told at r)
  after : (k : ℕ) → record_read (drop at trace) ≡ whole R.End k → (at + k ≡ length trace → ⊥) → Stopped trace at t (AfterEnd (at + k))

-- a record, and those behind it, up to the end record, which is left out
abbrev pub listed : Result Read Refusal → (ℕ → List Record) → List Record
listed (Ok p) rest = pick (is_end p.found) [] (p.found ∷ rest p.used)
listed (Err e) rest = []

-- The records from a place on, up to the end record.
unfoldable pub records_from : ℕ → List ℕ → ℕ → List Record
records_from zero trace at = []
records_from (suc m) trace at = listed (record_read (drop at trace)) (λ k. records_from m trace (at + k))

-- The records of a trace in order.
unfoldable pub records_of : List ℕ → List Record
records_of trace = records_from (length trace) trace 0

-- What a load came to: the end record right at the trace's end, behind all its records; or a refusal.
pub data Outcome (trace : List ℕ) : Loaded → Type 0 where
  done : (rs : List Record) (at k : ℕ) (t : Tables) → rs ≡ records_of trace → Reached trace rs at t → record_read (drop at trace) ≡ whole R.End k →
      at + k ≡ length trace → Outcome trace (record { answer = Accepted; plan = plan_of t })
  stopped : (rs : List Record) (at : ℕ) (t : Tables) (a : Answer) → Reached trace rs at t → Stopped trace at t a → length trace ≤ Sizes.trace_bytes →
      Outcome trace (refused a)
  long : Sizes.trace_bytes < length trace → Outcome trace (refused (TooLong Sizes.trace_bytes))

-- ---- one turn

-- only the end record is the end
pub end_is : (r : Record) → is_end r ≡ true → r ≡ R.End
end_is R.End h = refl
end_is (R.Node site) h = cc
end_is (R.Gpu card) h = cc
end_is (R.Quota tenant quota) h = cc
end_is (R.Profile profile most) h = cc
end_is (R.Job ask) h = cc
end_is (R.Options options) h = cc

-- no bytes give no record
pub record_none : record_read [] ≡ EndsEarly 0
unfolding record_read kind_read field
record_none = rw number_none

-- the ways of one turn
data Turned (trace : List ℕ) (at : ℕ) (t : Tables) : Result Turn Refusal → Type 0 where
  went : (r : Record) (k : ℕ) → record_read (drop at trace) ≡ whole r k → is_end r ≡ false → fault_of t.setting t.told at r ≡ Accepted →
      Turned trace at t (Ok (on (at + k) (put_record t r)))
  ended : (k : ℕ) → record_read (drop at trace) ≡ whole R.End k → at + k ≡ length trace → Turned trace at t (Ok (over t))
  stays : (e : Refusal) → Stopped trace at t (Err e) → Turned trace at t (Err e)

follow_turned : (trace : List ℕ) (at k : ℕ) (r : Record) (t : Tables) → record_read (drop at trace) ≡ whole r k → Turned trace at t (follow (length trace) at (at + k) r t)
unfolding follow
follow_turned trace at k r t e = by_end (is_end r) refl
  where
    by_length : (b : Bool) → eqb (at + k) (length trace) ≡ b → is_end r ≡ true → Turned trace at t (pick b (Ok (over t)) (AfterEnd (at + k)))
    by_length true f g = ended k (rw (end_is r g) at e) (eqb-true (at + k) (length trace) f)
    by_length false f g = stays _ (after k (rw (end_is r g) at e) (eqb-false (at + k) (length trace) f))

    by_fault : (a : Answer) → fault_of t.setting t.told at r ≡ a → is_end r ≡ false → Turned trace at t (a >>= (λ fine. Ok (on (at + k) (put_record t r))))
    by_fault (Ok u) f g = went r k e g f
    by_fault (Err x) f g =
        let s : Stopped trace at t (fault_of t.setting t.told at r) = faulty r k e g (rw f) in
        stays x (rw f at s)

    by_end : (b : Bool) → is_end r ≡ b → Turned trace at t (pick b (pick (eqb (at + k) (length trace)) (Ok (over t)) (AfterEnd (at + k)))
        (fault_of t.setting t.told at r >>= (λ fine. Ok (on (at + k) (put_record t r)))))
    by_end true g = by_length (eqb (at + k) (length trace)) refl g
    by_end false g = by_fault (fault_of t.setting t.told at r) refl g

turn_turned : (trace : List ℕ) (at : ℕ) (t : Tables) → Turned trace at t (turn trace at t)
unfolding turn
turn_turned trace at t = by_read (record_read (drop at trace)) refl
  where
    by_read : (r : Result Read Refusal) → record_read (drop at trace) ≡ r →
        Turned trace at t (shifted at r >>= (λ read. follow (length trace) at (at + read.used) read.found t))
    by_read (Ok p) e = follow_turned trace at p.used p.found t e
    by_read (Err x) e = stays (further at x) (unread x e)

-- ---- a record that is read

-- it takes a byte at least
pub takes_some : (s : List ℕ) (r : Record) (k : ℕ) → record_read s ≡ whole r k → 1 ≤ k
takes_some s r k e =
    let w : Whole s (read_as r k) = rw e at (record_whole s) in
    w.said.some

-- its fields are in their ranges
pub takes_ranged : (s : List ℕ) (r : Record) (k : ℕ) → record_read s ≡ whole r k → Ranged r
takes_ranged s r k e =
    let w : Whole s (read_as r k) = rw e at (record_whole s) in
    w.ranged

-- it ends inside the trace
pub takes_inside : (trace : List ℕ) (at : ℕ) (r : Record) (k : ℕ) → record_read (drop at trace) ≡ whole r k → at ≤ length trace → at + k ≤ length trace
takes_inside trace at r k e h = rw e at (read_inside trace at h)

-- a place that is reached lies inside the trace
pub reached_inside : {trace : List ℕ} {rs : List Record} {at : ℕ} {t : Tables} → Reached trace rs at t → at ≤ length trace
reached_inside begin = omega arith
reached_inside {trace} (onward {at = at} w r k e g f) = takes_inside trace at r k e (reached_inside w)

-- ---- all turns

-- the records from a place on, one at a time
records_on : (m : ℕ) (trace : List ℕ) (at k : ℕ) (r : Record) → record_read (drop at trace) ≡ whole r k → is_end r ≡ false →
    records_from (suc m) trace at ≡ r ∷ records_from m trace (at + k)
unfolding records_from
records_on m trace at k r e g = rw (e, g)

records_end : (m : ℕ) (trace : List ℕ) (at k : ℕ) → record_read (drop at trace) ≡ whole R.End k → records_from (suc m) trace at ≡ []
unfolding records_from
records_end m trace at k e = rw e

turns_outcome : (m : ℕ) (trace : List ℕ) (rs : List Record) (at : ℕ) (t : Tables) → Reached trace rs at t → length trace ≤ at + m →
    length trace ≤ Sizes.trace_bytes → rs ++ records_from m trace at ≡ records_of trace → Outcome trace (loaded (turns m trace at t))
unfolding turns loaded
turns_outcome zero trace rs at t w h s e =
    let i : at ≤ length trace = reached_inside w in
    let z : length trace ≡ at + 0 = omega arith in
    let d : drop at trace ≡ [] = drop_of_length-le trace {i = at} (omega arith) in
    let a : record_read (drop at trace) ≡ EndsEarly 0 = rw d record_none in
    let q : Stopped trace at t (EndsEarly (at + 0)) = unread _ a in
    rw z (stopped rs at t (EndsEarly (at + 0)) w q s)
turns_outcome (suc m) trace rs at t w h s e = by_turn (turn trace at t) (turn_turned trace at t) (turns_outcome m trace)
  where
    by_turn : (u : Result Turn Refusal) → Turned trace at t u →
        ((qs : List Record) (b : ℕ) (v : Tables) → Reached trace qs b v → length trace ≤ b + m → length trace ≤ Sizes.trace_bytes →
        qs ++ records_from m trace b ≡ records_of trace → Outcome trace (loaded (turns m trace b v))) →
        Outcome trace (loaded (u >>= (λ v. go_on v (turns m trace))))
    by_turn u (went r k f g x) i =
        let o : 1 ≤ k = takes_some (drop at trace) r k f in
        let j : (rs ++ (r ∷ [])) ++ records_from m trace (at + k) ≡ records_of trace =
        rw (append_assoc rs (r ∷ []) (records_from m trace (at + k)), ← records_on m trace at k r f g) e in
        i (rs ++ (r ∷ [])) (at + k) (put_record t r) (onward w r k f g x) (omega arith) s j
    by_turn u (ended k f x) i =
        let j : rs ≡ records_of trace = sym (append-nil rs) ∙ rw (records_end m trace at k f) at e in
        done rs at k t j w f x
    by_turn u (stays a q) i = stopped rs at t (Err a) w q s

-- every load comes to one of these
pub load_outcome : (trace : List ℕ) → Outcome trace (load trace)
unfolding load load_into loaded records_of
load_outcome trace = by_length (ltb Sizes.trace_bytes (length trace)) refl
  where
    by_length : (b : Bool) → ltb Sizes.trace_bytes (length trace) ≡ b →
        Outcome trace (loaded (pick b (TooLong Sizes.trace_bytes) (turns (length trace) trace 0 empty_tables)))
    by_length true e = long (ltb-true Sizes.trace_bytes (length trace) e)
    by_length false e = turns_outcome (length trace) trace [] 0 empty_tables begin (omega arith) (ltb-false Sizes.trace_bytes (length trace) e) refl

-- an accepted load read records up to the end record, right at the trace's end, and its plan is made of the tables that hold them
pub record Accepts (trace : List ℕ) : Type 0 where
  pub at : ℕ
  pub used : ℕ
  pub tables : Tables
  pub reached : Reached trace (records_of trace) at tables
  pub reads : record_read (drop at trace) ≡ whole R.End used
  pub ends : at + used ≡ length trace
  pub plan : (load trace).plan ≡ plan_of tables

-- a refusal is no acceptance
pub stopped_refuses : {trace : List ℕ} {at : ℕ} {t : Tables} {a : Answer} → Stopped trace at t a → accepted a ≡ false
stopped_refuses (unread e h) = refl
stopped_refuses (faulty r k e g h) = h
stopped_refuses (after k e g) = refl

-- what an accepted load has read
pub load_accepts : (trace : List ℕ) → (load trace).answer ≡ Accepted → Accepts trace
unfolding refused
load_accepts trace = by_outcome (load trace) (load_outcome trace) refl
  where
    by_outcome : (l : Loaded) → Outcome trace l → load trace ≡ l → l.answer ≡ Accepted → Accepts trace
    by_outcome l (done rs at k t f w r x) e h =
        record { at = at; used = k; tables = t; reached = rw f at w; reads = r; ends = x; plan = rw e }
    by_outcome l (stopped rs at t a w q s) e h =
        let z : accepted a ≡ true = rw h in
        let y : false ≡ true = sym (stopped_refuses q) ∙ z in
        let v : ◌≡◌ {A = ℕ} 0 1 = cc in
        absurd (omega arith)
    by_outcome l (long s) e h = let v : ◌≡◌ {A = ℕ} 0 1 = cc in absurd (omega arith)
