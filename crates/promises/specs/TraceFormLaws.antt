-- One byte string a trace: an accepted trace is its records' forms and the end record, so that no two accepted traces give the same records.
use Rattle.std.specs.Prelude.{◌≡◌, refl, List, [], ◌∷◌, ◌++◌, ℕ, ◌+◌, ◌<◌, length, take, drop}
use Rattle.std.proofs.Common.{sym, ◌∙◌, take-add}
use Rattle.std.proofs.Math.Seq.{take-length}
use Rattle.laws.specs.Lists.{all_drop}
use Rattle.promises.specs.FormLaws.{Bytes}
use Rattle.trace.specs.Record.{record_read}
use Rattle.promises.specs.RecordFormLaws.{record_form, record_form_lem, form_of_end}
use Rattle.trace.specs.Answer.{Accepted}
use Rattle.trace.specs.declared.record.Record.{Record}
use Rattle.trace.specs.declared.record.Record.TheVariants as R
use Rattle.loader.specs.Load.{load}
use Rattle.promises.specs.ListedLaws.{gather, gather_snoc}
use Rattle.promises.specs.RunLaws.{whole, Reached, begin, onward, records_of, Accepts, load_accepts}
use Rattle.loader.specs.declared.loading.Tables.{Tables}

-- the records' forms, one behind the other
abbrev pub forms_of : List Record → List ℕ
forms_of rs = gather record_form rs

-- the bytes of a record that is read at a place are its form
taken_form : (trace : List ℕ) (at : ℕ) (r : Record) (k : ℕ) → Bytes trace → record_read (drop at trace) ≡ whole r k → take k (drop at trace) ≡ record_form r
taken_form trace at r k b e = rw e at (record_form_lem (drop at trace) (all_drop (λ c. c < 256) at trace b))

-- the bytes up to a place that is reached are the forms of the records read
pub reached_forms : {trace : List ℕ} {rs : List Record} {at : ℕ} {t : Tables} → Reached trace rs at t → Bytes trace → take at trace ≡ forms_of rs
unfolding gather
reached_forms begin b = refl
reached_forms {trace} (onward {rs = rs} {at = at} w r k e g f) b =
    rw (take-add at k trace, gather_snoc record_form rs r, reached_forms w b, taken_form trace at r k b e)

-- an accepted trace is the forms of its records, and the end record
pub trace_form : (trace : List ℕ) → Bytes trace → (load trace).answer ≡ Accepted → trace ≡ forms_of (records_of trace) ++ (0 ∷ [])
trace_form trace b e =
    let a : Accepts trace = load_accepts trace e in
    let q : take (a.at + a.used) trace ≡ take a.at trace ++ take a.used (drop a.at trace) = take-add a.at a.used trace in
    let w : take (length trace) trace ≡ forms_of (records_of trace) ++ (0 ∷ []) =
    rw (a.ends, reached_forms a.reached b, taken_form trace a.at R.End a.used b a.reads, form_of_end) at q in
    sym (take-length trace) ∙ w

-- two accepted traces with the same records are the same bytes
pub one_trace : (s t : List ℕ) → Bytes s → Bytes t → (load s).answer ≡ Accepted → (load t).answer ≡ Accepted → records_of s ≡ records_of t → s ≡ t
one_trace s t b c e f q =
    let m : forms_of (records_of s) ++ (0 ∷ []) ≡ forms_of (records_of t) ++ (0 ∷ []) = rw q in
    trace_form s b e ∙ m ∙ sym (trace_form t c f)
