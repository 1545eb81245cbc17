-- The load is decided by its run: records without fault up to the end record at the trace's end are loaded, and a refusal behind records without fault is the load's.
use Rattle.std.specs.Prelude.{◌≡◌, refl, false, List, [], ◌∷◌, ◌++◌, ℕ, zero, suc, ◌+◌, ◌-◌, ◌≤◌, ◌<◌, length, drop, Result, Ok, Err, is_ok}
use Rattle.std.proofs.Common.{sym, ap, ◌∙◌, arith, length-append, drop_of_length-le, le-ltb, eq-eqb, ne_eqb}
use Rattle.model.specs.Sizes as Sizes
use Rattle.trace.specs.Answer.{Answer, Accepted, EndsEarly, accepted, ◌>>=◌}
use Rattle.trace.specs.Record.{record_read}
use Rattle.trace.specs.declared.answer.Fault.TheVariants as F
use Rattle.trace.specs.declared.answer.Refusal.{Refusal}
use Rattle.trace.specs.declared.record.Read.{Read}
use Rattle.trace.specs.declared.record.Record.{Record}
use Rattle.trace.specs.declared.record.Record.TheVariants as R
use Rattle.loader.specs.Fault.{fault_of}
use Rattle.loader.specs.Tables.{empty_tables, put_record}
use Rattle.loader.specs.Load.{over, on, plan_of, is_end, follow, turn, refused, turns, load_into, loaded, load}
use Rattle.promises.specs.RunLaws.{whole, Reached, begin, onward, Stopped, unread, faulty, after, record_none, takes_some, takes_inside, reached_inside, stopped_refuses}
use Rattle.loader.specs.declared.loading.Tables.{Tables}

-- ---- one turn

turn_on_lem : (trace : List ℕ) (at k : ℕ) (r : Record) (t : Tables) → record_read (drop at trace) ≡ whole r k → is_end r ≡ false →
    fault_of t.setting t.told at r ≡ Accepted → turn trace at t ≡ Ok (on (at + k) (put_record t r))
unfolding turn follow
turn_on_lem trace at k r t e g f = rw (e, g, f)

turn_done : (trace : List ℕ) (at k : ℕ) (t : Tables) → record_read (drop at trace) ≡ whole R.End k → at + k ≡ length trace → turn trace at t ≡ Ok (over t)
unfolding turn follow
turn_done trace at k t e h = rw (e, eq-eqb (at + k) (length trace) h)

-- what follows a refusal does not matter
behind_refusal : {A B : Type 0} (a : Result A Refusal) (f g : A → Result B Refusal) → is_ok a ≡ false → (a >>= f) ≡ (a >>= g)
behind_refusal (Ok x) f g h = let z : ◌≡◌ {A = ℕ} 0 1 = cc in absurd (omega arith)
behind_refusal (Err e) f g h = refl

turn_stopped : {trace : List ℕ} {at : ℕ} {t : Tables} {a : Answer} → Stopped trace at t a → turn trace at t ≡ (a >>= (λ done. Ok (over t)))
unfolding turn follow
turn_stopped (unread x e) = rw e
turn_stopped {trace} {at} {t} (faulty r k e g f) =
    rw (e, g) (behind_refusal (fault_of t.setting t.told at r) (λ fine. Ok (on (at + k) (put_record t r))) (λ done. Ok (over t)) f)
turn_stopped {trace} {at} (after k e g) = rw (e, ne_eqb (at + k) (length trace) g)

-- ---- all turns

module _ (m : ℕ) (trace : List ℕ) (at : ℕ) (t : Tables) where
  turns_step : (b : ℕ) (v : Tables) → turn trace at t ≡ Ok (on b v) → turns (suc m) trace at t ≡ turns m trace b v
  unfolding turns
  turns_step b v e = rw e

  turns_stop : (a : Answer) → accepted a ≡ false → turn trace at t ≡ (a >>= (λ done. Ok (over t))) → loaded (turns (suc m) trace at t) ≡ refused a
  unfolding turns loaded
  turns_stop (Ok done) h e = let z : ◌≡◌ {A = ℕ} 0 1 = cc in absurd (omega arith)
  turns_stop (Err x) h e = rw e

  turns_done : turn trace at t ≡ Ok (over t) → loaded (turns (suc m) trace at t) ≡ record { answer = Accepted; plan = plan_of t }
  unfolding turns loaded
  turns_done e = rw e

-- a record a turn, and a byte at least a record
reached_count : {trace : List ℕ} {rs : List Record} {at : ℕ} {t : Tables} → Reached trace rs at t → length rs ≤ at
reached_count begin = omega arith
reached_count {trace} (onward {rs} {at} {t} w r k e g f) =
    let i : length rs ≤ at = reached_count w in
    let o : 1 ≤ k = takes_some (drop at trace) r k e in
    rw (length-append rs (r ∷ [])) (omega (arith, i, o))

left_over_lem : (n l m : ℕ) → m ≡ l + 1 → l < n → n - l ≡ suc (n - m)
left_over_lem n l m e h = omega arith

-- a place that is reached is reached by the load
reached_turns : {trace : List ℕ} {rs : List Record} {at : ℕ} {t : Tables} → Reached trace rs at t →
    turns (length trace) trace 0 empty_tables ≡ turns (length trace - length rs) trace at t
reached_turns {trace} begin = nothing (length trace) trace
  where
    nothing : (n : ℕ) (trace : List ℕ) → turns n trace 0 empty_tables ≡ turns (n - 0) trace 0 empty_tables
    nothing n trace = let e : n - 0 ≡ n = omega arith in rw e
reached_turns {trace} (onward {rs} {at} {t} w r k e g f) =
    one_more trace rs at t r k (reached_turns w) (reached_count w) (takes_some (drop at trace) r k e)
    (takes_inside trace at r k e (reached_inside w)) (turn_on_lem trace at k r t e g f)
  where
    one_more : (trace : List ℕ) (rs : List Record) (at : ℕ) (t : Tables) (r : Record) (k : ℕ) →
        turns (length trace) trace 0 empty_tables ≡ turns (length trace - length rs) trace at t → length rs ≤ at → 1 ≤ k → at + k ≤ length trace →
        turn trace at t ≡ Ok (on (at + k) (put_record t r)) →
        turns (length trace) trace 0 empty_tables ≡ turns (length trace - length (rs ++ (r ∷ []))) trace (at + k) (put_record t r)
    one_more trace rs at t r k i c o s u =
        let l : length rs < length trace = omega (arith, c, o, s) in
        let n : length trace - length rs ≡ suc (length trace - length (rs ++ (r ∷ []))) =
        left_over_lem (length trace) (length rs) (length (rs ++ (r ∷ []))) (length-append rs (r ∷ [])) l in
        let q : turns (length trace) trace 0 empty_tables ≡ turns (suc (length trace - length (rs ++ (r ∷ [])))) trace at t = rw n at i in
        q ∙ turns_step (length trace - length (rs ++ (r ∷ []))) trace at t (at + k) (put_record t r) u

load_turns : (trace : List ℕ) → length trace ≤ Sizes.trace_bytes → load trace ≡ loaded (turns (length trace) trace 0 empty_tables)
unfolding load load_into
load_turns trace h = rw (le-ltb Sizes.trace_bytes (length trace) h)

-- at the trace's end only its early end can be told
stopped_end : {trace : List ℕ} {at : ℕ} {t : Tables} {a : Answer} → length trace ≡ at + 0 → Stopped trace at t a → refused (EndsEarly (length trace)) ≡ refused a
stopped_end {trace} {at} {t} {a} h q = by_way q
  where
    d : drop at trace ≡ []
    d = drop_of_length-le trace {i = at} (omega arith)

    x : record_read (drop at trace) ≡ EndsEarly 0
    x = rw d record_none

    never : (r : Record) (k : ℕ) → record_read (drop at trace) ≡ whole r k → ⊥
    never r k e = let v : EndsEarly 0 ≡ whole r k = sym x ∙ e in let z : ◌≡◌ {A = ℕ} 0 1 = cc in omega arith

    by_way : {b : Answer} → Stopped trace at t b → refused (EndsEarly (length trace)) ≡ refused b
    by_way (unread y f) =
        let q : EndsEarly {A = Read} 0 ≡ Err y = sym x ∙ f in
        let v : record { fault = F.EndsEarly; at = 0 } ≡ y = cc in
        rw (← v, h)
    by_way (faulty r k e g f) = absurd (never r k e)
    by_way (after k e g) = absurd (never R.End k e)

-- a refusal behind records without fault is the load's
pub stopped_load : {trace : List ℕ} {rs : List Record} {at : ℕ} {t : Tables} {a : Answer} → Reached trace rs at t → Stopped trace at t a →
    length trace ≤ Sizes.trace_bytes → load trace ≡ refused a
unfolding turns loaded
stopped_load {trace} {rs} {at} {t} {a} w q h = load_turns trace h ∙ by_left (length trace - length rs) refl (reached_turns w)
  where
    by_left : (m : ℕ) → length trace - length rs ≡ m → turns (length trace) trace 0 empty_tables ≡ turns m trace at t →
        loaded (turns (length trace) trace 0 empty_tables) ≡ refused a
    by_left zero n i = ap loaded i ∙ stopped_end (omega (arith, n, reached_count w, reached_inside w)) q
    by_left (suc m) n i = ap loaded i ∙ turns_stop m trace at t a (stopped_refuses q) (turn_stopped q)

-- records without fault up to the end record at the trace's end are loaded
pub done_load : {trace : List ℕ} {rs : List Record} {at : ℕ} {t : Tables} → Reached trace rs at t → (k : ℕ) →
    record_read (drop at trace) ≡ whole R.End k → at + k ≡ length trace → length trace ≤ Sizes.trace_bytes → load trace ≡ record { answer = Accepted; plan = plan_of t }
done_load {trace} {rs} {at} {t} w k e x h = load_turns trace h ∙ by_left (length trace - length rs) refl (reached_turns w)
  where
    by_left : (m : ℕ) → length trace - length rs ≡ m → turns (length trace) trace 0 empty_tables ≡ turns m trace at t →
        loaded (turns (length trace) trace 0 empty_tables) ≡ record { answer = Accepted; plan = plan_of t }
    by_left zero n i = absurd (omega (arith, n, x, reached_count w, takes_some (drop at trace) R.End k e))
    by_left (suc m) n i = ap loaded i ∙ turns_done m trace at t (turn_done trace at k t e x)
