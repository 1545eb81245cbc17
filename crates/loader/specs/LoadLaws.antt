-- Laws of the turns: one turn of those that are left, and where the next begins.
use Rattle.std.specs.Prelude.{◌≡◌, List, ℕ, suc, ◌+◌, ◌-◌, ◌≤◌, ◌<◌, eqb, length, take, drop, Result, Ok, Err, MatchResult}
use Rattle.std.proofs.Common.{arith, length-drop}
use Rattle.laws.specs.Choice.{pick, pick_either}
use Rattle.laws.specs.Tables.{rest}
use Rattle.trace.specs.Answer.{EndsEarly, AfterEnd, shifted, ◌>>=◌}
use Rattle.trace.specs.Record.{record_read}
use Rattle.trace.specs.InsideLaws.{InsideR}
use Rattle.trace.proofs.InsideLaws.{record_inside}
use Rattle.trace.specs.declared.answer.Refusal.{Refusal}
use Rattle.trace.specs.declared.record.Read.{Read}
use Rattle.trace.specs.declared.record.Record.{Record}
use Rattle.loader.specs.Fault.{fault_of}
use Rattle.loader.specs.Tables.{put_record}
use Rattle.loader.specs.Load.{Turn, over, on, is_end, follow, turn, turns}
use Rattle.loader.specs.declared.loading.Tables.{Tables}

-- the record at a place, and the place of its refusal, lie inside the trace
pub read_inside : (trace : List ℕ) (at : ℕ) → at ≤ length trace →
    MatchResult (record_read (drop at trace)) (λ p. at + p.used ≤ length trace) (λ e. at + e.at ≤ length trace)
read_inside trace at h = moved (record_read (drop at trace)) (record_inside (drop at trace))
  where
    moved : (r : Result Read Refusal) → InsideR (length (drop at trace)) r →
        MatchResult r (λ p. at + p.used ≤ length trace) (λ e. at + e.at ≤ length trace)
    moved (Ok p) i = omega (arith, i, length-drop at trace)
    moved (Err e) i = omega (arith, i, length-drop at trace)

pub read_ends : (trace : List ℕ) (at : ℕ) (p : Read) → at ≤ length trace →
    record_read (take (length trace - at) (drop at trace)) ≡ Ok p → at + p.used ≤ length trace
read_ends trace at p h e =
    let f : record_read (drop at trace) ≡ Ok p = rw (rest trace at) at e in
    rw f at (read_inside trace at h)

pub read_refused : (trace : List ℕ) (at : ℕ) (e : Refusal) → at ≤ length trace →
    record_read (take (length trace - at) (drop at trace)) ≡ Err e → at + e.at ≤ length trace
read_refused trace at e h q =
    let f : record_read (drop at trace) ≡ Err e = rw (rest trace at) at q in
    rw f at (read_inside trace at h)

pub ruleset read_places = (rest, read_ends, read_refused)

-- a turn goes on at n at most
abbrev UpTo : ℕ → Turn → Type 0
UpTo n (over t) = Unit {0}
UpTo n (on at t) = at ≤ n

abbrev Within : ℕ → Result Turn Refusal → Type 0
Within n r = MatchResult r (UpTo n) (λ e. Unit {0})

follow_inside : (n at end : ℕ) (r : Record) (t : Tables) → end ≤ n → Within n (follow n at end r t)
unfolding follow
follow_inside n at end r t h =
    let put : Result Turn Refusal = fault_of t.setting t.told at r >>= (λ fine. Ok (on end (put_record t r))) in
    pick_either (Within n) (is_end r) (pick (eqb end n) (Ok (over t)) (AfterEnd end)) put
    (pick_either (Within n) (eqb end n) (Ok (over t)) (AfterEnd end) tt tt)
    (by_fault (fault_of t.setting t.told at r))
  where
    by_fault : (a : Result (Unit {0}) Refusal) → Within n (a >>= (λ fine. Ok (on end (put_record t r))))
    by_fault (Ok done) = h
    by_fault (Err e) = tt

-- the next turn begins inside the trace
pub turn_inside : (trace : List ℕ) (at : ℕ) (t : Tables) → at ≤ length trace → Within (length trace) (turn trace at t)
unfolding turn
turn_inside trace at t h = by_read (record_read (drop at trace)) (read_inside trace at h)
  where
    by_read : (r : Result Read Refusal) → MatchResult r (λ p. at + p.used ≤ length trace) (λ e. at + e.at ≤ length trace) →
        Within (length trace) (shifted at r >>= (λ read. follow (length trace) at (at + read.used) read.found t))
    by_read (Ok p) i = follow_inside (length trace) at (at + p.used) p.found t i
    by_read (Err e) i = tt

module _ (trace : List ℕ) (n i at : ℕ) (t : Tables) (more : i < n) where
  pub turns_over : (u : Tables) → turn trace at t ≡ Ok (over u) → turns (n - i) trace at t ≡ Ok u
  unfolding turns
  turns_over u h = let e : n - i ≡ suc (n - (i + 1)) = omega arith in rw (e, h)

  pub turns_refused : (r : Refusal) → turn trace at t ≡ Err r → turns (n - i) trace at t ≡ Err r
  unfolding turns
  turns_refused r h = let e : n - i ≡ suc (n - (i + 1)) = omega arith in rw (e, h)

  pub turns_on : (b : ℕ) (u : Tables) → turn trace at t ≡ Ok (on b u) → turns (n - i) trace at t ≡ turns (n - (i + 1)) trace b u
  unfolding turns
  turns_on b u h = let e : n - i ≡ suc (n - (i + 1)) = omega arith in rw (e, h)

-- no turn is left
pub turns_end : (trace : List ℕ) (n i at : ℕ) (t : Tables) → n ≤ i → turns (n - i) trace at t ≡ EndsEarly (length trace)
unfolding turns
turns_end trace n i at t h = let e : n - i ≡ 0 = omega arith in rw e
