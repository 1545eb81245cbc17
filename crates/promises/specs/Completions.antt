-- The completions ahead, counted by job and run; an event that is queued leaves every entry in use as it is.
use Rattle.std.specs.Prelude.{◌≡◌, refl, Bool, true, false, not, ◌&&◌, List, [], ◌∷◌, ℕ, suc, ◌+◌, ◌≤◌, ◌<◌, eqb, length}
use Rattle.std.proofs.Math.Path.{sym, ap}
use Rattle.std.proofs.Common.{◌∙◌, arith, eqb-true, eq-eqb}
use Rattle.std.proofs.Math.Logic.{⊎_elim}
use Rattle.std.proofs.Math.ListN.{set, length-set}
use Rattle.std.proofs.Math.Seq.{get_or-set_same, get_or-set_other}
use Rattle.laws.specs.Tests.{never_both, and_both, le_or_lt, eq_or_ne}
use Rattle.laws.specs.Tables.{past_read, past_put}
use Rattle.laws.specs.Sums.{sum_over, bit, sum_set, sum_kept, sum_at}
use Rattle.model.specs.Event.{empty_event}
use Rattle.model.specs.declared.event.Event.{Event}
use Rattle.model.specs.declared.event.EventKind.{EventKind}
use Rattle.model.specs.declared.event.EventKind.TheVariants.{Empty, Arrival, Completion, Timeout}
use Rattle.room.specs.Room.{used, event_at, first_free, added, taken}
use Rattle.history.specs.Entries.{in_use, used_one, free_entry, entry_free, used_inside}

abbrev pub is_completion : EventKind → Bool
is_completion Empty = false
is_completion Arrival = false
is_completion Completion = true
is_completion Timeout = false

-- one for the completion of the job's run of that generation
abbrev pub end_one : ℕ → ℕ → Event → ℕ
end_one j g e = bit (is_completion e.kind && (eqb e.job j && eqb e.generation g))

-- How many completions of the job's run of that generation are ahead.
abbrev pub completions_of : ℕ → ℕ → List Event → ℕ
completions_of j g events = sum_over (end_one j g) events

-- it is the completion of the job's run of that generation
pub record EndOf (j g : ℕ) (e : Event) : Type 0 where
  pub kind : e.kind ≡ Completion
  pub job : e.job ≡ j
  pub generation : e.generation ≡ g

-- ---- one event

completion_only : (kind : EventKind) → is_completion kind ≡ true → kind ≡ Completion
completion_only Empty h = absurd (never_both h refl)
completion_only Arrival h = absurd (never_both h refl)
completion_only Completion h = refl
completion_only Timeout h = absurd (never_both h refl)

bit_one : (b : Bool) → 0 < bit b → b ≡ true
bit_one true h = refl
bit_one false h = absurd (omega arith)

-- what weighs something is that
pub end_is : (j g : ℕ) (e : Event) → 0 < end_one j g e → EndOf j g e
end_is j g e h =
    let a : (is_completion e.kind ≡ true) × (eqb e.job j && eqb e.generation g ≡ true) =
    and_both (is_completion e.kind) (eqb e.job j && eqb e.generation g) (bit_one _ h) in
    let b : (eqb e.job j ≡ true) × (eqb e.generation g ≡ true) = and_both (eqb e.job j) (eqb e.generation g) a.1 in
    record { kind = completion_only e.kind a.0; job = eqb-true e.job j b.0; generation = eqb-true e.generation g b.1 }

-- and weighs one
pub end_weighs : (j g : ℕ) (e : Event) → EndOf j g e → end_one j g e ≡ 1
end_weighs j g e h = rw (h.kind, eq-eqb e.job j h.job, eq-eqb e.generation g h.generation)

-- every other event weighs nothing
pub end_not : (j g : ℕ) (e : Event) → (EndOf j g e → ⊥) → end_one j g e ≡ 0
end_not j g e n = ⊎_elim (λ l. omega (arith, l)) (λ l. absurd (n (end_is j g e l))) (le_or_lt (end_one j g e) 0)

-- it is in use
pub end_used : (j g : ℕ) (e : Event) → EndOf j g e → used e ≡ true
end_used j g e h = rw h.kind

-- an entry that holds no event weighs nothing
free_weighs : (j g : ℕ) (e : Event) → used e ≡ false → (end_one j g e ≡ 0) × (used_one e ≡ 0)
free_weighs j g e h = (end_not j g e (λ x. never_both (end_used j g e x) h), ap bit h)

-- ---- the room

not_not : (b : Bool) → not b ≡ true → b ≡ false
not_not true h = absurd (never_both h refl)
not_not false h = refl

module _ (events : List Event) (size : length events ≡ 1152) where
  -- the entry that is filled next, if any is left, holds no event
  free_unused : used (event_at events (first_free events)) ≡ false
  free_unused =
      ⊎_elim
      (λ past. let e : empty_event ≡ event_at events (first_free events) = past_read events (first_free events) empty_event (omega arith) in ap used (sym e))
      (λ inside. not_not (used (event_at events (first_free events))) (entry_free events size inside))
      (le_or_lt 1152 (first_free events))

  -- an entry in use stays as it is
  pub added_stays : (e : Event) (i : ℕ) → used (event_at events i) ≡ true → event_at (added events e) i ≡ event_at events i
  unfolding added
  added_stays e i u =
      get_or-set_other events (first_free events) i e empty_event (λ s. never_both u (ap (λ (k : ℕ). used (event_at events k)) s ∙ free_unused))

  pub added_size : (e : Event) → length (added events e) ≡ 1152
  unfolding added
  added_size e = length-set events (first_free events) e ∙ size

  -- no fewer are in use
  pub added_more : (e : Event) → in_use events ≤ in_use (added events e)
  unfolding added
  added_more e =
      ⊎_elim
      (λ past. let s : events ≡ set events (first_free events) e = past_put events (first_free events) e (omega arith) in omega (arith, ap in_use s))
      (λ inside. omega (arith, sum_set used_one events (first_free events) e empty_event (omega arith), (free_weighs 0 0 (event_at events (first_free events)) free_unused).1))
      (le_or_lt 1152 (first_free events))

  -- what is no completion of the run leaves the count
  pub added_other : (j g : ℕ) (e : Event) → end_one j g e ≡ 0 → completions_of j g (added events e) ≡ completions_of j g events
  unfolding added
  added_other j g e z =
      sum_kept (end_one j g) events (first_free events) e empty_event (z ∙ sym (free_weighs j g (event_at events (first_free events)) free_unused).0)

  module _ (room : in_use events < 1152) where
    -- where there is room a completion counts
    pub added_end : (j g : ℕ) (e : Event) → end_one j g e ≡ 1 → completions_of j g (added events e) ≡ completions_of j g events + 1
    unfolding added
    added_end j g e o =
        let s : sum_over (end_one j g) (set events (first_free events) e) + end_one j g (event_at events (first_free events)) ≡ sum_over (end_one j g) events
        + end_one j g e = sum_set (end_one j g) events (first_free events) e empty_event (omega (arith, free_entry events size room)) in
        omega (arith, s, o, (free_weighs j g (event_at events (first_free events)) free_unused).0)

    -- and stands in the room
    pub added_there : (e : Event) → event_at (added events e) (first_free events) ≡ e
    unfolding added
    added_there e = get_or-set_same events (first_free events) e empty_event (omega (arith, size, free_entry events size room))

  -- the event that is taken goes
  pub taken_end : (i j g : ℕ) → i < 1152 → completions_of j g (taken events i) + end_one j g (event_at events i) ≡ completions_of j g events
  unfolding taken
  taken_end i j g b =
      let s : sum_over (end_one j g) (set events i empty_event) + end_one j g (event_at events i) ≡ sum_over (end_one j g) events + end_one j g empty_event =
      sum_set (end_one j g) events i empty_event empty_event (omega arith) in
      omega (arith, s, (free_weighs j g empty_event refl).0)

  -- the others stay
  pub taken_stays : (i k : ℕ) → (k ≡ i → ⊥) → event_at (taken events i) k ≡ event_at events k
  unfolding taken
  taken_stays i k n = get_or-set_other events i k empty_event empty_event n

  -- where only one is counted two entries are the same
  pub end_once : (j g i k : ℕ) → completions_of j g events ≡ 1 → EndOf j g (event_at events i) → EndOf j g (event_at events k) → k ≡ i
  unfolding taken
  end_once j g i k one a b =
      ⊎_elim
      (λ e. e)
      (λ n.
      let l : i < 1152 = used_inside events size i (end_used j g (event_at events i) a) in
      let m : k < 1152 = used_inside events size k (end_used j g (event_at events k) b) in
      let s : end_one j g (event_at (taken events i) k) ≤ completions_of j g (taken events i) =
      sum_at (end_one j g) (taken events i) k empty_event (omega (arith, m, size, length-set events i empty_event)) in
      let w : end_one j g (event_at (taken events i) k) ≡ 1 = ap (end_one j g) (taken_stays i k n) ∙ end_weighs j g (event_at events k) b in
      absurd (omega (arith, one, s, w, taken_end i j g l, end_weighs j g (event_at events i) a)))
      (eq_or_ne k i)

-- an entry that is found
pub record Found (j g : ℕ) (events : List Event) : Type 0 where
  pub entry : ℕ
  pub is : EndOf j g (event_at events entry)

-- where some are counted there is one
pub end_found : (j g : ℕ) (events : List Event) → 0 < completions_of j g events → Found j g events
unfolding sum_over
end_found j g [] h = absurd (omega arith)
end_found j g (e ∷ events) h =
    ⊎_elim
    (λ none. let f : Found j g events = end_found j g events (omega (arith, h, none)) in record { entry = suc f.entry; is = f.is })
    (λ some. record { entry = 0; is = end_is j g e some })
    (le_or_lt (end_one j g e) 0)
