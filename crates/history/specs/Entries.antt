-- The event room counted: entries in use, and arrivals still ahead.
use Rattle.std.specs.Prelude.{◌≡◌, refl, Bool, true, false, not, ◌&&◌, List, [], ◌∷◌, eqb, length, set}
use Rattle.std.proofs.Common.{sym, ap, ◌∙◌, arith}
use Rattle.std.proofs.Math.Logic.{⊎_elim}
use Prim.Native.Nat.{ℕ, ◌+◌, ◌≤◌, ◌<◌}
use Rattle.laws.specs.Tests.{split, never_both, le_or_lt}
use Rattle.laws.specs.Tables.{past_read}
use Rattle.laws.specs.Lists.{All, all_of}
use Rattle.laws.specs.Search.{first, first_has, first_before}
use Rattle.laws.specs.Sums.{sum_over, bit, sum_set, sum_set_le}
use Rattle.model.specs.Event.{empty_event}
use Rattle.model.specs.declared.event.Event.{Event}
use Rattle.model.specs.declared.event.EventKind.{EventKind}
use Rattle.model.specs.declared.event.EventKind.TheVariants.{Empty, Arrival, Completion, Timeout}
use Rattle.room.specs.Room.{holds, used, event_at, free_at, first_free, added, taken}

abbrev pub used_one : Event → ℕ
used_one e = bit (used e)

-- How many entries hold an event.
abbrev pub in_use : List Event → ℕ
in_use events = sum_over used_one events

abbrev pub is_arrival : EventKind → Bool
is_arrival Empty = false
is_arrival Arrival = true
is_arrival Completion = false
is_arrival Timeout = false

abbrev pub arrival_one : ℕ → Event → ℕ
arrival_one k e = bit (is_arrival e.kind && eqb e.job k)

-- How many arrivals of the job are still ahead.
abbrev pub arriving : ℕ → List Event → ℕ
arriving k events = sum_over (arrival_one k) events

-- ---- a free entry

-- where each weighs one the sum is the length
pub sum_ones : {A : Type 0} (g : A → ℕ) (l : List A) → All (λ x. g x ≡ 1) l → sum_over g l ≡ length l
unfolding sum_over
sum_ones g [] h = refl
sum_ones g (x ∷ l) h = omega (arith, h.0, sum_ones g l h.1)

used_weighs : (e : Event) → not (used e) ≡ false → used_one e ≡ 1
used_weighs e h = split (used e) (λ t. rw t) (λ f. absurd (never_both (rw f (refl {a = true})) h))

free_weighs : (k : ℕ) (e : Event) → not (used e) ≡ true → (used_one e ≡ 0) × (arrival_one k e ≡ 0)
free_weighs k e h = kinds e.kind h
  where
    kinds : (kind : EventKind) → not (holds kind) ≡ true → (bit (holds kind) ≡ 0) × (bit (is_arrival kind && eqb e.job k) ≡ 0)
    kinds Empty h = (refl, refl)
    kinds Arrival h = absurd (never_both h refl)
    kinds Completion h = absurd (never_both h refl)
    kinds Timeout h = absurd (never_both h refl)

-- the empty entry
empty_free : used empty_event ≡ false
empty_free = refl

empty_weighs : (k : ℕ) → (used_one empty_event ≡ 0) × (arrival_one k empty_event ≡ 0)
empty_weighs k = free_weighs k empty_event (ap not empty_free)

module _ (events : List Event) (size : length events ≡ 1152) where
  -- a room that is not full has a free entry
  pub free_entry : in_use events < 1152 → first_free events < 1152
  unfolding first_free
  free_entry h =
      ⊎_elim
      (λ past.
      let all : All (λ e. used_one e ≡ 1) events =
      all_of (λ e. used_one e ≡ 1) events empty_event (λ i b. used_weighs (event_at events i) (first_before (free_at events) 1152 0 i (omega arith) (omega arith))) in
      absurd (omega (arith, h, size, sum_ones used_one events all)))
      (λ inside. inside)
      (le_or_lt 1152 (first (free_at events) 1152 0))

  -- it is free
  pub entry_free : first_free events < 1152 → free_at events (first_free events) ≡ true
  unfolding first_free
  entry_free h = first_has (free_at events) 1152 0 (omega arith)

  -- an event is added
  pub added_use : (e : Event) → used e ≡ true → in_use events < 1152 → in_use (added events e) ≡ in_use events + 1
  unfolding added
  added_use e u h =
      let i : ℕ = first_free events in
      let b : i < 1152 = free_entry h in
      let s : sum_over used_one (set events i e) + used_one (event_at events i) ≡ sum_over used_one events + used_one e = sum_set used_one events i e empty_event (omega arith) in
      let z : used_one (event_at events i) ≡ 0 = (free_weighs 0 (event_at events i) (entry_free b)).0 in
      let o : used_one e ≡ 1 = rw u in
      omega (arith, s, z, o)

  -- one that is no arrival leaves the arrivals ahead as they are
  pub added_arriving : (e : Event) (k : ℕ) → is_arrival e.kind ≡ false → arriving k (added events e) ≤ arriving k events
  unfolding added
  added_arriving e k a = let z : arrival_one k e ≡ 0 = rw a in sum_set_le (arrival_one k) events (first_free events) e empty_event (omega (arith, z))

  -- an event is taken
  pub taken_use : (i : ℕ) → i < 1152 → used (event_at events i) ≡ true → in_use (taken events i) + 1 ≡ in_use events
  unfolding taken
  taken_use i b u =
      let s : sum_over used_one (set events i empty_event) + used_one (event_at events i) ≡ sum_over used_one events + used_one empty_event =
      sum_set used_one events i empty_event empty_event (omega arith) in
      let o : used_one (event_at events i) ≡ 1 = rw u in
      let z : used_one empty_event ≡ 0 = (empty_weighs 0).0 in
      omega (arith, s, o, z)

  -- the arrivals ahead without it
  pub taken_arriving : (i k : ℕ) → i < 1152 → arriving k (taken events i) + arrival_one k (event_at events i) ≡ arriving k events
  unfolding taken
  taken_arriving i k b =
      let s : sum_over (arrival_one k) (set events i empty_event) + arrival_one k (event_at events i) ≡ sum_over (arrival_one k) events + arrival_one k
      empty_event = sum_set (arrival_one k) events i empty_event empty_event (omega arith) in
      omega (arith, s, (empty_weighs k).1)

  -- an entry that holds an event is in the room
  pub used_inside : (i : ℕ) → used (event_at events i) ≡ true → i < 1152
  used_inside i u =
      ⊎_elim
      (λ past. let e : empty_event ≡ event_at events i = past_read events i empty_event (omega arith) in absurd (never_both u (ap used (sym e) ∙ empty_free)))
      (λ inside. inside)
      (le_or_lt 1152 i)
