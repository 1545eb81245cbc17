-- Laws of the top: the least event below it is the least, and it stays right when an event is taken and others are added.
use Rattle.std.specs.Prelude.{◌≡◌, ℕ, zero, suc, ◌+◌, ◌-◌, ◌<◌, ◌≤◌, min, Bool, true, false, List, ◌≢◌, slice_set}
use Rattle.std.proofs.Math.Path.{refl}
use Rattle.std.proofs.Common.{sym, ap, ◌∙◌, ⊎_elim, get_or-set_other}
use native.Mathlib.Omega.{arith}
use Rattle.laws.specs.Choice.{pick}
use Rattle.laws.specs.Tests.{never_both, fails, eq_or_ne}
use Rattle.laws.specs.Lists.{set_related}
use Rattle.laws.specs.Search.{first, first_range, first_has, first_least}
use Rattle.laws.specs.Greatest.{best}
use Rattle.model.specs.Sizes as Sizes
use Rattle.model.specs.Event.{empty_event}
use Rattle.model.specs.declared.event.Event.{Event}
use Rattle.room.specs.Room.{used, event_at, ahead_at, least, free_at, first_free, added, taken}
use Rattle.room.specs.RoomLaws.{free_not, free_is, empty_behind}
use Rattle.room.specs.Top.{free_from, least_under, top_after, Grown}

-- ---- the least event

module _ (ahead : ℕ → ℕ → Bool) where
  -- where none of the range is ahead the best so far stays
  best_idle : (m i b : ℕ) → ((k c : ℕ) → i ≤ k → k < i + m → ahead k c ≡ false) → best ahead m i b ≡ b
  unfolding best
  best_idle zero i b f = refl
  best_idle (suc m) i b f =
      rw (f i b (omega arith) (omega arith)) (best_idle m (i + 1) b (λ k c l h. f k c (omega arith) (omega arith)))

  -- so it is the best of a part of the range, if none behind is ahead
  best_part : (m n i b : ℕ) → ((k c : ℕ) → i + m ≤ k → k < i + (m + n) → ahead k c ≡ false) → best ahead m i b ≡ best ahead (m + n) i b
  unfolding best
  best_part zero n i b f = let e : 0 + n ≡ n = omega arith in rw e (sym (best_idle n i b (λ k c l h. f k c (omega arith) (omega arith))))
  best_part (suc m) n i b f =
      let e : suc m + n ≡ suc (m + n) = omega arith in
      rw e (best_part m n (i + 1) (pick (ahead i b) i b) (λ k c l h. f k c (omega arith) (omega arith)))

-- An entry that is free is never the least event, so the scan may end at the top.
pub least_under_lem : (top : ℕ) (events : List Event) → free_from top events → least_under top events ≡ least events
unfolding least_under least
least_under_lem top events free =
    let m : ℕ = min top Sizes.events - 1 in
    let e : m + (1151 - m) ≡ 1151 = omega arith in
    best_part (ahead_at events) m (1151 - m) 1 0 (λ k c l h. empty_behind events k c (free k (omega arith) (omega arith))) ∙ ap (λ (n : ℕ). best (ahead_at events) n 1 0) e

-- ---- an event is taken, and others are added

-- that no entry from the top on is used says too that there is no gap
pub grown_free : (top : ℕ) (events : List Event) → free_from top events → Grown top events
grown_free top events free i j t l h e = free j (omega arith) h

pub taken_free : (top : ℕ) (events : List Event) (at : ℕ) → free_from top events → free_from top (taken events at)
unfolding taken
taken_free top events at free i t h =
    set_related events at empty_event empty_event (λ x y. used x ≡ false → used y ≡ false) (λ x e. e) (λ e. refl) i (free i t h)

-- Whatever is added goes into the first free entry, so it leaves no gap.
pub added_grown : (top : ℕ) (events : List Event) (x : Event) → Grown top events → Grown top (added events x)
unfolding added first_free
added_grown top events x grown i j t l h e =
    let k : ℕ = first (free_at events) Sizes.events 0 in
    let other : (n : ℕ) → (n ≢ k) → event_at (slice_set events k x) n ≡ event_at events n = λ n d. get_or-set_other events k n x empty_event d in
    ⊎_elim
    (λ s. let s : j ≡ k = s in
    ⊎_elim
    (λ r. let same : j ≡ i = s ∙ sym r in rw same e)
    (λ r. let o : used (event_at events i) ≡ false = sym (ap used (other i r)) ∙ e in
    absurd (r (omega (arith, first_least (free_at events) Sizes.events 0 i (omega arith) (free_is events i o)))))
    (eq_or_ne i k))
    (λ s. ap used (other j s) ∙
    ⊎_elim
    (λ r. let r : i ≡ k = r in
    let f : free_at events k ≡ true = first_has (free_at events) Sizes.events 0 (omega arith) in
    grown i j t l h (fails (used (event_at events i)) (λ u. never_both (rw r f) (free_not events i u))))
    (λ r. grown i j t l h (sym (ap used (other i r)) ∙ e))
    (eq_or_ne i k))
    (eq_or_ne j k)

-- The first free entry from the top on is the next top.
pub top_free : (top : ℕ) (events : List Event) → Grown top events → free_from (top_after events top) events
unfolding top_after
top_free top events grown i t h =
    let k : ℕ = first (free_at events) (Sizes.events - top) top in
    let r : (top ≤ k) × (k ≤ top + (Sizes.events - top)) = first_range (free_at events) (Sizes.events - top) top in
    let f : free_at events k ≡ true = first_has (free_at events) (Sizes.events - top) top (omega arith) in
    grown k i r.0 t h (fails (used (event_at events k)) (λ u. never_both f (free_not events k u)))

-- it stays inside the room
pub top_inside : (top : ℕ) (events : List Event) → top ≤ Sizes.events → top_after events top ≤ Sizes.events
unfolding top_after
top_inside top events h = omega (arith, (first_range (free_at events) (Sizes.events - top) top).1)
