-- What cutting a GPU and giving its slices keep and change.
use Rattle.std.specs.Prelude.{◌≡◌, refl, ◌⊎◌, false, List, ℕ, ◌+◌, ◌*◌, ◌<◌, ◌≤◌, min, eqb, take, replicate}
use Rattle.std.proofs.Common.{sym, ◌∙◌, ⊎_elim, length-take, length-take-le, get_or-take}
use Rattle.std.proofs.Math.Path.{ap}
use Rattle.std.proofs.Math.Logic.{inl, inr}
use Rattle.std.proofs.Math.Bool.{true}
use native.Mathlib.Omega.{arith}
use Rattle.std.proofs.Math.ListN.{length, get_or}
use Rattle.std.proofs.lemmas.List.{get_or-replicate}
use borrow.Author.Tests.{eqb-true, eq-eqb, ne_eqb, ltb-false}
use Rattle.laws.specs.Tests.{split, and_both, both_and}
use Rattle.laws.specs.Lists.{All, Distinct, all_weaken, all_take, distinct_take}
use Rattle.laws.specs.Search.{has, has_at, has_take, those, those_in, those_each, those_all, those_length, those_distinct}
use Rattle.laws.specs.Sums.{sum_over}
use Rattle.model.specs.declared.gpu.Gpu.{Gpu}
use Rattle.mig.specs.More.{those_every, put, put_length, put_other, put_in, put_sum}
use Rattle.mig.specs.Owner.{idle}
use Rattle.mig.specs.OwnerLaws.{is_of, owned_slices}
use Rattle.mig.specs.Slices.{cut, slice_count, free_slice, free_on, free_slices, cut_anew, with_owners, given_slices}

-- ---- free slices

-- a free slice is one of the GPU's slices, of the profile, and nobody's
pub free_in : (g : Gpu) (profile k : ℕ) → has k (free_on g profile) ≡ true →
    (k < g.slices) × (k < 7) × (g.profile ≡ profile) × (get_or g.owners k 0 ≡ 0)
unfolding free_on
free_in g profile k h =
    let r : (0 ≤ k) × (k < 0 + slice_count g) × (free_slice g profile k ≡ true) = those_in (free_slice g profile) (slice_count g) 0 k h in
    let b : (eqb g.profile profile ≡ true) × (eqb (get_or g.owners k 0) 0 ≡ true) =
    and_both (eqb g.profile profile) (eqb (get_or g.owners k 0) 0) r.2 in
    (omega arith, omega arith, eqb-true g.profile profile b.0, eqb-true (get_or g.owners k 0) 0 b.1)

-- an uncut GPU has none
pub free_uncut : (g : Gpu) (profile : ℕ) → cut g ≡ false → free_slices g profile ≡ 0
unfolding free_on
free_uncut g profile h = omega (arith, those_length (free_slice g profile) (slice_count g) 0, ltb-false 0 g.slices h)

-- ---- cut anew

-- each slice of the new cut is free
cut_each : (g : Gpu) (profile slices k : ℕ) → k < 7 → free_slice (cut_anew g profile slices) profile k ≡ true
unfolding cut_anew
cut_each g profile slices k h =
    both_and (eqb profile profile) (eqb (get_or (replicate 7 0) k 0) 0) (eq-eqb profile profile refl)
    (eq-eqb (get_or (replicate 7 0) k 0) 0 (get_or-replicate 7 k 0 0 h))

-- so many slices of the new cut are free
pub cut_free : (g : Gpu) (profile slices : ℕ) → free_slices (cut_anew g profile slices) profile ≡ min slices 7
unfolding free_on cut_anew
cut_free g profile slices =
    those_all (free_slice (cut_anew g profile slices) profile) (min slices 7) 0 (λ k a b. cut_each g profile slices k (omega arith))

-- they are numbered from 0 on
pub cut_numbers : (g : Gpu) (profile slices k d : ℕ) → k < min slices 7 → get_or (free_on (cut_anew g profile slices) profile) k d ≡ k
unfolding free_on cut_anew
cut_numbers g profile slices k d h =
    let e : 0 + k ≡ k = omega arith in
    those_every (free_slice (cut_anew g profile slices) profile) (min slices 7) 0 k d (λ j a b. cut_each g profile slices j (omega arith)) h ∙ e

-- it has seven slice owners
pub cut_sized : (g : Gpu) (profile slices : ℕ) → length (cut_anew g profile slices).owners ≡ 7
unfolding cut_anew
cut_sized g profile slices = refl

-- nobody owns it
pub cut_owner : (g : Gpu) (profile slices : ℕ) → (cut_anew g profile slices).owner ≡ 0
unfolding cut_anew
cut_owner g profile slices = refl

-- nobody holds anything of it
pub cut_idle : (g : Gpu) (profile slices : ℕ) → idle (cut_anew g profile slices) ≡ true
unfolding idle cut_anew
cut_idle g profile slices = refl

-- ---- given

-- How a GPU may look after its free slices were given: only slice owners differ, and each is as before, or was free and is the owner's.
pub record Given (profile owner : ℕ) (g h : Gpu) : Type 0 where
  pub rest : h ≡ with_owners g h.owners
  pub slice : (k : ℕ) → (get_or h.owners k 0 ≡ get_or g.owners k 0) ⊎ ((has k (free_on g profile) ≡ true) × (get_or h.owners k 0 ≡ owner))

-- a GPU that gave nothing
pub given_same : (profile owner : ℕ) (g : Gpu) → Given profile owner g g
given_same profile owner g = record { rest = refl; slice = λ k. inl refl }

-- the GPU's owner stays
pub given_owner : (profile owner : ℕ) (g h : Gpu) → Given profile owner g h → h.owner ≡ g.owner
given_owner profile owner g h a = ap (λ (x : Gpu). x.owner) a.rest

-- any other owner has a slice after exactly if it had it before
pub given_slice : (profile owner other k : ℕ) (g h : Gpu) → 0 < other → (other ≡ owner → ⊥) → Given profile owner g h →
    eqb (get_or h.owners k 0) other ≡ eqb (get_or g.owners k 0) other
given_slice profile owner other k g h o d a =
    ⊎_elim
    (λ e. rw e)
    (λ e. let z : get_or g.owners k 0 ≡ 0 = (free_in g profile k e.0).3 in
    let y : get_or h.owners k 0 ≡ owner = e.1 in
    rw (y, z, ne_eqb owner other (λ q. d (sym q)), ne_eqb 0 other (λ q. omega arith)))
    (a.slice k)

-- a GPU that gives none stays as it is
pub given_none : (g : Gpu) (profile owner : ℕ) → given_slices g profile 0 owner ≡ g
unfolding given_slices put
given_none g profile owner = refl

module _ (g : Gpu) (profile most owner : ℕ) (sized : length g.owners ≡ 7) where
  -- giving does that
  pub given_is : Given profile owner g (given_slices g profile most owner)
  unfolding given_slices
  given_is =
      record {
        rest = refl;
        slice = λ k. split
            (has k (take most (free_on g profile)))
            (λ e. let h : has k (free_on g profile) ≡ true = has_take k most (free_on g profile) e in
            inr (h, put_in owner (take most (free_on g profile)) g.owners k 0 (omega (arith, (free_in g profile k h).1)) e))
            (λ e. inl (put_other owner (take most (free_on g profile)) g.owners k 0 e));
      }

  -- the seven owners stay seven
  pub given_sized : length (given_slices g profile most owner).owners ≡ 7
  unfolding given_slices
  given_sized = put_length owner (take most (free_on g profile)) g.owners ∙ sized

  chosen : (w : ℕ → ℕ) → w 0 ≡ 0 → All (λ i. (i < length g.owners) × (w (get_or g.owners i 0) ≡ 0)) (take most (free_on g profile))
  unfolding free_on
  chosen w z =
      all_weaken
      (λ k. (0 ≤ k) × (k < 0 + slice_count g) × (free_slice g profile k ≡ true))
      (λ i. (i < length g.owners) × (w (get_or g.owners i 0) ≡ 0))
      (take most (those (free_slice g profile) (slice_count g) 0))
      (λ k h. let b : get_or g.owners k 0 ≡ 0 =
      eqb-true (get_or g.owners k 0) 0 (and_both (eqb g.profile profile) (eqb (get_or g.owners k 0) 0) h.2).1 in (omega (arith, h.1), ap w b ∙ z))
      (all_take (λ k. (0 ≤ k) × (k < 0 + slice_count g) × (free_slice g profile k ≡ true)) most (those (free_slice g profile) (slice_count g) 0)
      (those_each (free_slice g profile) (slice_count g) 0))

  single : Distinct (take most (free_on g profile))
  unfolding free_on
  single = distinct_take most (those (free_slice g profile) (slice_count g) 0) (those_distinct (free_slice g profile) (slice_count g) 0)

  -- the owner holds so many more
  pub given_gain : 0 < owner → most ≤ free_slices g profile → owned_slices owner (given_slices g profile most owner) ≡ owned_slices owner g + most
  unfolding given_slices owned_slices
  given_gain o h =
      let s : sum_over (is_of owner) (put g.owners (take most (free_on g profile)) owner) ≡ sum_over (is_of owner) g.owners + length
      (take most (free_on g profile)) * is_of owner owner =
      put_sum owner (is_of owner) 0 (take most (free_on g profile)) g.owners single (chosen (is_of owner) (rw (ne_eqb 0 owner (λ e. omega arith)))) in
      let e : is_of owner owner ≡ 1 = rw (eq-eqb owner owner refl) in
      let t : sum_over (is_of owner) (put g.owners (take most (free_on g profile)) owner) ≡ sum_over (is_of owner) g.owners + most * 1 =
      rw (length-take-le most (free_on g profile) h, e) at s in
      omega arith

  -- any other owner holds as many as before
  pub given_other : (other : ℕ) → 0 < other → (other ≡ owner → ⊥) → owned_slices other (given_slices g profile most owner) ≡ owned_slices other g
  unfolding given_slices owned_slices
  given_other other o n =
      let s : sum_over (is_of other) (put g.owners (take most (free_on g profile)) owner) ≡ sum_over (is_of other) g.owners + length
      (take most (free_on g profile)) * is_of other owner =
      put_sum owner (is_of other) 0 (take most (free_on g profile)) g.owners single (chosen (is_of other) (rw (ne_eqb 0 other (λ e. omega arith)))) in
      let e : is_of other owner ≡ 0 = rw (ne_eqb owner other (λ z. n (sym z))) in
      let t : sum_over (is_of other) (put g.owners (take most (free_on g profile)) owner) ≡ sum_over (is_of other) g.owners + length
      (take most (free_on g profile)) * 0 = rw e at s in
      omega arith

-- of a new cut the first slices are given, from slice 0 on
pub new_first : (g : Gpu) (profile slices most owner k : ℕ) → k < most → k < min slices 7 →
    get_or (given_slices (cut_anew g profile slices) profile most owner).owners k 0 ≡ owner
unfolding given_slices
new_first g profile slices most owner k h l =
    let f : List ℕ = free_on (cut_anew g profile slices) profile in
    let n : length (take most f) ≡ min most (length f) = length-take most f in
    let e : get_or (take most f) k 0 ≡ k = get_or-take most f k 0 h ∙ cut_numbers g profile slices k 0 l in
    let m : has k (take most f) ≡ true = rw e at (has_at (take most f) k 0 (omega (arith, cut_free g profile slices))) in
    put_in owner (take most f) (cut_anew g profile slices).owners k 0 (omega (arith, cut_sized g profile slices)) m
