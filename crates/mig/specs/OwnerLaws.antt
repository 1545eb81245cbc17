-- What idle GPUs and freeing keep and change.
use Rattle.std.specs.Prelude.{◌≡◌, refl, true, List, [], ◌∷◌, map, ℕ, zero, suc, ◌<◌, eqb, get_or}
use Rattle.std.proofs.Common.{arith, eqb-true, eq-eqb, ne_eqb}
use Rattle.laws.specs.Tests.{split, and_both, never_both}
use Rattle.laws.specs.Lists.{All}
use Rattle.laws.specs.Sums.{sum_over, bit}
use Rattle.model.specs.declared.gpu.Gpu.{Gpu}
use Rattle.mig.specs.Owner.{nobodys, idle, without_owner, freed}

-- Whether this is the owner, counted.
abbrev pub is_of : ℕ → ℕ → ℕ
is_of owner x = bit (eqb x owner)

-- How many slices of a GPU the owner holds.
unfoldable pub owned_slices : ℕ → Gpu → ℕ
owned_slices owner g = sum_over (is_of owner) g.owners

-- ---- idle

-- a slice of a GPU that nobody holds slices of
pub nobodys_at : (l : List ℕ) (k : ℕ) → nobodys l ≡ true → get_or l k 0 ≡ 0
nobodys_at [] k h = refl
nobodys_at (x ∷ l) zero h = eqb-true x 0 (and_both (eqb x 0) (nobodys l) h).0
nobodys_at (x ∷ l) (suc k) h = nobodys_at l k (and_both (eqb x 0) (nobodys l) h).1

-- no owner holds any of them
pub nobodys_sum : (owner : ℕ) (l : List ℕ) → 0 < owner → nobodys l ≡ true → sum_over (is_of owner) l ≡ 0
unfolding sum_over
nobodys_sum owner [] o h = refl
nobodys_sum owner (x ∷ l) o h =
    let a : x ≡ 0 = eqb-true x 0 (and_both (eqb x 0) (nobodys l) h).0 in
    rw (ne_eqb x owner (λ e. omega arith)) (omega (arith, nobodys_sum owner l o (and_both (eqb x 0) (nobodys l) h).1))

-- an idle GPU has no owner
pub idle_owner : (g : Gpu) → idle g ≡ true → g.owner ≡ 0
unfolding idle
idle_owner g h = eqb-true g.owner 0 (and_both (eqb g.owner 0) (nobodys g.owners) h).0

-- none of its slices has one
pub idle_slice : (g : Gpu) (k : ℕ) → idle g ≡ true → get_or g.owners k 0 ≡ 0
unfolding idle
idle_slice g k h = nobodys_at g.owners k (and_both (eqb g.owner 0) (nobodys g.owners) h).1

-- no owner holds a slice of it
pub idle_none : (owner : ℕ) (g : Gpu) → 0 < owner → idle g ≡ true → owned_slices owner g ≡ 0
unfolding idle owned_slices
idle_none owner g o h = nobodys_sum owner g.owners o (and_both (eqb g.owner 0) (nobodys g.owners) h).1

-- ---- freeing

-- the owner's becomes nobody's
pub without_same : (owner : ℕ) → without_owner owner owner ≡ 0
without_same owner = rw (eq-eqb owner owner refl)

-- any other's stays
pub without_other : (owner x : ℕ) → (x ≡ owner → ⊥) → without_owner owner x ≡ x
without_other owner x h = rw (ne_eqb x owner h)

-- what is left is not the owner's
pub without_gone : (owner x : ℕ) → 0 < owner → without_owner owner x ≡ owner → ⊥
without_gone owner x o =
    split (eqb x owner) (λ e. rw e (λ z. omega arith)) (λ e. rw e (λ z. never_both (eq-eqb x owner z) e))

-- none of the slices is the owner's after
pub without_sum : (owner : ℕ) (l : List ℕ) → 0 < owner → sum_over (is_of owner) (map (without_owner owner) l) ≡ 0
unfolding sum_over
without_sum owner [] o = refl
without_sum owner (x ∷ l) o = rw (ne_eqb (without_owner owner x) owner (without_gone owner x o)) (omega (arith, without_sum owner l o))

-- slices that are not the owner's stay
pub without_kept : (owner : ℕ) (l : List ℕ) → All (λ x. x ≡ owner → ⊥) l → map (without_owner owner) l ≡ l
without_kept owner [] h = refl
without_kept owner (x ∷ l) h = rw (without_other owner x h.0, without_kept owner l h.1)

-- the owner holds no slice after
pub freed_none : (owner : ℕ) (g : Gpu) → 0 < owner → owned_slices owner (freed owner g) ≡ 0
unfolding freed owned_slices
freed_none owner g o = without_sum owner g.owners o

-- it does not own the GPU after
pub freed_owner : (owner : ℕ) (g : Gpu) → 0 < owner → (freed owner g).owner ≡ owner → ⊥
unfolding freed
freed_owner owner g o = without_gone owner g.owner o

-- a GPU of which it held nothing stays as it is
pub freed_kept : (owner : ℕ) (g : Gpu) → (g.owner ≡ owner → ⊥) → All (λ x. x ≡ owner → ⊥) g.owners → freed owner g ≡ g
unfolding freed
freed_kept owner g h k = rw (without_other owner g.owner h, without_kept owner g.owners k)
