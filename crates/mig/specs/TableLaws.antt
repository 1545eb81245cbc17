-- What giving slices in table order keeps and changes.
use Rattle.std.specs.Prelude.{◌≡◌, true, false, eqb, length, get_or, take}
use Rattle.std.proofs.Math.Path.{refl, ap, sym, subst}
use mathlib.Core.List.{List, [], ◌∷◌}
use Prim.Native.Nat.{ℕ, zero, suc, ◌+◌, ◌-◌, ◌<◌, ◌≤◌, min}
use native.Mathlib.Omega.{arith}
use Rattle.std.proofs.Common.{eq-eqb, ne_eqb}
use Rattle.laws.specs.Choice.{pick}
use Rattle.laws.specs.Tests.{split}
use Rattle.laws.specs.Lists.{All}
use Rattle.laws.specs.Search.{first_has, first_before}
use Rattle.laws.specs.Sums.{sum_over}
use Rattle.model.specs.Gpu.{no_gpu}
use Rattle.model.specs.declared.gpu.Gpu.{Gpu}
use Rattle.mig.specs.OwnerLaws.{owned_slices}
use Rattle.mig.specs.Slices.{free_slices}
use Rattle.mig.specs.SlicesLaws.{Given, given_same, given_none, given_is, given_gain, given_other}
use Rattle.mig.specs.Table.{may_cut_at, first_idle, gives, in_order}

-- A GPU has seven slice owners.
abbrev pub Sized : Gpu → Type 0
Sized g = length g.owners ≡ 7

-- ---- the first GPU to cut

-- in range it may be cut
pub idle_has : (gpus : List Gpu) (n : ℕ) → first_idle gpus n < min n 128 → may_cut_at gpus (first_idle gpus n) ≡ true
unfolding first_idle
idle_has gpus n h = first_has (may_cut_at gpus) (min n 128) 0 (omega arith)

-- none before it may
pub idle_before : (gpus : List Gpu) (n k : ℕ) → k < first_idle gpus n → may_cut_at gpus k ≡ false
unfolding first_idle
idle_before gpus n k h = first_before (may_cut_at gpus) (min n 128) 0 k (omega arith) h

-- ---- how much is given

-- What the m GPUs from number i on have to give: their free slices, but for the one excepted.
unfoldable pub free_but : ℕ → ℕ → ℕ → ℕ → List Gpu → ℕ
free_but profile except zero i gpus = 0
free_but profile except (suc m) i [] = 0
free_but profile except (suc m) i (g ∷ gpus) = pick (eqb i except) 0 (free_slices g profile) + free_but profile except m (i + 1) gpus

-- a GPU gives what it has of what is wanted
pub gives_min : (g : Gpu) (profile left i except : ℕ) → gives g profile left i except ≡ min left (pick (eqb i except) 0 (free_slices g profile))
unfolding gives
gives_min g profile left i except = split (eqb i except) (λ e. rw e (omega arith)) (λ e. rw e)

-- no more than it has free
pub gives_free : (g : Gpu) (profile left i except : ℕ) → gives g profile left i except ≤ free_slices g profile
unfolding gives
gives_free g profile left i except = split (eqb i except) (λ e. rw e (omega arith)) (λ e. rw e (omega arith))

-- with no exception it is all that is free
pub but_all : (profile except m i : ℕ) (gpus : List Gpu) → i + m ≤ except →
    free_but profile except m i gpus ≡ sum_over (λ g. free_slices g profile) (take m gpus)
unfolding free_but sum_over
but_all profile except zero i gpus h = refl
but_all profile except (suc m) i [] h = refl
but_all profile except (suc m) i (g ∷ gpus) h =
    rw (ne_eqb i except (λ e. omega arith), but_all profile except m (i + 1) gpus (omega arith))

-- with one GPU after the exception it is all that is free
pub but_past : (profile except m i : ℕ) (gpus : List Gpu) → except < i →
    free_but profile except m i gpus ≡ sum_over (λ g. free_slices g profile) (take m gpus)
unfolding free_but sum_over
but_past profile except zero i gpus h = refl
but_past profile except (suc m) i [] h = refl
but_past profile except (suc m) i (g ∷ gpus) h =
    rw (ne_eqb i except (λ e. omega arith), but_past profile except m (i + 1) gpus (omega arith))

-- with an exception in range its slices are missing
pub but_one : (profile m i k : ℕ) (gpus : List Gpu) → k < m → k < length gpus →
    free_but profile (i + k) m i gpus + free_slices (get_or gpus k no_gpu) profile ≡ sum_over (λ g. free_slices g profile) (take m gpus)
unfolding free_but sum_over
but_one profile zero i k gpus h l = absurd (omega arith)
but_one profile (suc m) i k [] h l = absurd (omega arith)
but_one profile (suc m) i zero (g ∷ gpus) h l =
    rw (eq-eqb i (i + 0) (omega arith)) (omega (arith, but_past profile (i + 0) m (i + 1) gpus (omega arith)))
but_one profile (suc m) i (suc k) (g ∷ gpus) h l =
    let e : i + suc k ≡ i + 1 + k = omega arith in
    rw (ne_eqb i (i + suc k) (λ z. omega arith)) (
    subst (λ x. free_slices g profile + free_but profile x m (i + 1) gpus + free_slices (get_or gpus k no_gpu) profile
    ≡ free_slices g profile + sum_over (λ g. free_slices g profile) (take m gpus)) (sym e)
    (omega (arith, but_one profile m (i + 1) k gpus (omega arith) (omega arith))))

-- ---- giving in order

module _ (profile owner except : ℕ) where
  -- as many GPUs as before
  pub order_length : (left m i : ℕ) (gpus : List Gpu) → length (in_order profile owner except left m i gpus) ≡ length gpus
  unfolding in_order
  order_length left zero i gpus = refl
  order_length left (suc m) i [] = refl
  order_length left (suc m) i (g ∷ gpus) =
      ap suc (order_length (left - gives g profile left i except) m (i + 1) gpus)

  -- the owner holds as many slices more as are wanted, or as there are
  pub order_gain : (left m i : ℕ) (gpus : List Gpu) → 0 < owner → All Sized gpus →
      sum_over (owned_slices owner) (in_order profile owner except left m i gpus)
      ≡ sum_over (owned_slices owner) gpus + min left (free_but profile except m i gpus)
  unfolding in_order free_but sum_over
  order_gain left zero i gpus o s = omega arith
  order_gain left (suc m) i [] o s = omega arith
  order_gain left (suc m) i (g ∷ gpus) o s =
      omega (
        arith,
        gives_min g profile left i except,
        given_gain g profile (gives g profile left i except) owner s.0 o (gives_free g profile left i except),
        order_gain (left - gives g profile left i except) m (i + 1) gpus o s.1,
      )

  -- any other owner holds as many as before
  pub order_other : (other left m i : ℕ) (gpus : List Gpu) → 0 < other → (other ≡ owner → ⊥) → All Sized gpus →
      sum_over (owned_slices other) (in_order profile owner except left m i gpus) ≡ sum_over (owned_slices other) gpus
  unfolding in_order sum_over
  order_other other left zero i gpus o n s = refl
  order_other other left (suc m) i [] o n s = refl
  order_other other left (suc m) i (g ∷ gpus) o n s =
      rw (
        given_other g profile (gives g profile left i except) owner s.0 other o n,
        order_other other (left - gives g profile left i except) m (i + 1) gpus o n s.1,
      )

  -- each GPU gave free slices, or nothing
  pub order_given : (left m i k : ℕ) (gpus : List Gpu) → All Sized gpus →
      Given profile owner (get_or gpus k no_gpu) (get_or (in_order profile owner except left m i gpus) k no_gpu)
  unfolding in_order
  order_given left zero i k gpus s = given_same profile owner (get_or gpus k no_gpu)
  order_given left (suc m) i k [] s = given_same profile owner no_gpu
  order_given left (suc m) i zero (g ∷ gpus) s = given_is g profile (gives g profile left i except) owner s.0
  order_given left (suc m) i (suc k) (g ∷ gpus) s =
      order_given (left - gives g profile left i except) m (i + 1) k gpus s.1

-- the GPU excepted stays as it is
pub order_except : (profile owner left m i k : ℕ) (gpus : List Gpu) →
    get_or (in_order profile owner (i + k) left m i gpus) k no_gpu ≡ get_or gpus k no_gpu
unfolding in_order gives
order_except profile owner left zero i k gpus = refl
order_except profile owner left (suc m) i k [] = refl
order_except profile owner left (suc m) i zero (g ∷ gpus) =
    rw (eq-eqb i (i + 0) (omega arith)) (given_none g profile owner)
order_except profile owner left (suc m) i (suc k) (g ∷ gpus) =
    let e : i + suc k ≡ i + 1 + k = omega arith in
    subst (λ x. get_or (in_order profile owner x (left - gives g profile left i x) m (i + 1) gpus) k no_gpu ≡ get_or gpus k no_gpu) (sym e)
    (order_except profile owner (left - gives g profile left i (i + 1 + k)) m (i + 1) k gpus)
