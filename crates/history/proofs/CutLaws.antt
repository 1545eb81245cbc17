-- A GPU that was cut stays cut: whatever is freed, given or cut anew, and so all through a pass.
use Rattle.std.specs.Prelude.{◌≡◌, refl, false, List, [], ◌∷◌, map, eqb, set, Float}
use Prim.Native.Nat.{ℕ, zero, suc, ◌+◌, ◌-◌, ◌<◌, min}
use Rattle.std.proofs.Common.{arith}
use borrow.Author.Tests.{leb-false}
use Rattle.laws.specs.Choice.{pick_cases, pick_either}
use Rattle.laws.specs.Lists.{set_related}
use Rattle.small.specs.Small.{plus_one}
use Rattle.model.specs.Gpu.{no_gpu}
use Rattle.model.specs.declared.gpu.Gpu.{Gpu}
use Rattle.model.specs.declared.job.Job.{Job}
use Rattle.model.specs.declared.setting.Setting.{Setting}
use Rattle.mig.specs.Owner.{freed}
use Rattle.mig.specs.Slices.{cut_anew, given_slices}
use Rattle.mig.specs.Table.{first_idle, free_in_all, gives, in_order, given_in_order}
use Rattle.mig.specs.Allocate.{enough_free, cut_helps, free_elsewhere, new_slices, cut_for, slices_allocated}
use Rattle.mig.specs.declared.allocate.Slices.{Slices}
use Rattle.cluster.specs.Gpus.{with_owner, given}
use Rattle.choice.specs.Choose.{choose, got_of}
use Rattle.resource.specs.Cause.{most_of, placeable}
use Rattle.resource.specs.Allocate.{whole_allocated, slices_got, allocated}
use Rattle.resource.specs.declared.allocate.Allocation.{Allocation}
use Rattle.preemptive.specs.Prefix.{freed_all}
use Rattle.pass.specs.Visit.{allocation, placed_as}
use Rattle.pass.specs.Walk.{sorted, walked}
use Rattle.apart.specs.Standing.{job_at, cleared}
use Rattle.apart.specs.KeptLaws.{walk_any}
use Rattle.pass.specs.declared.visit.Pass.{Pass}
use Rattle.history.specs.CutLaws.{gpu_at, Cut, CutStill, StaysCut}

-- with as many slices as before it is cut if it was
pub as_many : (g h : Gpu) → h.slices ≡ g.slices → CutStill g h
as_many g h e t = rw e t

-- ---- freed

-- freeing leaves the slices of each GPU
freed_at : (owner : ℕ) (gpus : List Gpu) (i : ℕ) → (gpu_at (map (freed owner) gpus) i).slices ≡ (gpu_at gpus i).slices
unfolding freed
freed_at owner [] i = refl
freed_at owner (g ∷ gpus) zero = refl
freed_at owner (g ∷ gpus) (suc i) = freed_at owner gpus i

pub freed_stays : (owner : ℕ) (gpus : List Gpu) → StaysCut gpus (map (freed owner) gpus)
freed_stays owner gpus i = as_many (gpu_at gpus i) (gpu_at (map (freed owner) gpus) i) (freed_at owner gpus i)

-- any jobs leave, one after the other
pub leave_stays : (gpus : List Gpu) (vs : List ℕ) → StaysCut gpus (freed_all gpus vs)
unfolding freed_all
leave_stays gpus [] i t = t
leave_stays gpus (v ∷ vs) i t = leave_stays (map (freed (plus_one v)) gpus) vs i (freed_stays (plus_one v) gpus i t)

-- ---- given

-- whole GPUs
pub given_stays : (owner : ℕ) (gpus : List Gpu) (ids : List ℕ) → StaysCut gpus (given owner gpus ids)
unfolding given
given_stays owner gpus [] i t = t
given_stays owner gpus (id ∷ ids) i t =
    let new : Gpu = with_owner owner (gpu_at gpus id) in
    given_stays owner (set gpus id new) ids i (set_related gpus id new no_gpu CutStill (λ g u. u) (λ u. u) i t)

-- free slices of a profile
order_at : (profile owner except left m i k : ℕ) (gpus : List Gpu) →
    (gpu_at (in_order profile owner except left m i gpus) k).slices ≡ (gpu_at gpus k).slices
unfolding in_order given_slices
order_at profile owner except left zero i k gpus = refl
order_at profile owner except left (suc m) i k [] = refl
order_at profile owner except left (suc m) i zero (g ∷ gpus) = refl
order_at profile owner except left (suc m) i (suc k) (g ∷ gpus) =
    order_at profile owner except (left - gives g profile left i except) m (i + 1) k gpus

module _ (gpus : List Gpu) (n profile most want owner : ℕ) where
  ordered_stays : (except : ℕ) → StaysCut gpus (given_in_order gpus n profile want owner except)
  unfolding given_in_order
  ordered_stays except i =
      as_many (gpu_at gpus i) (gpu_at (in_order profile owner except want (min n 128) 0 gpus) i) (order_at profile owner except want (min n 128) 0 i gpus)

  -- ---- cut anew

  -- a GPU is cut anew only where free slices are too few, so for one slice at least
  wanted : enough_free gpus n profile want ≡ false → 0 < want
  unfolding enough_free
  wanted f = omega (arith, leb-false want (free_in_all gpus n profile) f)

  -- so it is cut, whatever it was before
  new_cut : 0 < want → (g : Gpu) (elsewhere : ℕ) → Cut (new_slices g profile want elsewhere owner)
  unfolding new_slices given_slices cut_anew
  new_cut w g elsewhere = omega (arith, w)

  cut_stays : 0 < want → StaysCut gpus (cut_for gpus n profile want owner)
  unfolding cut_for
  cut_stays w i t =
      let at : ℕ = first_idle gpus n in
      set_related
      (given_in_order gpus n profile want owner at)
      at
      (new_slices (gpu_at gpus at) profile want (free_elsewhere gpus n profile at) owner)
      no_gpu
      CutStill
      (λ g u. u)
      (λ u. new_cut w (gpu_at gpus at) (free_elsewhere gpus n profile at))
      i
      (ordered_stays at i t)

  -- what a MIG job gets
  pub slices_stay : StaysCut gpus (slices_allocated gpus n profile most want owner).gpus
  unfolding slices_allocated
  slices_stay =
      pick_cases
      (λ (a : Slices). StaysCut gpus a.gpus)
      (enough_free gpus n profile want)
      _
      _
      (λ e. ordered_stays 128)
      (λ e. pick_either (λ (a : Slices). StaysCut gpus a.gpus) (cut_helps gpus n most want) _ _ (cut_stays (wanted e)) (λ i t. t))

-- ---- allocation and a pass

-- what any job gets
pub allocated_stays : (s : Setting) (gpus : List Gpu) (jobs : List Job) (j : Job) (owner : ℕ) → StaysCut gpus (allocated s gpus jobs j owner).gpus
unfolding allocated whole_allocated slices_got
allocated_stays s gpus jobs j owner =
    pick_either
    (λ (a : Allocation). StaysCut gpus a.gpus)
    (placeable s gpus jobs j)
    _
    _
    (pick_either
    (λ (a : Allocation). StaysCut gpus a.gpus)
    (eqb j.ask.profile 0)
    _
    _
    (given_stays owner gpus (got_of (choose gpus s.gpus s.sites j.ask s.options.best)))
    (slices_stay gpus s.gpus j.ask.profile (most_of s j.ask.profile) j.ask.slices owner))
    (λ i t. t)

module _ (s : Setting) (clock : Float) (gpus : List Gpu) where
  place_stays : (p : Pass) (id : ℕ) (j : Job) → j.ask ≡ (job_at p id).ask → StaysCut gpus p.gpus → StaysCut gpus (placed_as p id j (allocation s p id j)).gpus
  unfolding placed_as
  place_stays p id j e h i t = allocated_stays s p.gpus p.jobs j (plus_one id) i (h i t)

  clear_stays : (p : Pass) (id : ℕ) (vs : List ℕ) → StaysCut gpus p.gpus → StaysCut gpus (cleared clock p id vs).gpus
  unfolding cleared
  clear_stays p id vs h i t = leave_stays p.gpus vs i (h i t)

-- A pass, whatever it began with.
pub pass_stays : (s : Setting) (clock : Float) (p : Pass) → StaysCut p.gpus (walked s clock p).gpus
unfolding sorted
pass_stays s clock p =
    walk_any s clock (λ q. StaysCut p.gpus q.gpus) (place_stays s clock p.gpus) (clear_stays s clock p.gpus) p (λ i t. t)
