-- What a MIG job gets, and what stays.
use Rattle.std.specs.Prelude.{◌≡◌, refl, ◌⊎◌, true, false, eqb, leb, ltb, take, set}
use Rattle.std.proofs.Common.{sym, ◌∙◌, get_or-set_other}
use Rattle.std.proofs.Math.Path.{ap}
use Rattle.std.proofs.Math.Logic.{inl, inr, ⊎_elim}
use mathlib.Core.List.{List}
use Prim.Native.Nat.{ℕ, ◌+◌, ◌-◌, ◌<◌, ◌≤◌, min}
use native.Mathlib.Omega.{arith}
use Rattle.std.proofs.Math.ListN.{length, get_or}
use Rattle.std.proofs.Math.Seq.{get_or-set_same}
use borrow.Author.Tests.{leb-true, leb-false, ltb-true}
use Rattle.laws.specs.Tests.{split, and_both, never_both, or_none, eq_or_ne}
use Rattle.laws.specs.Lists.{All}
use Rattle.laws.specs.Sums.{sum_over, sum_set}
use Rattle.laws.specs.Tables.{take_least}
use Rattle.model.specs.Gpu.{no_gpu}
use Rattle.model.specs.declared.gpu.Gpu.{Gpu}
use Rattle.mig.specs.Owner.{idle}
use Rattle.mig.specs.OwnerLaws.{owned_slices, idle_owner, idle_slice, idle_none}
use Rattle.mig.specs.Slices.{free_slices, cut_anew}
use Rattle.mig.specs.SlicesLaws.{Given, given_same, given_is, given_gain, given_owner, given_slice, cut_free, cut_sized, cut_owner, cut_idle}
use Rattle.mig.specs.Table.{first_idle, free_in_all, given_in_order}
use Rattle.mig.specs.TableLaws.{Sized, free_but, idle_has, but_all, but_one, order_length, order_gain, order_given, order_except}
use Rattle.mig.specs.Allocate.{enough_free, cut_helps, slices_placeable, free_elsewhere, new_slices, cut_for, slices_allocated}

-- the question says yes exactly where the job gets its slices
pub placeable_placed : (gpus : List Gpu) (n profile most want owner : ℕ) →
    slices_placeable gpus n profile most want ≡ (slices_allocated gpus n profile most want owner).placed
unfolding slices_allocated
placeable_placed gpus n profile most want owner =
    split
    (enough_free gpus n profile want)
    (λ e. rw e)
    (λ e. rw e (split (cut_helps gpus n most want) (λ f. rw f) (λ f. rw f)))

-- where it gets none nothing changes
pub unplaced_same : (gpus : List Gpu) (n profile most want owner : ℕ) → slices_placeable gpus n profile most want ≡ false →
    (slices_allocated gpus n profile most want owner).gpus ≡ gpus
unfolding slices_allocated
unplaced_same gpus n profile most want owner h =
    let r : (enough_free gpus n profile want ≡ false) × (cut_helps gpus n most want ≡ false) =
    or_none (enough_free gpus n profile want) (cut_helps gpus n most want) h in
    rw (r.0, r.1)

-- ---- free slices are enough

module _ (gpus : List Gpu) (n profile want owner : ℕ) (table : length gpus ≡ 128) (sized : All Sized gpus) where
  -- the owner holds as many more as are wanted
  pub free_gain : 0 < owner → enough_free gpus n profile want ≡ true →
      sum_over (owned_slices owner) (given_in_order gpus n profile want owner 128) ≡ sum_over (owned_slices owner) gpus + want
  unfolding enough_free given_in_order free_in_all
  free_gain o h =
      let a : free_but profile 128 (min n 128) 0 gpus ≡ sum_over (λ g. free_slices g profile) (take n gpus) =
      but_all profile 128 (min n 128) 0 gpus (omega arith) ∙ rw (take_least n 128 gpus (omega arith)) in
      omega (
        arith,
        leb-true want (sum_over (λ g. free_slices g profile) (take n gpus)) h,
        order_gain profile owner 128 want
            (min n 128) 0 gpus o sized,
      )

-- ---- a GPU is cut

module _ (gpus : List Gpu) (n profile most want owner : ℕ) (table : length gpus ≡ 128) (sized : All Sized gpus)
    (helps : cut_helps gpus n most want ≡ true) where
  -- the GPU that is cut is in the table
  pub cut_in : first_idle gpus n < min n 128
  unfolding cut_helps
  cut_in = ltb-true (first_idle gpus n) (min n 128) (and_both (leb want most) (ltb (first_idle gpus n) (min n 128)) helps).1

  -- no more are wanted than the most
  pub cut_most : want ≤ most
  unfolding cut_helps
  cut_most = leb-true want most (and_both (leb want most) (ltb (first_idle gpus n) (min n 128)) helps).0

  -- it was MIG-capable and wholly idle
  pub cut_was_idle : idle (get_or gpus (first_idle gpus n) no_gpu) ≡ true
  cut_was_idle =
      (and_both (get_or gpus (first_idle gpus n) no_gpu).mig (idle (get_or gpus (first_idle gpus n) no_gpu)) (idle_has gpus n cut_in)).1

  -- the others have as many free slices as are there without it
  pub cut_elsewhere : free_but profile (first_idle gpus n) (min n 128) 0 gpus ≡ free_elsewhere gpus n profile (first_idle gpus n)
  unfolding free_elsewhere free_in_all
  cut_elsewhere =
      let h : first_idle gpus n < min n 128 = cut_in in
      let z : 0 + first_idle gpus n ≡ first_idle gpus n = omega arith in
      let b : free_but profile (0 + first_idle gpus n) (min n 128) 0 gpus + free_slices (get_or gpus (first_idle gpus n) no_gpu) profile ≡ sum_over
      (λ g. free_slices g profile) (take (min n 128) gpus) = but_one profile (min n 128) 0 (first_idle gpus n) gpus h (omega arith) in
      let c : free_but profile (first_idle gpus n) (min n 128) 0 gpus + free_slices (get_or gpus (first_idle gpus n) no_gpu) profile ≡ sum_over
      (λ g. free_slices g profile) (take n gpus) = rw (z, take_least n 128 gpus (omega arith)) at b in
      omega arith

  -- the others give in table order, and it stays out of that
  pub cut_kept : get_or (given_in_order gpus n profile want owner (first_idle gpus n)) (first_idle gpus n) no_gpu
      ≡ get_or gpus (first_idle gpus n) no_gpu
  unfolding given_in_order
  cut_kept = let z : 0 + first_idle gpus n ≡ first_idle gpus n = omega arith in
      rw z at (order_except profile owner want (min n 128) 0 (first_idle gpus n) gpus)

  -- the table keeps its length
  pub given_length : length (given_in_order gpus n profile want owner (first_idle gpus n)) ≡ length gpus
  unfolding given_in_order
  given_length = order_length profile owner (first_idle gpus n) want (min n 128) 0 gpus

  -- the others give all that they have, or as many as are wanted
  pub others_gain : 0 < owner → sum_over (owned_slices owner) (given_in_order gpus n profile want owner (first_idle gpus n))
      ≡ sum_over (owned_slices owner)
      gpus + min want (free_elsewhere gpus n profile (first_idle gpus n))
  unfolding given_in_order
  others_gain o = rw (← cut_elsewhere) (order_gain profile owner (first_idle gpus n) want (min n 128) 0 gpus o sized)

  -- the others have no more than all have
  pub elsewhere_most : free_elsewhere gpus n profile (first_idle gpus n) ≤ free_in_all gpus n profile
  unfolding free_elsewhere
  elsewhere_most = omega arith

  -- of the new slices as many are given as the others leave wanting
  pub new_gain : 0 < owner → most ≤ 7 → owned_slices owner
      (new_slices (get_or gpus (first_idle gpus n) no_gpu) profile want (free_elsewhere gpus n profile (first_idle gpus n)) owner)
      ≡ want - free_elsewhere
      gpus n profile (first_idle gpus n)
  unfolding new_slices
  new_gain o h =
      let g : Gpu = get_or gpus (first_idle gpus n) no_gpu in
      let f : free_slices (cut_anew g profile want) profile ≡ min want 7 = cut_free g profile want in
      let m : want ≤ most = cut_most in
      omega (
        arith,
        given_gain (cut_anew g profile want) profile (want - free_elsewhere gpus n profile (first_idle gpus n)) owner (cut_sized g profile want) o
            (omega arith),
        idle_none owner (cut_anew g profile want) o (cut_idle g profile want),
      )

  -- in all the owner holds as many more as are wanted
  pub cut_gain : 0 < owner → most ≤ 7 → enough_free gpus n profile want ≡ false →
      sum_over (owned_slices owner) (cut_for gpus n profile want owner) ≡ sum_over (owned_slices owner) gpus + want
  unfolding cut_for enough_free
  cut_gain o h e =
      let at : ℕ = first_idle gpus n in
      let t : List Gpu = given_in_order gpus n profile want owner at in
      let new : Gpu = new_slices (get_or gpus at no_gpu) profile want (free_elsewhere gpus n profile at) owner in
      let i : at < min n 128 = cut_in in
      let l : length t ≡ 128 = given_length ∙ table in
      let s : sum_over (owned_slices owner) (set t at new) + owned_slices owner (get_or t at no_gpu)
      ≡ sum_over (owned_slices owner) t + owned_slices owner
      new = sum_set (owned_slices owner) t at new no_gpu (omega arith) in
      let z : owned_slices owner (get_or t at no_gpu) ≡ 0 = ap (owned_slices owner) cut_kept
      ∙ idle_none owner (get_or gpus at no_gpu) o cut_was_idle in
      let w : free_in_all gpus n profile < want = leb-false want (free_in_all gpus n profile) e in
      let f : free_elsewhere gpus n profile at ≤ free_in_all gpus n profile = elsewhere_most in
      omega (arith, others_gain o, new_gain o h)

-- ---- the allocation as a whole

-- How a GPU may look after: it gave free slices or nothing; or it was the first idle one, was cut anew and gave new slices.
abbrev pub After : ℕ → ℕ → ℕ → ℕ → Gpu → Gpu → ℕ → Type 0
After profile want owner at g h k =
    Given profile owner g h ⊎ ((k ≡ at) × (idle g ≡ true) × Given profile owner (cut_anew g profile want) h)

module _ (gpus : List Gpu) (n profile most want owner : ℕ) (table : length gpus ≡ 128) (sized : All Sized gpus) where
  -- a job that gets its slices holds as many more as it wants
  pub allocated_gain : 0 < owner → most ≤ 7 → (slices_allocated gpus n profile most want owner).placed ≡ true →
      sum_over (owned_slices owner) (slices_allocated gpus n profile most want owner).gpus ≡ sum_over (owned_slices owner) gpus + want
  unfolding slices_allocated
  allocated_gain o h =
      split
      (enough_free gpus n profile want)
      (λ e. rw e (λ p. free_gain gpus n profile want owner table sized o e))
      (λ e. rw e
      (split
      (cut_helps gpus n most want)
      (λ f. rw f (λ p. cut_gain gpus n profile most want owner table sized f o h e))
      (λ f. rw f (λ p. absurd (never_both p refl)))))

  -- exactly as many as it wants, if it had none
  pub allocated_want : 0 < owner → most ≤ 7 → sum_over (owned_slices owner) gpus ≡ 0 →
      (slices_allocated gpus n profile most want owner).placed ≡ true →
      sum_over (owned_slices owner) (slices_allocated gpus n profile most want owner).gpus ≡ want
  allocated_want o h z p = omega (arith, allocated_gain o h p)

  -- a GPU after giving in order
  pub in_order_lem : (except k : ℕ) → Given profile owner (get_or gpus k no_gpu) (get_or (given_in_order gpus n profile want owner except) k no_gpu)
  unfolding given_in_order
  in_order_lem except k = order_given profile owner except want (min n 128) 0 k gpus sized

  -- a GPU after a cut
  cut_after : (k : ℕ) → cut_helps gpus n most want ≡ true →
      After profile want owner (first_idle gpus n) (get_or gpus k no_gpu) (get_or (cut_for gpus n profile want owner) k no_gpu) k
  unfolding cut_for new_slices
  cut_after k helps =
      let at : ℕ = first_idle gpus n in
      let t : List Gpu = given_in_order gpus n profile want owner at in
      let new : Gpu = new_slices (get_or gpus at no_gpu) profile want (free_elsewhere gpus n profile at) owner in
      let i : at < min n 128 = cut_in gpus n profile most want owner table sized helps in
      let l : length t ≡ 128 = given_length gpus n profile most want owner table sized helps ∙ table in
      ⊎_elim
      (λ e. let s : k ≡ at = e in
      inr (
        s,
        rw s (cut_was_idle gpus n profile most want owner table sized helps),
        rw (s, get_or-set_same t at new no_gpu (omega arith))
            (given_is (cut_anew (get_or gpus at no_gpu) profile want) profile (want - free_elsewhere gpus n profile at) owner
            (cut_sized (get_or gpus at no_gpu) profile want)),
      ))
      (λ e. inl (rw (get_or-set_other t at k new no_gpu e) (in_order_lem at k)))
      (eq_or_ne k at)

  -- what became of each GPU
  pub allocated_after : (k : ℕ) → After profile want owner (first_idle gpus n) (get_or gpus k no_gpu)
      (get_or (slices_allocated gpus n profile most want owner).gpus k no_gpu) k
  unfolding slices_allocated
  allocated_after k =
      split
      (enough_free gpus n profile want)
      (λ e. rw e (inl (in_order_lem 128 k)))
      (λ e. rw e
      (split
      (cut_helps gpus n most want)
      (λ f. rw f (cut_after k f))
      (λ f. rw f (inl (given_same profile owner (get_or gpus k no_gpu))))))

  -- no GPU's owner changes
  pub allocated_owner : (k : ℕ) → (get_or (slices_allocated gpus n profile most want owner).gpus k no_gpu).owner ≡ (get_or gpus k no_gpu).owner
  allocated_owner k =
      ⊎_elim
      (λ a. given_owner profile owner (get_or gpus k no_gpu) (get_or (slices_allocated gpus n profile most want owner).gpus k no_gpu) a)
      (λ a. given_owner profile owner (cut_anew (get_or gpus k no_gpu) profile want)
      (get_or (slices_allocated gpus n profile most want owner).gpus k no_gpu) a.2 ∙ cut_owner (get_or gpus k no_gpu) profile want
      ∙ sym (idle_owner (get_or gpus k no_gpu) a.1))
      (allocated_after k)

  -- any other owner has a slice after exactly if it had it before
  pub allocated_other : (other k s : ℕ) → 0 < other → (other ≡ owner → ⊥) →
      eqb (get_or (get_or (slices_allocated gpus n profile most want owner).gpus k no_gpu).owners s 0) other
      ≡ eqb (get_or (get_or gpus k no_gpu).owners s 0) other
  allocated_other other k s o d =
      ⊎_elim
      (λ a. given_slice profile owner other s (get_or gpus k no_gpu) (get_or (slices_allocated gpus n profile most want owner).gpus k no_gpu) o d a)
      (λ a. given_slice profile owner other s (cut_anew (get_or gpus k no_gpu) profile want)
      (get_or (slices_allocated gpus n profile most want owner).gpus k no_gpu) o d a.2
      ∙ ap (λ (x : ℕ). eqb x other) (idle_slice (cut_anew (get_or gpus k no_gpu) profile want) s (cut_idle (get_or gpus k no_gpu) profile want)
      ∙ sym (idle_slice (get_or gpus k no_gpu) s a.1)))
      (allocated_after k)
