-- Giving: the owner of whole GPUs or slices holds as many more as it was given, and any other what it held.
use Rattle.std.specs.Prelude.{◌≡◌, true, set}
use Rattle.std.proofs.Math.Path.{refl, sym, ap}
use Rattle.std.proofs.Common.{◌∙◌, ⊎_elim, length-set}
use mathlib.Core.List.{List, [], ◌∷◌}
use Prim.Native.Nat.{ℕ, zero, suc, ◌+◌, ◌-◌, ◌*◌, ◌<◌, ◌≤◌, min}
use Rattle.std.proofs.Math.Nat.{suc-mul}
use native.Mathlib.Omega.{arith}
use Rattle.std.proofs.Math.ListN.{length, get_or}
use Rattle.std.proofs.Math.Seq.{get_or-set_other}
use borrow.Author.Tests.{eq-eqb, ne_eqb}
use Rattle.laws.specs.Choice.{pick_either, pick_cases}
use Rattle.laws.specs.Tests.{fails}
use Rattle.laws.specs.Lists.{All, Distinct, all_weaken, all_both, all_at, all_get_d, all_of, all_set, set_kept}
use Rattle.laws.specs.Search.{has, has_all}
use Rattle.laws.specs.Sums.{bit, sum_over, sum_set, sum_kept, sum_alike}
use Rattle.model.specs.Gpu.{no_gpu}
use Rattle.model.specs.declared.gpu.Gpu.{Gpu}
use Rattle.mig.specs.Owner.{idle}
use Rattle.mig.specs.OwnerLaws.{is_of, owned_slices, idle_slice}
use Rattle.mig.specs.Slices.{cut_anew}
use Rattle.mig.specs.SlicesLaws.{Given, given_owner, given_sized, free_in, cut_sized, cut_owner, cut_idle}
use Rattle.mig.specs.Table.{first_idle, gives, in_order, given_in_order}
use Rattle.mig.specs.TableLaws.{Sized}
use Rattle.mig.specs.Allocate.{enough_free, cut_helps, free_elsewhere, new_slices, cut_for, slices_allocated}
use Rattle.mig.specs.AllocateLaws.{cut_in, allocated_gain, allocated_after, allocated_owner, allocated_other}
use Rattle.mig.specs.declared.allocate.Slices.{Slices}
use Rattle.cluster.specs.Gpus.{with_owner, given}
use Rattle.cluster.specs.GpusLaws.{given_other}
use Rattle.history.specs.Owners.{holds, Formed}
use Rattle.history.specs.OwnersFreed.{share_same}

-- what stands where there is no GPU is idle
none_idle : idle no_gpu ≡ true
unfolding idle
none_idle = refl

-- no slice of it has an owner
pub no_slice : (i : ℕ) → get_or no_gpu.owners i 0 ≡ 0
no_slice i = idle_slice no_gpu i none_idle

-- it has the form of a GPU
pub none_formed : Formed no_gpu
none_formed =
    record {
      sized = refl;
      whole = λ h. refl;
      inside = λ i h. absurd (omega (arith, h, no_slice i));
    }

-- ---- whole GPUs

-- GPUs that nobody owns whole
abbrev pub Free : List Gpu → ℕ → Type 0
Free gpus i = (i < length gpus) × ((get_or gpus i no_gpu).owner ≡ 0)

module _ (owner : ℕ) where
  -- each counts once for its new owner
  given_sum : (other : ℕ) (gpus : List Gpu) (ids : List ℕ) → 0 < other → Distinct ids → All (Free gpus) ids →
      sum_over (λ g. is_of other g.owner) (given owner gpus ids) ≡ sum_over (λ g. is_of other g.owner) gpus + length ids * is_of other owner
  unfolding given
  given_sum other gpus [] o d h = omega arith
  given_sum other gpus (i ∷ ids) o d h =
      let new : Gpu = with_owner owner (get_or gpus i no_gpu) in
      let z : is_of other (get_or gpus i no_gpu).owner ≡ 0 = rw (h.0.1, ne_eqb 0 other (λ e. omega arith)) in
      let a : sum_over (λ g. is_of other g.owner) (set gpus i new) + is_of other (get_or gpus i no_gpu).owner ≡ sum_over (λ g. is_of other g.owner)
      gpus + is_of other owner = sum_set (λ g. is_of other g.owner) gpus i new no_gpu h.0.0 in
      let m : suc (length ids) * is_of other owner ≡ length ids * is_of other owner + is_of other owner = suc-mul (length ids) (is_of other owner) in
      let rest : All (Free (set gpus i new)) ids =
      all_weaken
      (λ j. (i ≡ j → ⊥) × Free gpus j)
      (Free (set gpus i new))
      ids
      (λ j q. (rw (length-set gpus i new) q.1.0, rw (get_or-set_other gpus i j new no_gpu (λ e. q.0 (sym e))) q.1.1))
      (all_both (λ j. i ≡ j → ⊥) (Free gpus) ids d.0 h.1) in
      omega (arith, a, z, m, given_sum other (set gpus i new) ids o d.1 rest)

  -- slices stay
  given_slices_lem : (other : ℕ) (gpus : List Gpu) (ids : List ℕ) → sum_over (owned_slices other) (given owner gpus ids) ≡ sum_over (owned_slices other) gpus
  unfolding given owned_slices
  given_slices_lem other gpus [] = refl
  given_slices_lem other gpus (i ∷ ids) =
      let new : Gpu = with_owner owner (get_or gpus i no_gpu) in
      given_slices_lem other (set gpus i new) ids ∙ sum_kept (owned_slices other) gpus i new no_gpu refl

  -- the owner holds as many more
  pub given_own : (gpus : List Gpu) (ids : List ℕ) → 0 < owner → Distinct ids → All (Free gpus) ids →
      holds owner (given owner gpus ids) ≡ record { gpus = (holds owner gpus).gpus + length ids; slices = (holds owner gpus).slices }
  unfolding holds
  given_own gpus ids o d h =
      let e : is_of owner owner ≡ 1 = rw (eq-eqb owner owner refl) in
      let s : sum_over (λ g. is_of owner g.owner) (given owner gpus ids) ≡ sum_over (λ g. is_of owner g.owner) gpus + length ids * 1 =
      rw e at (given_sum owner gpus ids o d h) in
      share_same _ _ _ _ (omega arith) (given_slices_lem owner gpus ids)

  -- any other what it held
  pub given_others : (other : ℕ) (gpus : List Gpu) (ids : List ℕ) → 0 < other → (other ≡ owner → ⊥) → Distinct ids → All (Free gpus) ids →
      holds other (given owner gpus ids) ≡ holds other gpus
  unfolding holds
  given_others other gpus ids o n d h =
      let e : is_of other owner ≡ 0 = rw (ne_eqb owner other (λ z. n (sym z))) in
      let s : sum_over (λ g. is_of other g.owner) (given owner gpus ids) ≡ sum_over (λ g. is_of other g.owner) gpus + length ids * 0 =
      rw e at (given_sum other gpus ids o d h) in
      share_same _ _ _ _ (omega arith) (given_slices_lem other gpus ids)

  -- where nothing is given all stays
  pub given_behind : (n k : ℕ) (gpus : List Gpu) (ids : List ℕ) → All (λ i. i < n) ids → n ≤ k → get_or (given owner gpus ids) k no_gpu ≡ get_or gpus k no_gpu
  given_behind n k gpus ids h l = given_other owner gpus ids k (fails (has k ids) (λ e. let z : k < n = has_all (λ i. i < n) k ids h e in omega arith))

  -- uncut GPUs keep the form
  pub given_formed : (gpus : List Gpu) (ids : List ℕ) → All (λ i. (get_or gpus i no_gpu).slices ≡ 0) ids → All Formed gpus → All Formed (given owner gpus ids)
  unfolding given
  given_formed gpus [] h f = f
  given_formed gpus (i ∷ ids) h f =
      let new : Gpu = with_owner owner (get_or gpus i no_gpu) in
      let was : Formed (get_or gpus i no_gpu) = all_get_d Formed gpus i no_gpu f none_formed in
      given_formed
      (set gpus i new)
      ids
      (all_weaken (λ j. (get_or gpus j no_gpu).slices ≡ 0) (λ j. (get_or (set gpus i new) j no_gpu).slices ≡ 0) ids
      (λ j e. set_kept gpus i new no_gpu (λ g. g.slices) refl j ∙ e) h.1)
      (all_set Formed gpus i new f (record { sized = was.sized; whole = λ z. h.0; inside = was.inside }))

-- ---- slices

-- a GPU that gave free slices keeps its form, but for the seven
gave : (profile owner : ℕ) (g h : Gpu) → length h.owners ≡ 7 → Given profile owner g h → Formed g → Formed h
gave profile owner g h l a f =
    let same : h.slices ≡ g.slices = ap (λ (x : Gpu). x.slices) a.rest in
    record {
      sized = l;
      whole = λ z. same ∙ f.whole (rw (← given_owner profile owner g h a) z);
      inside = λ i z. rw same
          (⊎_elim
          (λ e. f.inside i (rw (← e) z))
          (λ e. (free_in g profile i e.0).0)
          (a.slice i));
    }

cut_formed : (g : Gpu) (profile slices : ℕ) → Formed (cut_anew g profile slices)
cut_formed g profile slices =
    record {
      sized = cut_sized g profile slices;
      whole = λ z. absurd (omega (arith, z, cut_owner g profile slices));
      inside = λ i z. absurd (omega (arith, z, idle_slice (cut_anew g profile slices) i (cut_idle g profile slices)));
    }

-- seven slice owners stay seven
order_sized : (profile owner except left m i : ℕ) (gpus : List Gpu) → All Sized gpus → All Sized (in_order profile owner except left m i gpus)
unfolding in_order
order_sized profile owner except left zero i gpus h = h
order_sized profile owner except left (suc m) i [] h = tt
order_sized profile owner except left (suc m) i (g ∷ gpus) h =
    (given_sized g profile (gives g profile left i except) owner h.0, order_sized profile owner except (left - gives g profile left i except) m (i + 1) gpus h.1)

-- GPUs past the first m give nothing
order_behind : (profile owner except left m i k : ℕ) (gpus : List Gpu) → m ≤ k → get_or (in_order profile owner except left m i gpus) k no_gpu ≡ get_or gpus k no_gpu
unfolding in_order
order_behind profile owner except left zero i k gpus h = refl
order_behind profile owner except left (suc m) i k [] h = refl
order_behind profile owner except left (suc m) i zero (g ∷ gpus) h = absurd (omega arith)
order_behind profile owner except left (suc m) i (suc k) (g ∷ gpus) h =
    order_behind profile owner except (left - gives g profile left i except) m (i + 1) k gpus (omega arith)

module _ (gpus : List Gpu) (n profile most want owner : ℕ) where
  ordered_behind : (except k : ℕ) → n ≤ k → get_or (given_in_order gpus n profile want owner except) k no_gpu ≡ get_or gpus k no_gpu
  unfolding given_in_order
  ordered_behind except k h = order_behind profile owner except want (min n 128) 0 k gpus (omega arith)

  cut_for_behind : (k : ℕ) → first_idle gpus n < min n 128 → n ≤ k → get_or (cut_for gpus n profile want owner) k no_gpu ≡ get_or gpus k no_gpu
  unfolding cut_for
  cut_for_behind k b h =
      let at : ℕ = first_idle gpus n in
      get_or-set_other (given_in_order gpus n profile want owner at) at k
      (new_slices (get_or gpus at no_gpu) profile want (free_elsewhere gpus n profile at) owner) no_gpu (λ e. omega arith) ∙ ordered_behind at k h

  allocated_behind : (k : ℕ) → length gpus ≡ 128 → All Sized gpus → n ≤ k → get_or (slices_allocated gpus n profile most want owner).gpus k no_gpu ≡ get_or gpus k no_gpu
  unfolding slices_allocated
  allocated_behind k table sized h =
      pick_cases
      (λ (a : Slices). get_or a.gpus k no_gpu ≡ get_or gpus k no_gpu)
      (enough_free gpus n profile want)
      _
      _
      (λ e. ordered_behind 128 k h)
      (λ e. pick_cases
      (λ (a : Slices). get_or a.gpus k no_gpu ≡ get_or gpus k no_gpu)
      (cut_helps gpus n most want)
      _
      _
      (λ f. cut_for_behind k (cut_in gpus n profile most want owner table sized f) h)
      (λ f. refl))

  ordered_sized : (except : ℕ) → All Sized gpus → All Sized (given_in_order gpus n profile want owner except)
  unfolding given_in_order
  ordered_sized except h = order_sized profile owner except want (min n 128) 0 gpus h

  cut_for_sized : All Sized gpus → All Sized (cut_for gpus n profile want owner)
  unfolding cut_for new_slices
  cut_for_sized h =
      let at : ℕ = first_idle gpus n in
      all_set
      Sized
      (given_in_order gpus n profile want owner at)
      at
      (new_slices (get_or gpus at no_gpu) profile want (free_elsewhere gpus n profile at) owner)
      (ordered_sized at h)
      (given_sized (cut_anew (get_or gpus at no_gpu) profile want) profile (want - free_elsewhere gpus n profile at) owner (cut_sized (get_or gpus at no_gpu) profile want))

  allocated_sized : All Sized gpus → All Sized (slices_allocated gpus n profile most want owner).gpus
  unfolding slices_allocated
  allocated_sized h =
      pick_either
      (λ (a : Slices). All Sized a.gpus)
      (enough_free gpus n profile want)
      _
      _
      (ordered_sized 128 h)
      (pick_either (λ (a : Slices). All Sized a.gpus) (cut_helps gpus n most want) _ _ (cut_for_sized h) h)

module _ (gpus : List Gpu) (n profile most want owner : ℕ) (table : length gpus ≡ 128) (formed : All Formed gpus)
    (same : length (slices_allocated gpus n profile most want owner).gpus ≡ length gpus) where
  abbrev after : List Gpu
  after = (slices_allocated gpus n profile most want owner).gpus

  before_sized : All Sized gpus
  before_sized = all_weaken Formed Sized gpus (λ g f. f.sized) formed

  after_sized : All Sized after
  after_sized = allocated_sized gpus n profile most want owner before_sized

  -- whole GPUs stay whose they are
  whole_kept : (other : ℕ) → sum_over (λ g. is_of other g.owner) after ≡ sum_over (λ g. is_of other g.owner) gpus
  whole_kept other =
      sum_alike (λ g. is_of other g.owner) (λ g. is_of other g.owner) after gpus no_gpu no_gpu same
      (λ k b. ap (is_of other) (allocated_owner gpus n profile most want owner table before_sized k))

  others_kept : (other : ℕ) → 0 < other → (other ≡ owner → ⊥) → sum_over (owned_slices other) after ≡ sum_over (owned_slices other) gpus
  unfolding owned_slices
  others_kept other o d =
      sum_alike (owned_slices other) (owned_slices other) after gpus no_gpu no_gpu same
      (λ k b. sum_alike (is_of other) (is_of other) (get_or after k no_gpu).owners (get_or gpus k no_gpu).owners 0 0
      (all_get_d Sized after k no_gpu after_sized refl ∙ sym (all_get_d Sized gpus k no_gpu before_sized refl))
      (λ i l. ap bit (allocated_other gpus n profile most want owner table before_sized other k i o d)))

  -- the owner holds as many more as are wanted
  pub slices_own : 0 < owner → most ≤ 7 → (slices_allocated gpus n profile most want owner).placed ≡ true →
      holds owner after ≡ record { gpus = (holds owner gpus).gpus; slices = (holds owner gpus).slices + want }
  unfolding holds
  slices_own o m p =
      share_same _ _ _ _ (whole_kept owner) (allocated_gain gpus n profile most want owner table before_sized o m p)

  -- any other what it held
  pub slices_others : (other : ℕ) → 0 < other → (other ≡ owner → ⊥) → holds other after ≡ holds other gpus
  unfolding holds
  slices_others other o d = share_same _ _ _ _ (whole_kept other) (others_kept other o d)

  -- past the first n nothing changes
  pub slices_behind : (k : ℕ) → n ≤ k → get_or after k no_gpu ≡ get_or gpus k no_gpu
  slices_behind k h = allocated_behind gpus n profile most want owner k table before_sized h

  -- each GPU keeps the form
  pub slices_formed : All Formed after
  slices_formed =
      all_of Formed after no_gpu
      (λ k b.
      let g : Gpu = get_or gpus k no_gpu in
      let l : length (get_or after k no_gpu).owners ≡ 7 = all_at Sized after k no_gpu after_sized b in
      ⊎_elim
      (λ a. gave profile owner g (get_or after k no_gpu) l a (all_get_d Formed gpus k no_gpu formed none_formed))
      (λ a. gave profile owner (cut_anew g profile want) (get_or after k no_gpu) l a.2 (cut_formed g profile want))
      (allocated_after gpus n profile most want owner table before_sized k))
