-- Freeing takes from an owner all that it holds, and from nobody else.
use Rattle.std.specs.Prelude.{◌≡◌, refl, List, map, ℕ, ◌<◌, eqb, get_or}
use Rattle.std.proofs.Common.{sym, ap, ◌∙◌, arith, eqb-true, ne_eqb}
use Rattle.std.proofs.lemmas.List.{length-map}
use Rattle.std.proofs.Math.ListN.{get_or-map}
use Rattle.laws.specs.Choice.{pick_either}
use Rattle.laws.specs.Tests.{split}
use Rattle.laws.specs.Lists.{All, all_every, all_map, all_weaken, all_replicate}
use Rattle.laws.specs.Sums.{sum_none, sum_same, sum_map}
use Rattle.model.specs.Gpu.{no_gpu}
use Rattle.model.specs.declared.gpu.Gpu.{Gpu}
use Rattle.mig.specs.Owner.{without_owner, freed}
use Rattle.mig.specs.OwnerLaws.{is_of, owned_slices, without_gone, freed_none, freed_kept}
use Rattle.history.specs.Owners.{Share, nothing, holds, Formed}

-- two shares of as much are the same
pub share_same : (a b c d : ℕ) → a ≡ c → b ≡ d → ◌≡◌ {A = Share} (record { gpus = a; slices = b }) (record { gpus = c; slices = d })
share_same a b c d e f = rw (e, f)

-- ---- one place

-- the owner's own is gone
own_gone : (owner x : ℕ) → 0 < owner → is_of owner (without_owner owner x) ≡ 0
own_gone owner x o = rw (ne_eqb (without_owner owner x) owner (without_gone owner x o))

-- any other's stays
other_kept : (owner other x : ℕ) → 0 < other → (other ≡ owner → ⊥) → is_of other (without_owner owner x) ≡ is_of other x
other_kept owner other x o n =
    split
    (eqb x owner)
    (λ e. let s : x ≡ owner = eqb-true x owner e in
    rw (e, ne_eqb 0 other (λ q. omega arith), ne_eqb x other (λ q. n (sym q ∙ s))))
    (λ e. rw e)

-- what is owned after was owned before
without_some : (owner x : ℕ) → 0 < without_owner owner x → 0 < x
without_some owner x h = split (eqb x owner) (λ e. let z : 0 < 0 = rw e at h in absurd (omega arith)) (λ e. rw e at h)

-- ---- one GPU

slices_kept : (owner other : ℕ) (g : Gpu) → 0 < other → (other ≡ owner → ⊥) → owned_slices other (freed owner g) ≡ owned_slices other g
unfolding owned_slices freed
slices_kept owner other g o n =
    sum_map (is_of other) (without_owner owner) g.owners
    ∙ sum_same (λ x. is_of other (without_owner owner x)) (is_of other) g.owners
    (all_every (λ x. is_of other (without_owner owner x) ≡ is_of other x) g.owners (λ x. other_kept owner other x o n))

pub freed_formed : (owner : ℕ) (g : Gpu) → Formed g → Formed (freed owner g)
unfolding freed
freed_formed owner g f =
    record {
      sized = length-map g.owners (without_owner owner) ∙ f.sized;
      whole = λ h. f.whole (without_some owner g.owner h);
      inside = λ i h. f.inside i (without_some owner (get_or g.owners i 0) (rw (slice i) at h));
    }
  where
    zero_stays : without_owner owner 0 ≡ 0
    zero_stays = pick_either (λ x. x ≡ 0) (eqb 0 owner) 0 0 refl refl

    slice : (i : ℕ) → get_or (map (without_owner owner) g.owners) i 0 ≡ without_owner owner (get_or g.owners i 0)
    slice i = sym (ap (λ (d : ℕ). get_or (map (without_owner owner) g.owners) i d) zero_stays) ∙ get_or-map (without_owner owner) g.owners i 0

-- ---- the table

module _ (owner : ℕ) (gpus : List Gpu) where
  -- the owner holds nothing after
  pub freed_nothing : 0 < owner → holds owner (map (freed owner) gpus) ≡ nothing
  unfolding holds freed
  freed_nothing o =
      share_same _ _ 0 0
      (sum_map (λ g. is_of owner g.owner) (freed owner) gpus
      ∙ sum_none (λ g. is_of owner (freed owner g).owner) gpus (all_every (λ g. is_of owner (freed owner g).owner ≡ 0) gpus (λ g. own_gone owner g.owner o)))
      (sum_map (owned_slices owner) (freed owner) gpus
      ∙ sum_none (λ g. owned_slices owner (freed owner g)) gpus (all_every (λ g. owned_slices owner (freed owner g) ≡ 0) gpus (λ g. freed_none owner g o)))

  -- any other holds what it held
  pub freed_others : (other : ℕ) → 0 < other → (other ≡ owner → ⊥) → holds other (map (freed owner) gpus) ≡ holds other gpus
  unfolding holds freed
  freed_others other o n =
      share_same _ _ _ _
      (sum_map (λ g. is_of other g.owner) (freed owner) gpus
      ∙ sum_same (λ g. is_of other (freed owner g).owner) (λ g. is_of other g.owner) gpus
      (all_every (λ g. is_of other (freed owner g).owner ≡ is_of other g.owner) gpus (λ g. other_kept owner other g.owner o n)))
      (sum_map (owned_slices other) (freed owner) gpus
      ∙ sum_same (λ g. owned_slices other (freed owner g)) (owned_slices other) gpus
      (all_every (λ g. owned_slices other (freed owner g) ≡ owned_slices other g) gpus (λ g. slices_kept owner other g o n)))

  -- where no GPU stands none stands after
  pub freed_behind : (i : ℕ) → 0 < owner → get_or gpus i no_gpu ≡ no_gpu → get_or (map (freed owner) gpus) i no_gpu ≡ no_gpu
  freed_behind i o e =
      let z : freed owner no_gpu ≡ no_gpu = freed_kept owner no_gpu (λ q. omega arith) (all_replicate (λ (x : ℕ). x ≡ owner → ⊥) 7 0 (λ q. omega arith)) in
      sym (ap (λ (d : Gpu). get_or (map (freed owner) gpus) i d) z) ∙ get_or-map (freed owner) gpus i no_gpu ∙ ap (freed owner) e ∙ z

  -- each GPU keeps its form
  pub all_freed : All Formed gpus → All Formed (map (freed owner) gpus)
  all_freed h = all_map Formed (freed owner) gpus (all_weaken Formed (λ g. Formed (freed owner g)) gpus (freed_formed owner) h)
