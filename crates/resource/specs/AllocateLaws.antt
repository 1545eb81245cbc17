-- Placeable and allocation agree, and what is not placeable changes nothing.
use Rattle.std.specs.Prelude.{◌≡◌, refl, true, false, List, ℕ, eqb, ltb, is_none}
use Rattle.std.proofs.Math.Path.{sym}
use Rattle.std.proofs.Common.{◌∙◌}
use Rattle.laws.specs.Tests.{split, never_both}
use Rattle.model.specs.declared.gpu.Gpu.{Gpu}
use Rattle.model.specs.declared.job.Job.{Job}
use Rattle.model.specs.declared.setting.Setting.{Setting}
use Rattle.mig.specs.Allocate.{slices_placeable, slices_allocated}
use Rattle.mig.specs.AllocateLaws.{placeable_placed}
use Rattle.choice.specs.Choose.{why_not_here}
use Rattle.choice.specs.ChooseLaws.{choose_enough}
use Rattle.choice.specs.Why.{is_enough}
use Rattle.resource.specs.Quota.{within_quota}
use Rattle.resource.specs.Cause.{most_of, slices_cause, resource_cause, first_cause, placeable}
use Rattle.resource.specs.Allocate.{whole_allocated, slices_got, allocated}
use Rattle.resource.specs.AllocateCases.{none_enough}

-- no cause means that slices can be had
no_cause : (gpus : List Gpu) (n profile most want : ℕ) → is_none (slices_cause gpus n profile most want) ≡ true → slices_placeable gpus n profile most want ≡ true
unfolding slices_cause
no_cause gpus n profile most want h =
    split (eqb most 0)
    (λ a. absurd (never_both (rw a at h) refl))
    (λ a. split (slices_placeable gpus n profile most want)
    (λ e. e)
    (λ e. absurd (split (ltb most want) (λ t. never_both (rw (a, e, t) at h) refl) (λ t. never_both (rw (a, e, t) at h) refl))))

module _ (s : Setting) (gpus : List Gpu) (jobs : List Job) (j : Job) where
  -- what is not placeable leaves the table as it was
  pub unplaced_same : (owner : ℕ) → placeable s gpus jobs j ≡ false → (allocated s gpus jobs j owner).gpus ≡ gpus
  unfolding allocated
  unplaced_same owner e = rw e

  -- a placeable job is within its quota
  pub placeable_quota : placeable s gpus jobs j ≡ true → within_quota s jobs j ≡ true
  unfolding placeable first_cause
  placeable_quota h = split (within_quota s jobs j) (λ e. e) (λ e. absurd (never_both (rw e at h) refl))

  -- and its resources are there
  pub placeable_resources : placeable s gpus jobs j ≡ true → is_none (resource_cause s gpus j) ≡ true
  unfolding placeable first_cause
  placeable_resources h = split (within_quota s jobs j) (λ e. rw e at h) (λ e. absurd (never_both (rw e at h) refl))

  -- a placeable whole-GPU job has enough GPUs to choose from
  pub placeable_enough : eqb j.ask.profile 0 ≡ true → placeable s gpus jobs j ≡ true → is_enough (why_not_here gpus s.gpus s.sites j.ask) ≡ true
  unfolding resource_cause
  placeable_enough z h = sym (none_enough (why_not_here gpus s.gpus s.sites j.ask)) ∙ rw z at (placeable_resources h)

  -- a job is placed exactly if it is placeable
  pub placed_placeable : (owner : ℕ) → (allocated s gpus jobs j owner).placed ≡ placeable s gpus jobs j
  unfolding allocated whole_allocated slices_got
  placed_placeable owner =
      split (placeable s gpus jobs j)
      (λ e. rw e (split
      (eqb j.ask.profile 0)
      (λ f. rw f (choose_enough gpus s.gpus s.sites j.ask s.options.best ∙ placeable_enough f e))
      (λ f. rw f)))
      (λ e. rw e)

  -- a placeable MIG job gets its slices: there is no yes that fails
  pub placeable_slices : (owner : ℕ) → eqb j.ask.profile 0 ≡ false → placeable s gpus jobs j ≡ true →
      (slices_allocated gpus s.gpus j.ask.profile (most_of s j.ask.profile) j.ask.slices owner).placed ≡ true
  unfolding resource_cause
  placeable_slices owner z h =
      sym (placeable_placed gpus s.gpus j.ask.profile (most_of s j.ask.profile) j.ask.slices owner) ∙
      no_cause gpus s.gpus j.ask.profile (most_of s j.ask.profile) j.ask.slices (rw z at (placeable_resources h))
