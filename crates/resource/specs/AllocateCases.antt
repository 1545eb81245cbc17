-- The cases of allocation, one for each return of the code.
use Rattle.std.specs.Prelude.{◌≡◌, refl, true, false, List, ℕ, ◌-◌, get_or, Option, Some, None, is_none, option_map}
use Rattle.std.proofs.Common.{sym}
use borrow.Author.Tests.{eq-eqb, ne_eqb}
use Rattle.laws.specs.Tests.{split}
use Rattle.model.specs.declared.gpu.Gpu.{Gpu}
use Rattle.model.specs.declared.job.Job.{Job}
use Rattle.model.specs.declared.setting.Setting.{Setting}
use Rattle.mig.specs.Allocate.{slices_allocated}
use Rattle.mig.specs.declared.allocate.Slices.{Slices}
use Rattle.cluster.specs.Gpus.{given}
use Rattle.eligible.specs.Chosen.{list_of}
use Rattle.fit.specs.declared.first.Choice.{Choice}
use Rattle.choice.specs.Choose.{why_not_here, choose}
use Rattle.choice.specs.ChooseLaws.{choose_none}
use Rattle.choice.specs.Why.{is_enough}
use Rattle.choice.specs.declared.why.Why.{Why}
use Rattle.resource.specs.Quota.{within_quota}
use Rattle.resource.specs.Cause.{whole_cause, resource_cause, first_cause, placeable}
use Rattle.resource.specs.Allocate.{whole_allocation, unplaced, whole_allocated, slices_got, allocated}

-- no cause means enough GPUs
pub none_enough : (w : Option Why) → is_none (option_map whole_cause w) ≡ is_enough w
none_enough None = refl
none_enough (Some w) = refl

module _ (s : Setting) (gpus : List Gpu) (j : Job) (owner : ℕ) where
  -- the chosen GPUs given
  pub chosen_given : (choice : Choice) (rows : List Gpu) → Some choice ≡ choose gpus s.gpus s.sites j.ask s.options.best →
      rows ≡ given owner gpus (list_of choice.chosen) →
      whole_allocation (Some (record { cut = false; penalised = choice.penalised })) rows ≡ whole_allocated s gpus j owner
  unfolding whole_allocated
  chosen_given choice rows e f = rw (f, ← e)

  -- no GPUs are given where none are chosen
  pub none_given : None ≡ choose gpus s.gpus s.sites j.ask s.options.best → unplaced gpus ≡ whole_allocated s gpus j owner
  unfolding whole_allocated given
  none_given e = rw (← e)

  -- the slices given
  pub slices_given : (got : Slices) (n less most : ℕ) → n ≡ s.gpus → less ≡ j.ask.profile - 1 → most ≡ get_or s.mosts less 0 →
      got ≡ slices_allocated gpus n j.ask.profile most j.ask.slices owner →
      record { gpus = got.gpus; placed = true; cut = got.cut; penalised = false } ≡ slices_got s gpus j owner
  unfolding slices_got
  slices_given got n less most a b c e = rw (← a, ← b, ← c, ← e)

  module _ (jobs : List Job) where
    pub over_quota : within_quota s jobs j ≡ false → unplaced gpus ≡ allocated s gpus jobs j owner
    unfolding allocated placeable first_cause
    over_quota h = rw h

    module _ (within : within_quota s jobs j ≡ true) where
      pub whole_placed : j.ask.profile ≡ 0 → whole_allocated s gpus j owner ≡ allocated s gpus jobs j owner
      unfolding allocated placeable first_cause resource_cause
      whole_placed z =
          rw (within, eq-eqb j.ask.profile 0 z, none_enough (why_not_here gpus s.gpus s.sites j.ask))
          (split
          (is_enough (why_not_here gpus s.gpus s.sites j.ask))
          (λ h. rw h)
          (λ h. rw h (sym (none_given (sym (choose_none gpus s.gpus s.sites j.ask s.options.best h))))))

      pub slices_placed : (j.ask.profile ≡ 0 → ⊥) → is_none (resource_cause s gpus j) ≡ true →
          slices_got s gpus j owner ≡ allocated s gpus jobs j owner
      unfolding allocated placeable first_cause
      slices_placed z h = rw (within, h, ne_eqb j.ask.profile 0 z)

      pub no_resources : is_none (resource_cause s gpus j) ≡ false → unplaced gpus ≡ allocated s gpus jobs j owner
      unfolding allocated placeable first_cause
      no_resources h = rw (within, h)

-- each return of `allocate`
pub ruleset placings = (over_quota, whole_placed, slices_placed, no_resources)
