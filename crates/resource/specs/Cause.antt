-- The first cause why a job is not placeable: quota; of a whole-GPU job count 0, gang count not a multiple, too few eligible GPUs or nodes; of a MIG job profile not loaded, then, if free slices do not suffice, too many slices for one cut, no idle GPU to cut.
use Rattle.std.specs.Prelude.{Bool, List, ℕ, ◌-◌, eqb, ltb, get_or, Option, Some, None, is_none, option_map}
use Rattle.laws.specs.Choice.{pick}
use Rattle.model.specs.declared.gpu.Gpu.{Gpu}
use Rattle.model.specs.declared.job.Job.{Job}
use Rattle.model.specs.declared.setting.Setting.{Setting}
use Rattle.mig.specs.Allocate.{slices_placeable}
use Rattle.choice.specs.Choose.{why_not_here}
use Rattle.choice.specs.declared.why.Why.{Why}
use Rattle.resource.specs.Quota.{within_quota}
use Rattle.resource.specs.declared.cause.Cause.{Cause}
use Rattle.resource.specs.declared.cause.Cause.TheVariants.{OverQuota, NoCount, NotMultiple, TooFew, NoProfile, TooManySlices, NoIdle}

abbrev pub whole_cause : Why → Cause
whole_cause Why.NoCount = NoCount
whole_cause Why.NotMultiple = NotMultiple
whole_cause Why.TooFew = TooFew

-- a profile's most is 0 where it is not loaded
abbrev pub most_of : Setting → ℕ → ℕ
most_of s profile = get_or s.mosts (profile - 1) 0

unfoldable pub slices_cause : List Gpu → ℕ → ℕ → ℕ → ℕ → Option Cause
slices_cause gpus n profile most want =
    pick (eqb most 0) (Some NoProfile)
    (pick (slices_placeable gpus n profile most want) None
    (pick (ltb most want) (Some TooManySlices) (Some NoIdle)))

-- the cause, quota aside
unfoldable pub resource_cause : Setting → List Gpu → Job → Option Cause
resource_cause s gpus j =
    let ask = j.ask in
    pick (eqb ask.profile 0) (option_map whole_cause (why_not_here gpus s.gpus s.sites ask))
    (slices_cause gpus s.gpus ask.profile (most_of s ask.profile) ask.slices)

-- The first cause.
unfoldable pub first_cause : Setting → List Gpu → List Job → Job → Option Cause
first_cause s gpus jobs j = pick (within_quota s jobs j) (resource_cause s gpus j) (Some OverQuota)

-- Placeable: there is no cause why not.
unfoldable pub placeable : Setting → List Gpu → List Job → Job → Bool
placeable s gpus jobs j = is_none (first_cause s gpus jobs j)
