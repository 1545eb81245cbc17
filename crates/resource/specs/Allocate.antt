-- Allocation: a placeable job gets its GPUs or slices; one that is not gets nothing.
use Rattle.std.specs.Prelude.{true, false, List, ℕ, eqb, Option, Some, None, is_some}
use Rattle.laws.specs.Choice.{pick}
use Rattle.model.specs.declared.gpu.Gpu.{Gpu}
use Rattle.model.specs.declared.job.Job.{Job}
use Rattle.model.specs.declared.setting.Setting.{Setting}
use Rattle.mig.specs.Allocate.{slices_allocated}
use Rattle.cluster.specs.Gpus.{given}
use Rattle.choice.specs.Choose.{choose, got_of, penalised_of}
use Rattle.resource.specs.Cause.{most_of, placeable}
use Rattle.resource.specs.declared.allocate.Allocation.{Allocation}
use Rattle.resource.specs.declared.allocate.Got.{Got}

-- Nothing, and the table as it was.
abbrev pub unplaced : List Gpu → Allocation
unplaced gpus = record { gpus = gpus; placed = false; cut = false; penalised = false }

-- What the job got, if it was placed, with the table of GPUs that was lent.
abbrev pub whole_allocation : Option Got → List Gpu → Allocation
whole_allocation None rows = unplaced rows
whole_allocation (Some g) rows = record { gpus = rows; placed = true; cut = g.cut; penalised = g.penalised }

-- The chosen whole GPUs, owned; nothing where there is no choice.
unfoldable pub whole_allocated : Setting → List Gpu → Job → ℕ → Allocation
whole_allocated s gpus j owner =
    let choice = choose gpus s.gpus s.sites j.ask s.options.best in
    record { gpus = given owner gpus (got_of choice); placed = is_some choice; cut = false; penalised = penalised_of choice }

-- The slices, owned; a MIG job is never penalised.
unfoldable pub slices_got : Setting → List Gpu → Job → ℕ → Allocation
slices_got s gpus j owner =
    let got = slices_allocated gpus s.gpus j.ask.profile (most_of s j.ask.profile) j.ask.slices owner in
    record { gpus = got.gpus; placed = true; cut = got.cut; penalised = false }

-- What the job gets, and the table after.
unfoldable pub allocated : Setting → List Gpu → List Job → Job → ℕ → Allocation
allocated s gpus jobs j owner =
    pick (placeable s gpus jobs j)
    (pick (eqb j.ask.profile 0) (whole_allocated s gpus j owner) (slices_got s gpus j owner))
    (unplaced gpus)
