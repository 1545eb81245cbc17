-- Which jobs hold GPUs, and how much of its quota a tenant uses.
use Rattle.std.specs.Prelude.{◌≡◌, Bool, true, false, ◌&&◌, ◌||◌, List, ℕ, eqb, take}
use Rattle.laws.specs.Choice.{pick}
use Rattle.laws.specs.Sums.{sum_over}
use Rattle.model.specs.declared.job.JobState.{JobState}
use Rattle.model.specs.declared.job.JobState.TheVariants.{Pending, Waiting, Placed, Running, Finished, Failed}
use Rattle.model.specs.declared.job.Job.{Job}

-- A state in which the job runs, also where its start is still to come.
abbrev pub runs : JobState → Bool
runs Pending = false
runs Waiting = false
runs Placed = false
runs Running = true
runs Finished = false
runs Failed = false

-- The state of a job placed in the present pass.
abbrev pub placed : JobState → Bool
placed Pending = false
placed Waiting = false
placed Placed = true
placed Running = false
placed Finished = false
placed Failed = false

-- A running job.
abbrev pub running : Job → Bool
running j = runs j.state

-- A job that holds GPUs or slices: it runs, or is placed in the present pass.
unfoldable pub holding : Job → Bool
holding j = runs j.state || placed j.state

-- What a job costs of its tenant's quota: its GPU count.
unfoldable pub charge_of : Job → ℕ
charge_of j = j.ask.count

-- What it costs this tenant now. A tenant is its number plus 1.
unfoldable pub charge_to : ℕ → Job → ℕ
charge_to tenant j = pick (holding j && eqb j.ask.tenant tenant) (charge_of j) 0

-- A tenant's usage: the charges of its jobs that hold something.
unfoldable pub usage : List Job → ℕ → ℕ → ℕ
usage jobs n tenant = sum_over (charge_to tenant) (take n jobs)

-- ---- the two cases of a charge

pub charge_held : (tenant : ℕ) (j : Job) → (holding j && eqb j.ask.tenant tenant) ≡ true → charge_of j ≡ charge_to tenant j
unfolding charge_to
charge_held tenant j h = rw h

pub charge_free : (tenant : ℕ) (j : Job) → (holding j && eqb j.ask.tenant tenant) ≡ false → 0 ≡ charge_to tenant j
unfolding charge_to
charge_free tenant j h = rw h
