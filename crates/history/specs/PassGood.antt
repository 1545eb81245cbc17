-- A pass keeps what holds all along: each eviction is told as it is made, and a placing is within its tenant's quota.
use Rattle.std.specs.Prelude.{◌≡◌, ℕ, ◌+◌}
use mathlib.Core.List.{List, ◌++◌}
use Rattle.model.specs.declared.job.Job.{Job}
use Rattle.model.specs.declared.setting.Setting.{Setting}
use Rattle.decision_log.specs.Log.{decisions}
use Rattle.decision_log.specs.declared.Decision.{Decision}
use Rattle.pass.specs.declared.visit.Pass.{Pass}
use Rattle.history.specs.Good.{Good}

-- ---- what a pass keeps

-- all holds of the pass's jobs and of the decisions of the plan so far, the pass's own behind; c were told in this step before the pass
pub record PassGood (s : Setting) (jobs₀ : List Job) (h : List Decision) (c : ℕ) (p : Pass) : Type 0 where
  pub good : Good s jobs₀ p.jobs (h ++ decisions p.line.log)
  pub told : p.line.log.count ≡ c + p.line.evicted
