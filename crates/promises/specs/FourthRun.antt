-- Condition 3 (c) in full: a job in its fourth run leaves it only by that run's completion, at the time fixed at its start.
use Rattle.std.specs.Prelude.{◌≡◌, Bool, List, [], ◌∷◌, ◌++◌, ℕ, length}
use Rattle.model.specs.Number.{bits_of}
use Rattle.model.specs.declared.plan.Plan.{Plan}
use Rattle.decision_log.specs.Log.{decisions}
use Rattle.decision_log.specs.declared.Decision.{Decision}
use Rattle.decision_log.specs.declared.Kind.TheVariants as Kinds
use Rattle.life.specs.Life as Life
use Rattle.starts.specs.Begin.{amount}
use Rattle.engine.specs.Advance.{advanced}
use Rattle.planner.specs.Step.{stepped, number_of}
use Rattle.history.specs.Good.{job_at}

-- The plan and the decisions after more accepted steps, whatever buffers are lent.
pub data Further (p : Plan) : Plan → List Decision → Type 0 where
  here : Further p p []
  farther : {q : Plan} {ds : List Decision} → Further p q ds → (buffer : List ℕ) → number_of (stepped q (length buffer)).answer ≡ 0 →
      Further p (stepped q (length buffer)).plan (ds ++ decisions (advanced q).log)

-- the decision is one of these
pub record Among (d : Decision) (ds : List Decision) : Type 0 where
  pub before : List Decision
  pub after : List Decision
  pub is : ds ≡ before ++ (d ∷ after)

module _ (trace : List ℕ) where
  -- the completion that a start fixed, by the job as it runs: at start + remaining × multiplier
  abbrev pub fixed_end : Plan → ℕ → Bool → Decision
  fixed_end q j penalised =
      let x = job_at q.jobs j in
      record {
        time = bits_of (Life.completion_at x x.start (Life.multiplier_of q.setting.options penalised));
        kind = Kinds.Completed;
        job = j;
        other = amount x.ask;
      }
