-- The starts after a pass keep what holds all along, each told as it is made.
use Rattle.std.specs.Prelude.{◌≡◌, refl, ℕ, ◌+◌, ◌≤◌, length, set, Float}
use Rattle.std.proofs.Common.{sym}
use mathlib.Core.List.{List}
use Rattle.laws.specs.Lists.{All, Apart, all_weaken, all_both}
use Rattle.model.specs.declared.job.JobState.TheVariants.{Placed}
use Rattle.model.specs.declared.setting.Options.{Options}
use Rattle.decision_log.specs.Log.{most}
use Rattle.life.specs.Life as Life
use Rattle.starts.specs.Begin as Begin
use Rattle.apart.specs.StartsLaws.{job_of, start_of, begun_other}
use Rattle.starts.specs.declared.begin.Placing.{Placing}
use Rattle.starts.specs.declared.begin.Begun.{Begun}
use Rattle.apart.specs.Standing.{InState}

-- the log has room for so many
pub record Room (b : Begun) (n : ℕ) : Type 0 where
  pub table : length b.log.table ≡ most
  pub fits : b.log.count + n ≤ most

-- the job table after a start
pub begun_jobs : (options : Options) (clock : Float) (b : Begun) (p : Placing) →
    (Begin.begun options clock b p).jobs ≡ set b.jobs p.job (Life.started (job_of b p) (start_of options clock b p))
unfolding Begin.begun
begun_jobs options clock b p = refl

-- the others are placed as before
pub still_placed : (options : Options) (clock : Float) (b : Begun) (p : Placing) (ks : List ℕ) → Apart p.job ks →
    All (InState Placed b.jobs) ks → All (InState Placed (Begin.begun options clock b p).jobs) ks
still_placed options clock b p ks a l =
    all_weaken
    (λ k. (p.job ≡ k → ⊥) × InState Placed b.jobs k)
    (InState Placed (Begin.begun options clock b p).jobs)
    ks
    (λ k q. (q.1.0, rw (begun_other options clock b p k (λ e. q.0 (sym e))) q.1.1))
    (all_both (λ k. p.job ≡ k → ⊥) (InState Placed b.jobs) ks a l)
