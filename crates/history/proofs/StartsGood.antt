-- The starts after a pass keep what holds all along, each told as it is made.
use Rattle.std.specs.Prelude.{◌≡◌, ℕ, ◌+◌, length, Float}
use Rattle.std.proofs.Common.{ap, ◌∙◌, arith, length-set}
use mathlib.Core.List.{List, [], ◌∷◌, ◌++◌, append_assoc}
use Rattle.laws.specs.Lists.{All, Distinct}
use Rattle.small.specs.Small.{onward, onward_room}
use Rattle.model.specs.Number.{bits_of}
use Rattle.model.specs.declared.job.Job.{Job}
use Rattle.model.specs.declared.job.JobState.TheVariants.{Placed}
use Rattle.model.specs.declared.setting.Options.{Options}
use Rattle.model.specs.declared.setting.Setting.{Setting}
use Rattle.decision_log.specs.Log.{decisions, most}
use Rattle.decision_log.specs.declared.Decision.{Decision}
use Rattle.starts.specs.Begin as Begin
use Rattle.starts.specs.Begin.{begun_all, amount}
use Rattle.apart.specs.StartsLaws.{jobs_of, job_of, start_of, start_told, begun_decisions, begun_count, begun_table}
use Rattle.starts.specs.declared.begin.Placing.{Placing}
use Rattle.starts.specs.declared.begin.Begun.{Begun}
use Rattle.apart.specs.Standing.{InState}
use Rattle.history.specs.Good.{Good}
use Rattle.history.proofs.Changes.{good_started}
use Rattle.history.specs.StartsGood.{Room, begun_jobs, still_placed}

module _ (s : Setting) (options : Options) (clock : Float) (jobs₀ : List Job) (h : List Decision) where
  -- one starts
  begun_good : (b : Begun) (p : Placing) (n : ℕ) → Room b (n + 1) → InState Placed b.jobs p.job →
      Good s jobs₀ b.jobs (h ++ decisions b.log) → Good s jobs₀ (Begin.begun options clock b p).jobs (h ++ decisions (Begin.begun options clock b p).log)
  begun_good b p n r i g =
      rw (begun_decisions options clock b p r.table (omega (arith, r.fits)), ← append_assoc h (decisions b.log) (start_told options clock b p ∷ []))
      (rw (begun_jobs options clock b p) (good_started s jobs₀ b.jobs (h ++ decisions b.log) g p.job (bits_of (start_of options clock b p))
      (amount (job_of b p).ask) (start_of options clock b p) i.0 i.1))

  -- the room after a start
  begun_room : (b : Begun) (p : Placing) (n : ℕ) → Room b (n + 1) → Room (Begin.begun options clock b p) n
  begun_room b p n r =
      record {
        table = ap length (begun_table options clock b p) ∙ length-set b.log.table b.log.count (start_told options clock b p) ∙ r.table;
        fits = let e : onward b.log.count most ≡ b.log.count + 1 =
            onward_room b.log.count most (omega (arith, r.fits)) in omega (arith, r.fits, begun_count options clock b p, e);
      }

  -- all start
  pub starts_good : (b : Begun) (ps : List Placing) → Room b (length ps) → Distinct (jobs_of ps) → All (InState Placed b.jobs) (jobs_of ps) →
      Good s jobs₀ b.jobs (h ++ decisions b.log) → Good s jobs₀ (begun_all options clock b ps).jobs (h ++ decisions (begun_all options clock b ps).log)
  unfolding begun_all
  starts_good b [] r d l g = g
  starts_good b (p ∷ ps) r d l g =
      let r' : Room b (length ps + 1) = record { table = r.table; fits = omega (arith, r.fits) } in
      starts_good (Begin.begun options clock b p) ps (begun_room b p (length ps) r') d.1
      (still_placed options clock b p (jobs_of ps) d.0 l.1) (begun_good b p (length ps) r' l.0 g)
