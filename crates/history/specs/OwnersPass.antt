-- A pass and the starts after it leave every job with what it has to hold.
use Rattle.std.specs.Prelude.{◌≡◌, ℕ, ◌<◌, set, Float}
use Rattle.std.proofs.Math.Path.{refl, sym}
use Rattle.std.proofs.Common.{ap, ◌∙◌}
use Rattle.std.proofs.Math.Bool.{true}
use mathlib.Core.List.{List, [], ◌∷◌, map}
use Rattle.laws.specs.Lists.{All, all_weaken, all_unmap, set_related}
use Rattle.small.specs.Small.{plus_one}
use Rattle.model.specs.Job.{no_job}
use Rattle.model.specs.declared.gpu.Gpu.{Gpu}
use Rattle.model.specs.declared.job.Job.{Job}
use Rattle.model.specs.declared.job.JobState.TheVariants.{Placed}
use Rattle.model.specs.declared.setting.Options.{Options}
use Rattle.model.specs.declared.setting.Setting.{Setting}
use Rattle.mig.specs.Owner.{freed}
use Rattle.life.specs.Life as Life
use Rattle.resource.specs.Cause.{placeable}
use Rattle.resource.specs.AllocateLaws.{placed_placeable}
use Rattle.preemptive.specs.Prefix.{freed_all, evicted_all}
use Rattle.apart.specs.LineLaws.{Sized}
use Rattle.line.specs.declared.join.Line.{Line}
use Rattle.starts.specs.Begin as Begin
use Rattle.starts.specs.Begin.{begun_all}
use Rattle.apart.specs.StartsLaws.{jobs_of, job_of, start_of, all_among}
use Rattle.starts.specs.declared.begin.Placing.{Placing}
use Rattle.starts.specs.declared.begin.Begun.{Begun}
use Rattle.pass.specs.Visit.{allocation, placed_as, new_pass}
use Rattle.pass.specs.Walk.{sorted, walked}
use Rattle.apart.specs.Standing.{Standing, Looked, InState, cleared, looked_in}
use Rattle.apart.specs.Leaving.{MayLeave}
use Rattle.apart.specs.Keeps.{Kept, placing}
use Rattle.apart.specs.PassLaws.{pass_keeps}
use Rattle.pass.specs.declared.visit.Pass.{Pass}
use Rattle.history.specs.Good.{job_at}
use Rattle.history.specs.Owners.{Owners, Cuts}
use Rattle.history.specs.OwnersChanges.{holds_in, due_held, owners_same, owners_evicted, owners_placed}

-- ---- a pass

module _ (s : Setting) (clock : Float) (cuts : Cuts s) where
  place_owners : (p : Pass) (id : ℕ) → Standing p → Looked p id → (allocation s p id (job_at p.jobs id)).placed ≡ true →
      Owners s.gpus p.gpus p.jobs → Owners s.gpus (placing s p id).gpus (placing s p id).jobs
  unfolding placed_as
  place_owners p id so l t o =
      let may : placeable s p.gpus p.jobs (job_at p.jobs id) ≡ true = sym (placed_placeable s p.gpus p.jobs (job_at p.jobs id) (plus_one id)) ∙ t in
      owners_placed s.gpus p.gpus p.jobs o id s cuts refl (looked_in p so id l) l.waiting may

  -- jobs leave one after the other
  leave_owners : (gpus : List Gpu) (jobs : List Job) (vs : List ℕ) → All (λ v. v < 128) vs → Owners s.gpus gpus jobs →
      Owners s.gpus (freed_all gpus vs) (evicted_all clock jobs vs)
  unfolding freed_all evicted_all
  leave_owners gpus jobs [] b o = o
  leave_owners gpus jobs (v ∷ vs) b o =
      leave_owners (map (freed (plus_one v)) gpus) (set jobs v (Life.evicted (job_at jobs v) clock)) vs b.1 (owners_evicted s.gpus gpus jobs o v clock b.0)

  clear_owners : (p : Pass) (id : ℕ) (vs : List ℕ) → All (MayLeave s clock p id) vs → Owners s.gpus p.gpus p.jobs →
      Owners s.gpus (cleared clock p id vs).gpus (cleared clock p id vs).jobs
  unfolding cleared
  clear_owners p id vs m o =
      leave_owners p.gpus p.jobs vs (all_weaken (MayLeave s clock p id) (λ v. v < 128) vs (λ v q. q.0) m) o

  -- each placing and each leaving keeps to it
  pub owners_kept : Kept s clock (λ p. Owners s.gpus p.gpus p.jobs)
  owners_kept =
      record {
        place = place_owners;
        clear = λ p id vs so l m d o. clear_owners p id vs m o;
      }

  -- so does a pass
  pub owners_pass : (gpus : List Gpu) (jobs : List Job) (line : Line) → Sized line → line.evicted ≡ 0 → Owners s.gpus gpus jobs →
      Owners s.gpus (walked s clock (new_pass gpus jobs line)).gpus (walked s clock (new_pass gpus jobs line)).jobs
  unfolding new_pass sorted
  owners_pass gpus jobs line sized begins o =
      pass_keeps s clock gpus jobs line o.table o.size sized begins (λ p. Owners s.gpus p.gpus p.jobs) owners_kept o

-- ---- the starts

module _ (options : Options) (clock : Float) (n : ℕ) (gpus : List Gpu) (jobs : List Job) where
  -- who held something before the starts holds it
  abbrev Holds : Begun → Type 0
  Holds b = Owners n gpus b.jobs × ((k : ℕ) → holds_in (job_at jobs k).state ≡ true → holds_in (job_at b.jobs k).state ≡ true)

  begun_holds : (b : Begun) (p : Placing) → InState Placed jobs p.job → Holds b → Holds (Begin.begun options clock b p)
  unfolding Begin.begun Life.started
  begun_holds b p i h =
      let new : Job = Life.started (job_of b p) (start_of options clock b p) in (
        owners_same n gpus b.jobs h.0 p.job new i.0
            (due_held new refl ∙ sym (due_held (job_at b.jobs p.job) (h.1 p.job (ap holds_in i.1)))),
        λ k e. set_related b.jobs p.job new no_job (λ x y. holds_in x.state ≡ true → holds_in y.state ≡ true) (λ x t. t) (λ t. refl) k (h.1 k e),
      )

-- the placed jobs start, and keep what they have
pub owners_starts : (options : Options) (clock : Float) (n : ℕ) (gpus : List Gpu) (b : Begun) (ps : List Placing) →
    All (InState Placed b.jobs) (jobs_of ps) → Owners n gpus b.jobs → Owners n gpus (begun_all options clock b ps).jobs
owners_starts options clock n gpus b ps l o =
    (all_among options clock (Holds options clock n gpus b.jobs) (λ p. InState Placed b.jobs p.job)
    (begun_holds options clock n gpus b.jobs) b ps (all_unmap (InState Placed b.jobs) (λ p. p.job) ps l) (o, λ k e. e)).0
