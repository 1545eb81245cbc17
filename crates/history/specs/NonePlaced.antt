-- Between steps no job is placed: whom a pass places the starts start. So who holds something runs.
use Rattle.std.specs.Prelude.{◌≡◌, true, false, ℕ, ◌<◌, eqb, set, Float}
use Rattle.std.proofs.Math.Path.{refl}
use Rattle.std.proofs.Common.{ap, ne_eqb}
use Rattle.std.proofs.Math.Logic.{⊎_elim}
use mathlib.Core.List.{List, [], ◌∷◌}
use Rattle.std.proofs.Math.ListN.{length}
use Rattle.laws.specs.Tests.{split, never_both, none_or, eq_or_ne}
use Rattle.laws.specs.Lists.{All, all_weaken, set_all}
use Rattle.laws.specs.Search.{has, has_all}
use Rattle.model.specs.Job.{no_job}
use Rattle.model.specs.declared.gpu.Gpu.{Gpu}
use Rattle.model.specs.declared.job.Job.{Job}
use Rattle.model.specs.declared.job.JobState.{JobState}
use Rattle.model.specs.declared.job.JobState.TheVariants.{Pending, Waiting, Placed, Running, Finished, Failed}
use Rattle.model.specs.declared.setting.Options.{Options}
use Rattle.model.specs.declared.setting.Setting.{Setting}
use Rattle.cluster.specs.Usage.{placed}
use Rattle.life.specs.Life as Life
use Rattle.apart.specs.LineLaws.{Sized, victims_of}
use Rattle.line.specs.declared.join.Line.{Line}
use Rattle.starts.specs.Begin as Begin
use Rattle.starts.specs.Begin.{begun_all}
use Rattle.apart.specs.StartsLaws.{jobs_of, begun_other, begun_runs, begun_length}
use Rattle.starts.specs.declared.begin.Placing.{Placing}
use Rattle.starts.specs.declared.begin.Begun.{Begun}
use Rattle.pass.specs.Visit.{new_pass}
use Rattle.pass.specs.Walk.{walked}
use Rattle.apart.specs.Standing.{InState, placed_of}
use Rattle.apart.specs.Changes.{Changes}
use Rattle.apart.specs.PassLaws.{pass_changes}
use Rattle.pass.specs.declared.visit.Pass.{Pass}
use Rattle.history.specs.Good.{job_at}
use Rattle.history.specs.OwnersChanges.{holds_in}

-- none but these is placed
abbrev pub OnlyPlaced : List ℕ → List Job → Type 0
OnlyPlaced l jobs = (k : ℕ) → has k l ≡ false → placed (job_at jobs k).state ≡ false

-- Nobody is.
abbrev pub NonePlaced : List Job → Type 0
NonePlaced jobs = (k : ℕ) → placed (job_at jobs k).state ≡ false

-- a job that holds something and is not placed runs
only_runs : (st : JobState) → holds_in st ≡ true → placed st ≡ false → st ≡ Running
only_runs Pending h n = absurd (never_both h refl)
only_runs Waiting h n = absurd (never_both h refl)
only_runs Placed h n = absurd (never_both h n)
only_runs Running h n = refl
only_runs Finished h n = absurd (never_both h refl)
only_runs Failed h n = absurd (never_both h refl)

pub holder_runs : (jobs : List Job) → NonePlaced jobs → (k : ℕ) → holds_in (job_at jobs k).state ≡ true → (job_at jobs k).state ≡ Running
holder_runs jobs n k h = only_runs (job_at jobs k).state h (n k)

-- ---- events

-- as loaded
pub none_loaded : (jobs : List Job) → ((k : ℕ) → (job_at jobs k).state ≡ Pending) → NonePlaced jobs
none_loaded jobs h k = ap placed (h k)

-- a change that does not place keeps to it
none_changed : (jobs : List Job) (k : ℕ) (j : Job) → placed j.state ≡ false → NonePlaced jobs → NonePlaced (set jobs k j)
none_changed jobs k j e n = set_all jobs k j no_job (λ x. placed x.state ≡ false) e n

module _ (jobs : List Job) (k : ℕ) (n : NonePlaced jobs) where
  pub none_arrives : (clock : Float) → NonePlaced (set jobs k (Life.waits (job_at jobs k) clock))
  unfolding Life.waits
  none_arrives clock = none_changed jobs k (Life.waits (job_at jobs k) clock) refl n

  pub none_fails : (clock : Float) → NonePlaced (set jobs k (Life.fails (job_at jobs k) clock))
  unfolding Life.fails
  none_fails clock = none_changed jobs k (Life.fails (job_at jobs k) clock) refl n

  pub none_completes : NonePlaced (set jobs k (Life.ends (job_at jobs k)))
  unfolding Life.ends
  none_completes = none_changed jobs k (Life.ends (job_at jobs k)) refl n

-- ---- pass and starts

-- after a pass only those are placed that it placed
pub only_pass : (s : Setting) (clock : Float) (gpus : List Gpu) (jobs : List Job) (line : Line) → length gpus ≡ 128 → length jobs ≡ 128 →
    Sized line → line.evicted ≡ 0 → NonePlaced jobs → OnlyPlaced (placed_of (walked s clock (new_pass gpus jobs line))) (walked s clock (new_pass gpus jobs line)).jobs
unfolding Life.evicted
only_pass s clock gpus jobs line gs js sized begins n k h =
    let p : Pass = walked s clock (new_pass gpus jobs line) in
    let c : Changes clock jobs p = pass_changes s clock gpus jobs line gs js sized begins in
    split
    (has k (victims_of p.line))
    (λ v. ap (λ (j : Job). placed j.state)
    (has_all (λ i. ((job_at jobs i).state ≡ Running) × (job_at p.jobs i ≡ Life.evicted (job_at jobs i) clock)) k (victims_of p.line) c.evicted v).1)
    (λ v. rw (c.others k v h) (n k))

module _ (options : Options) (clock : Float) where
  all_start : (b : Begun) (ps : List Placing) → All (λ k. k < length b.jobs) (jobs_of ps) → OnlyPlaced (jobs_of ps) b.jobs →
      NonePlaced (begun_all options clock b ps).jobs
  unfolding begun_all
  all_start b [] l h = λ k. h k refl
  all_start b (p ∷ ps) l h =
      all_start
      (Begin.begun options clock b p)
      ps
      (all_weaken (λ k. k < length b.jobs) (λ k. k < length (Begin.begun options clock b p).jobs) (jobs_of ps) (λ k q. rw (begun_length options clock b p) q) l.1)
      (λ k a. ⊎_elim
      (λ e. let e : k ≡ p.job = e in rw (e, begun_runs options clock b p l.0))
      (λ e. rw (begun_other options clock b p k e) (h k (none_or (eqb k p.job) (has k (jobs_of ps)) (ne_eqb k p.job e) a)))
      (eq_or_ne k p.job))

  -- and those start
  pub none_starts : (b : Begun) (ps : List Placing) → length b.jobs ≡ 128 → All (InState Placed b.jobs) (jobs_of ps) →
      OnlyPlaced (jobs_of ps) b.jobs → NonePlaced (begun_all options clock b ps).jobs
  none_starts b ps size l h =
      all_start b ps (all_weaken (InState Placed b.jobs) (λ k. k < length b.jobs) (jobs_of ps) (λ k q. rw size q.0) l) h
