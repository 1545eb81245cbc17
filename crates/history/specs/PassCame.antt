-- No pass and no start makes a job arrive, or takes its arrival back.
use Rattle.std.specs.Prelude.{◌≡◌, List, [], ◌∷◌, ℕ, set, Float}
use Rattle.std.proofs.Common.{sym, ap, ◌∙◌}
use Rattle.laws.specs.Lists.{All, Distinct, all_weaken, set_kept}
use Rattle.model.specs.Job.{no_job}
use Rattle.model.specs.declared.job.Job.{Job}
use Rattle.model.specs.declared.job.JobState.TheVariants.{Placed}
use Rattle.model.specs.declared.setting.Options.{Options}
use Rattle.model.specs.declared.setting.Setting.{Setting}
use Rattle.life.specs.Life as Life
use Rattle.preemptive.specs.Prefix.{evicted_all}
use Rattle.starts.specs.Begin as Begin
use Rattle.starts.specs.Begin.{begun_all}
use Rattle.apart.specs.StartsLaws.{jobs_of, job_of, start_of}
use Rattle.starts.specs.declared.begin.Placing.{Placing}
use Rattle.starts.specs.declared.begin.Begun.{Begun}
use Rattle.pass.specs.Visit.{placed_as}
use Rattle.apart.specs.Standing.{Looked, InState, cleared}
use Rattle.apart.specs.Leaving.{MayLeave}
use Rattle.apart.specs.Keeps.{Kept, placing}
use Rattle.pass.specs.declared.visit.Pass.{Pass}
use Rattle.history.specs.Good.{job_at}
use Rattle.history.specs.StartsGood.{begun_jobs, still_placed}
use Rattle.history.specs.Good.{came}
use Rattle.history.specs.PassOwed.{Runs, runs_other}

-- each job has arrived exactly if it had
abbrev pub Came : List Job → List Job → Type 0
Came before jobs = (k : ℕ) → came (job_at jobs k).state ≡ came (job_at before k).state

-- a change that keeps it
came_set : (before jobs : List Job) (k : ℕ) (j : Job) → came j.state ≡ came (job_at jobs k).state → Came before jobs → Came before (set jobs k j)
came_set before jobs k j e c i = set_kept jobs k j no_job (λ x. came x.state) e i ∙ c i

came_leave : (clock : Float) (before jobs : List Job) (vs : List ℕ) → All (Runs jobs) vs → Distinct vs → Came before jobs → Came before (evicted_all clock jobs vs)
unfolding evicted_all Life.evicted
came_leave clock before jobs [] m d c = c
came_leave clock before jobs (v ∷ vs) m d c =
    came_leave clock before (set jobs v (Life.evicted (job_at jobs v) clock)) vs
    (runs_other jobs v (Life.evicted (job_at jobs v) clock) vs d.0 m.1) d.1
    (came_set before jobs v (Life.evicted (job_at jobs v) clock) (sym (ap came m.0.1)) c)

module _ (s : Setting) (clock : Float) (before : List Job) where
  place_came : (p : Pass) (id : ℕ) → Looked p id → Came before p.jobs → Came before (placing s p id).jobs
  unfolding placed_as Life.placed
  place_came p id l c = came_set before p.jobs id (Life.placed (job_at p.jobs id)) (sym (ap came l.waiting)) c

  clear_came : (p : Pass) (id : ℕ) (vs : List ℕ) → All (Runs p.jobs) vs → Distinct vs → Came before p.jobs → Came before (cleared clock p id vs).jobs
  unfolding cleared
  clear_came p id vs m d c = came_leave clock before p.jobs vs m d c

  pub pass_came : Kept s clock (λ p. Came before p.jobs)
  pass_came =
      record {
        place = λ p id so l t c. place_came p id l c;
        clear = λ p id vs so l m d c. clear_came p id vs (all_weaken (MayLeave s clock p id) (Runs p.jobs) vs (λ v q. (q.0, q.2.runs_now, q.2.few)) m) d c;
      }

pub starts_came : (options : Options) (clock : Float) (before : List Job) (b : Begun) (ps : List Placing) → Distinct (jobs_of ps) →
    All (InState Placed b.jobs) (jobs_of ps) → Came before b.jobs → Came before (begun_all options clock b ps).jobs
unfolding begun_all Life.started
starts_came options clock before b [] d l c = c
starts_came options clock before b (p ∷ ps) d l c =
    let j : Job = Life.started (job_of b p) (start_of options clock b p) in
    starts_came options clock before (Begin.begun options clock b p) ps d.1 (still_placed options clock b p (jobs_of ps) d.0 l.1)
    (rw (begun_jobs options clock b p) (came_set before b.jobs p.job j (sym (ap came l.0.1)) c))
