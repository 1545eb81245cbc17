-- A run that may not be cut short goes on with its completion ahead, or ends by that completion: one step.
use Rattle.std.specs.Prelude.{◌≡◌, false, ℕ, ◌<◌, length, Float}
use Rattle.std.proofs.Math.Path.{refl, sym, ap}
use Rattle.std.proofs.Common.{◌∙◌, arith}
use Rattle.std.proofs.Math.Bool.{true}
use mathlib.Core.List.{List, ◌∷◌, ◌++◌, append_assoc}
use Rattle.std.proofs.lemmas.List.{length-map}
use Rattle.laws.specs.Tests.{fails, never_both}
use Rattle.laws.specs.Search.{has, has_all}
use Rattle.model.specs.Number.{bits_of}
use Rattle.model.specs.declared.job.Job.{Job}
use Rattle.model.specs.declared.job.JobState.{JobState}
use Rattle.model.specs.declared.job.JobState.TheVariants.{Waiting, Placed, Running, Finished}
use Rattle.model.specs.declared.plan.Plan.{Plan}
use Rattle.model.specs.declared.setting.Setting.{Setting}
use Rattle.decision_log.specs.Log.{decisions}
use Rattle.decision_log.specs.declared.Decision.{Decision}
use Rattle.decision_log.specs.declared.Kind.TheVariants as Kinds
use Rattle.life.specs.Life as Life
use Rattle.cluster.specs.Usage.{runs}
use Rattle.line.specs.Keep.{waits_in}
use Rattle.line.specs.Line.{new_line}
use Rattle.apart.specs.LineLaws.{victims_of, new_sized}
use Rattle.apart.specs.Few.{has_apart}
use Rattle.apart.specs.Standing.{Standing, InState, placed_of, few, place_other, clear_other}
use Rattle.apart.specs.Leaving.{MayLeave, may_run}
use Rattle.apart.specs.Keeps.{Kept}
use Rattle.apart.specs.Changes.{Changes}
use Rattle.apart.specs.Told.{Told}
use Rattle.apart.specs.PassLaws.{pass_keeps, pass_told}
use Rattle.apart.specs.StartsLaws.{starts_told, all_other, all_decisions}
use Rattle.pass.specs.Visit.{new_pass, allocation}
use Rattle.pass.specs.Walk.{sorted}
use Rattle.room.specs.Room.{used, event_at, least}
use Rattle.starts.specs.Begin.{amount}
use Rattle.happen.specs.declared.Moment.{Moment}
use Rattle.engine.specs.Settle.{pass_of, settled}
use Rattle.history.specs.Good.{job_at}
use Rattle.promises.specs.Between.{Amid}
use Rattle.promises.specs.Ending.{Wider, starts_wider}
use Rattle.promises.specs.EndingSteps.{to_start, placings, all_started, settled_is, changes_of, standing_of, timeouts_of}

-- the decision that ends the run, at the time of the entry
abbrev pub end_told : Plan → ℕ → ℕ → Decision
end_told p j i = record { time = bits_of (event_at p.events i).time; kind = Kinds.Completed; job = j; other = amount (job_at p.jobs j).ask }

-- the entry was taken, its completion told first, and the job has finished
pub record RunEnds (p : Plan) (j i : ℕ) (q : Plan) (ds : List Decision) : Type 0 where
  pub taken : least p.events ≡ i
  pub rest : List Decision
  pub told : ds ≡ end_told p j i ∷ rest
  pub finished : (job_at q.jobs j).state ≡ Finished

-- the job is as it was, with its start and its run, and so is the entry
pub record RunGoesOn (p : Plan) (j i : ℕ) (q : Plan) : Type 0 where
  pub job : job_at q.jobs j ≡ job_at p.jobs j
  pub entry : event_at q.events i ≡ event_at p.events i

-- it runs after three evictions
abbrev pub Last : Job → Type 0
Last x = (x.state ≡ Running) × (x.evictions ≡ 3)

-- ---- what follows an event

-- a pass leaves such a job as it is
spared : (s : Setting) (clock : Float) (j : ℕ) (x : Job) → Last x → Kept s clock (λ q. job_at q.jobs j ≡ x)
spared s clock j x l =
    record {
      place =
          λ p id so w t e.
          place_other p so id w (job_at p.jobs id) (allocation s p id (job_at p.jobs id)) j
          (λ n. never_both (ap runs l.0) (ap (λ (y : Job). runs y.state) (sym e) ∙ ap (λ (k : ℕ). runs (job_at p.jobs k).state) n ∙ ap runs w.waiting))
          ∙ e;
      clear =
          λ p id vs so w may once e.
          clear_other clock p so id vs (may_run s clock p id vs may) once j
          (fails (has j vs) (λ t. let f : (job_at p.jobs j).evictions < 3 =
          (has_all (MayLeave s clock p id) j vs may t).2.few in omega (arith, f, ap (λ (y : Job). y.evictions) e, l.1)))
          ∙ e;
    }

module _ (jobs₀ : List Job) (k : ℕ) (h : List Decision) (m : Moment) (a : Amid jobs₀ k h m) where
  -- who is neither placed nor a victim is as before
  pub settled_other : (j : ℕ) → job_at (pass_of m).jobs j ≡ job_at m.plan.jobs j → has j (placed_of (pass_of m)) ≡ false →
      job_at (settled m).plan.jobs j ≡ job_at m.plan.jobs j
  settled_other j e n =
      rw (settled_is m).0 (all_other m.plan.setting.options m.plan.clock (to_start m.plan (pass_of m)) (placings (pass_of m)) j
      (has_apart j (placed_of (pass_of m)) n) ∙ e)

  -- an entry in use stays
  pub settled_entry : (i : ℕ) → used (event_at m.plan.events i) ≡ true → event_at (settled m).plan.events i ≡ event_at m.plan.events i
  settled_entry i u =
      let t : Wider m.plan.events (to_start m.plan (pass_of m)).ahead.events = (timeouts_of jobs₀ k h m a).wider in
      let s : Wider (to_start m.plan (pass_of m)).ahead.events (all_started m.plan (pass_of m)).ahead.events =
      starts_wider m.plan.setting.options m.plan.clock (to_start m.plan (pass_of m)) (placings (pass_of m)) t.size in
      rw (settled_is m).1 (s.stays i (ap used (t.stays i u) ∙ u) ∙ t.stays i u)

  -- a job in its last run goes on
  pass_spares : (j : ℕ) → Last (job_at m.plan.jobs j) → job_at (pass_of m).jobs j ≡ job_at m.plan.jobs j
  unfolding pass_of new_pass new_line sorted
  pass_spares j l =
      let p : Plan = m.plan in
      pass_keeps p.setting p.clock p.gpus p.jobs (new_line p.queue p.waiting p.totals m.log m.ok) a.between.gpus
      a.between.good.size (new_sized p.queue p.waiting p.totals m.log m.ok a.between.queue a.table) refl
      (λ q. job_at q.jobs j ≡ job_at p.jobs j) (spared p.setting p.clock j (job_at p.jobs j) l) refl

  -- no job of another state than placed is placed
  not_placed : (j : ℕ) (st : JobState) → (job_at (pass_of m).jobs j).state ≡ st → (st ≡ Placed → ⊥) → has j (placed_of (pass_of m)) ≡ false
  not_placed j st e n =
      fails (has j (placed_of (pass_of m))) (λ t. n
      (sym e ∙ (has_all (InState Placed (pass_of m).jobs) j (placed_of (pass_of m)) (standing_of jobs₀ k h m a).placed_are t).1))

  pub settled_spares : (j : ℕ) → Last (job_at m.plan.jobs j) → job_at (settled m).plan.jobs j ≡ job_at m.plan.jobs j
  settled_spares j l =
      let e : job_at (pass_of m).jobs j ≡ job_at m.plan.jobs j = pass_spares j l in
      settled_other j e (not_placed j Running (ap (λ (y : Job). y.state) e ∙ l.0) (λ z. never_both refl (ap runs z)))

  -- a job that has finished stays so
  pub settled_finished : (j : ℕ) → (job_at m.plan.jobs j).state ≡ Finished → job_at (settled m).plan.jobs j ≡ job_at m.plan.jobs j
  settled_finished j f =
      let c : Changes m.plan.clock m.plan.jobs (pass_of m) = changes_of jobs₀ k h m a in
      let v : has j (victims_of (pass_of m).line) ≡ false =
      fails (has j (victims_of (pass_of m).line))
      (λ t. never_both (ap runs (has_all (λ i. ((job_at m.plan.jobs i).state ≡ Running) ×
      (job_at (pass_of m).jobs i ≡ Life.evicted (job_at m.plan.jobs i) m.plan.clock)) j (victims_of (pass_of m).line) c.evicted t).0) (ap runs f)) in
      let w : has j (placed_of (pass_of m)) ≡ false =
      fails (has j (placed_of (pass_of m))) (λ t. never_both
      (ap waits_in (has_all (λ i. ((job_at m.plan.jobs i).state ≡ Waiting) × (job_at (pass_of m).jobs i ≡ Life.placed (job_at m.plan.jobs i)))
      j (placed_of (pass_of m)) c.placed t).0) (ap waits_in f)) in
      settled_other j (c.others j v w) w

  -- ---- the decisions

  pub evictions_told : Told m.plan.clock (decisions m.log) m.log.count (pass_of m)
  unfolding pass_of new_line
  evictions_told =
      let p : Plan = m.plan in
      pass_told p.setting p.clock p.gpus p.jobs (new_line p.queue p.waiting p.totals m.log m.ok) a.between.gpus
      a.between.good.size (new_sized p.queue p.waiting p.totals m.log m.ok a.between.queue a.table) refl a.own

  -- the event's own, the evictions, the starts
  pub settled_told : decisions (settled m).log ≡ decisions m.log ++
      (evictions_told.evictions ++ starts_told m.plan.setting.options m.plan.clock (to_start m.plan (pass_of m)) (placings (pass_of m)))
  settled_told =
      let so : Standing (pass_of m) = standing_of jobs₀ k h m a in
      let l : length (placings (pass_of m)) ≡ (pass_of m).count = sym (length-map (placings (pass_of m)) (λ x. x.job)) ∙ so.count in
      let ss : List Decision = starts_told m.plan.setting.options m.plan.clock (to_start m.plan (pass_of m)) (placings (pass_of m)) in
      ap decisions (settled_is m).2 ∙ all_decisions m.plan.setting.options m.plan.clock (to_start m.plan (pass_of m))
      (placings (pass_of m)) so.line.log (omega (arith, l, evictions_told.count, a.own, few (pass_of m) so))
      ∙ ap (λ (r : List Decision). r ++ ss) evictions_told.all ∙ append_assoc (decisions m.log) evictions_told.evictions ss
