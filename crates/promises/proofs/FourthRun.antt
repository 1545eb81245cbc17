-- Condition 3 (c) in full: a job in its fourth run leaves it only by that run's completion, at the time fixed at its start.
use Rattle.std.specs.Prelude.{◌≡◌, refl, ◌⊎◌, true, List, ◌∷◌, ◌++◌, ℕ, ◌+◌, length}
use Rattle.std.proofs.Common.{sym, ap, ◌∙◌, inl, inr, ⊎_elim, append-nil, append_assoc, arith}
use Rattle.laws.specs.Lists.{all_middle}
use Rattle.model.specs.declared.job.JobState.{JobState}
use Rattle.model.specs.declared.job.JobState.TheVariants.{Running}
use Rattle.model.specs.declared.plan.Plan.{Plan}
use Rattle.decision_log.specs.Log.{decisions}
use Rattle.decision_log.specs.declared.Decision.{Decision}
use Rattle.room.specs.Room.{event_at}
use Rattle.engine.specs.Advance.{advanced}
use Rattle.planner.specs.Step.{stepped, number_of}
use Rattle.planner.specs.StepLaws.{accepted_for, accepted_plan}
use Rattle.history.specs.Told.{is_started, starts_of}
use Rattle.history.specs.Good.{job_at, begun}
use Rattle.promises.specs.Between.{Between}
use Rattle.promises.specs.Conditions.{Reached, onward, first, reached_between}
use Rattle.promises.specs.Completions.{EndOf, Found, end_found, end_once}
use Rattle.promises.specs.EndingSteps.{reached_ends}
use Rattle.promises.specs.RunEnd.{end_told, RunEnds, RunGoesOn, Last}
use Rattle.promises.proofs.RunEnd.{step_run}
use Rattle.promises.specs.RunStart.{Fixed, FixedIn, step_fixed}
use Rattle.promises.specs.FourthRun.{Further, here, farther, Among, fixed_end}

-- reached after some number of steps
record ReachedThen (trace : List ℕ) (p : Plan) (h : List Decision) : Type 0 where
  steps : ℕ
  reached : Reached trace steps p h

module _ (trace : List ℕ) where
  further_reached : (k : ℕ) (p q : Plan) (h ds : List Decision) → Reached trace k p h → Further p q ds → ReachedThen trace q (h ++ ds)
  further_reached k p q h ds r here = record { steps = k; reached = rw append-nil r }
  further_reached k p q h ds r (farther {q = m} {ds = es} f buffer e) =
      let t : ReachedThen trace m (h ++ es) = further_reached k p m h es r f in
      record { steps = t.steps + 1; reached = rw (← append_assoc h es (decisions (advanced m).log)) (onward t.reached buffer e) }

  module _ (k : ℕ) (p : Plan) (h : List Decision) (r : Reached trace k p h) where
    kept : Between (first trace).jobs k h p
    kept = (reached_between trace k p h r).0

    -- A running job has an entry that is the completion of its run,
    pub run_has_completion : (j : ℕ) → (job_at p.jobs j).state ≡ Running → Found j (job_at p.jobs j).run p.events
    run_has_completion j s = end_found j (job_at p.jobs j).run p.events (omega (arith, (reached_ends trace k p h r).own j s))

    -- and only that one.
    pub run_one_completion : (j i n : ℕ) → (job_at p.jobs j).state ≡ Running → EndOf j (job_at p.jobs j).run (event_at p.events i) →
        EndOf j (job_at p.jobs j).run (event_at p.events n) → n ≡ i
    run_one_completion j i n s x y = end_once p.events kept.counted.size j (job_at p.jobs j).run i n ((reached_ends trace k p h r).own j s) x y

    -- a job that runs for the fourth time was evicted three times
    pub fourth_last : (j : ℕ) → (job_at p.jobs j).state ≡ Running → (job_at p.jobs j).run ≡ 4 → Last (job_at p.jobs j)
    fourth_last j s f =
        let o : (job_at p.jobs j).run ≡ (job_at p.jobs j).evictions + 1 = (kept.good.each j).run_is
        ∙ ap (λ (st : JobState). (job_at p.jobs j).evictions + begun st) s in
        (s, omega (arith, o, f))

    -- One step: the run ends by that entry, told first at the entry's time, or it goes on with the same start and the same entry.
    pub run_ends_by_completion : (buffer : List ℕ) → number_of (stepped p (length buffer)).answer ≡ 0 → (j i : ℕ) →
        (job_at p.jobs j).state ≡ Running → (job_at p.jobs j).run ≡ 4 → EndOf j 4 (event_at p.events i) →
        RunEnds p j i (stepped p (length buffer)).plan (decisions (advanced p).log) ⊎ RunGoesOn p j i (stepped p (length buffer)).plan
    run_ends_by_completion buffer e j i s f x =
        let q : (stepped p (length buffer)).plan ≡ (advanced p).plan = ap (λ y. y.plan) (accepted_plan p buffer e) in
        rw q (step_run (first trace).jobs k h p kept (accepted_for p buffer e).1 (reached_ends trace k p h r) j i (fourth_last j s f) (rw f x))

    -- A step that tells a start: the job runs from the time told, and the completion of that run stands in the room at start + remaining × multiplier.
    pub start_fixes_completion : (buffer : List ℕ) → number_of (stepped p (length buffer)).answer ≡ 0 →
        (before after : List Decision) (d : Decision) → decisions (advanced p).log ≡ before ++ (d ∷ after) → is_started d.kind ≡ true →
        Fixed (stepped p (length buffer)).plan.setting.options (stepped p (length buffer)).plan.jobs (stepped p (length buffer)).plan.events d
    start_fixes_completion buffer e before after d l s =
        let q : (stepped p (length buffer)).plan ≡ (advanced p).plan = ap (λ y. y.plan) (accepted_plan p buffer e) in
        rw q (all_middle (FixedIn (advanced p).plan) before d after (rw (← l) (step_fixed (first trace).jobs k h p kept (accepted_for p buffer e).1)) s)

  -- Any number of steps on: the completion was told, at the time of the entry, or the run goes on as it was.
  pub fourth_run_ends : (k : ℕ) (p : Plan) (h : List Decision) → Reached trace k p h → (j i : ℕ) → (job_at p.jobs j).state ≡ Running →
      (job_at p.jobs j).run ≡ 4 → EndOf j 4 (event_at p.events i) → (q : Plan) (ds : List Decision) → Further p q ds → Among (end_told p j i) ds ⊎ RunGoesOn p j i q
  fourth_run_ends k p h r j i s f x q ds here = inr (record { job = refl; entry = refl })
  fourth_run_ends k p h r j i s f x q ds (farther {q = m} {ds = es} w buffer e) =
      ⊎_elim
      (λ t. inl (record {
        before = t.before;
        after = t.after ++ decisions (advanced m).log;
        is =
            ap (λ (l : List Decision). l ++ decisions (advanced m).log) t.is ∙ append_assoc t.before (end_told p j i ∷ t.after) (decisions (advanced m).log);
      }))
      (λ g.
      let g : RunGoesOn p j i m = g in
      let t : ReachedThen trace m (h ++ es) = further_reached k p m h es r w in
      ⊎_elim
      (λ y. inl (ended m es buffer g y))
      (λ y. inr (record { job = y.job ∙ g.job; entry = y.entry ∙ g.entry }))
      (run_ends_by_completion t.steps m (h ++ es) t.reached buffer e j i (rw g.job s) (rw g.job f) (rw g.entry x)))
      (fourth_run_ends k p h r j i s f x m es w)
    where
      ended : (m : Plan) (es : List Decision) (buffer : List ℕ) → RunGoesOn p j i m →
          RunEnds m j i (stepped m (length buffer)).plan (decisions (advanced m).log) → Among (end_told p j i) (es ++ decisions (advanced m).log)
      ended m es buffer g y =
          let d : end_told m j i ≡ end_told p j i = rw (g.entry, g.job) in
          record { before = es; after = y.rest; is = ap (λ (l : List Decision). es ++ l) (y.told ∙ ap (λ (z : Decision). z ∷ y.rest) d) }

  module _ (k : ℕ) (p : Plan) (h : List Decision) (r : Reached trace k p h) (buffer : List ℕ)
      (accepted : number_of (stepped p (length buffer)).answer ≡ 0) (before after : List Decision) (d : Decision)
      (among : decisions (advanced p).log ≡ before ++ (d ∷ after)) (start : is_started d.kind ≡ true) where
    -- the plan after the step that told the start
    abbrev pub then : Plan
    then = (stepped p (length buffer)).plan

    abbrev pub fixed : Fixed then.setting.options then.jobs then.events d
    fixed = start_fixes_completion k p h r buffer accepted before after d among start

    -- From its fourth start on, any number of steps: the job is as it was when it started, or its completion was told at the time that the start fixed.
    pub fourth_run_in_full : starts_of d.job (h ++ decisions (advanced p).log) ≡ 4 → (q : Plan) (ds : List Decision) → Further then q ds →
        Among (fixed_end trace then d.job fixed.penalised) ds ⊎ RunGoesOn then d.job fixed.entry q
    fourth_run_in_full four q ds f =
        let n : Reached trace (k + 1) then (h ++ decisions (advanced p).log) = onward r buffer accepted in
        let run : (job_at then.jobs d.job).run ≡ 4 =
        sym ((reached_between trace (k + 1) then (h ++ decisions (advanced p).log) n).0.good.started d.job) ∙ four in
        let e : end_told then d.job fixed.entry ≡ fixed_end trace then d.job fixed.penalised = rw fixed.time in
        rw (← e) (fourth_run_ends (k + 1) then (h ++ decisions (advanced p).log) n d.job fixed.entry fixed.runs_now run (rw (← run) fixed.is) q ds f)
