-- The customer's conditions, over any number of accepted steps from the load of any trace.
use Rattle.std.specs.Prelude.{◌≡◌, refl, ◌⊎◌, true, List, [], ◌∷◌, ◌++◌, ℕ, ◌+◌, ◌*◌, ◌≤◌, ◌<◌, min, length, take}
use Rattle.std.proofs.Common.{ap, ◌∙◌, arith}
use Rattle.laws.specs.Lists.{All, all_middle}
use Rattle.model.specs.declared.plan.Plan.{Plan}
use Rattle.decision_log.specs.Log.{decisions}
use Rattle.decision_log.specs.declared.Decision.{Decision}
use Rattle.trace.specs.Answer.{Accepted}
use Rattle.loader.specs.Load.{load}
use Rattle.resource.specs.Quota.{kept_quota}
use Rattle.engine.specs.Advance.{advanced}
use Rattle.planner.specs.Step.{stepped, number_of}
use Rattle.planner.specs.StepLaws.{accepted_for, accepted_plan}
use Rattle.history.specs.Told.{is_evicted, evictions_of, starts_of, held_after}
use Rattle.history.specs.Good.{job_at, Fits, Own, Now}
use Rattle.history.specs.Entries.{in_use}
use Rattle.promises.specs.LoadedLaws.{load_ready}
use Rattle.promises.specs.Between.{Between, nine}
use Rattle.promises.specs.Steps.{step_between, setting_stays}
use Rattle.promises.specs.LoadedBetween.{loaded_between}

-- The plan and the decisions after k accepted steps from the load of a trace, whatever buffers are lent; refused steps change nothing and are not counted.
pub data Reached (trace : List ℕ) : ℕ → Plan → List Decision → Type 0 where
  begin : (load trace).answer ≡ Accepted → Reached trace 0 (load trace).plan []
  onward : {k : ℕ} {p : Plan} {h : List Decision} → Reached trace k p h → (buffer : List ℕ) → number_of (stepped p (length buffer)).answer ≡ 0 →
      Reached trace (k + 1) (stepped p (length buffer)).plan (h ++ decisions (advanced p).log)

module _ (trace : List ℕ) where
  -- the plan as loaded
  abbrev pub first : Plan
  first = (load trace).plan

  -- ---- what holds at each point

  pub reached_between : (k : ℕ) (p : Plan) (h : List Decision) → Reached trace k p h → Between first.jobs k h p × (p.setting ≡ first.setting)
  reached_between k p h (begin e) = (loaded_between first (load_ready trace e), refl)
  reached_between k p h (onward {k = n} {p = q} {h = g} r buffer e) =
      let b : Between first.jobs n g q × (q.setting ≡ first.setting) = reached_between n q g r in
      let a : _ = accepted_for q buffer e in
      let s : (stepped q (length buffer)).plan ≡ (advanced q).plan = ap (λ x. x.plan) (accepted_plan q buffer e) in
      (rw s (step_between first.jobs n g q b.0 a.1), ap (λ (x : Plan). x.setting) s ∙ setting_stays q ∙ b.1)

  -- ---- the theorems

  module _ (k : ℕ) (p : Plan) (h : List Decision) (r : Reached trace k p h) where
    kept : Between first.jobs k h p
    kept = (reached_between k p h r).0

    now_at : (m : ℕ) → Now first.setting first.jobs (take m h)
    now_at m = rw (← (reached_between k p h r).1) (kept.good.always m)

    -- Condition 1: a trace of n jobs takes at most 9n accepted steps.
    pub few_steps : k ≤ 9 * first.setting.jobs
    few_steps =
        let n : p.setting.jobs ≡ first.setting.jobs = ap (λ s. s.jobs) (reached_between k p h r).1 in
        omega (arith, n, kept.counted.count, kept.given, nine first.jobs p.setting p.jobs h kept.loaded kept.good kept.rest)

    -- Entries in use and steps taken are the insertion numbers given out: none was lost, none given twice, and the counter did not wrap.
    pub none_lost : in_use p.events + k ≡ p.next
    none_lost = kept.counted.count

    -- Nine insertion numbers a job at most, so the room of 1,152 entries always has one free before the last is given.
    pub room_enough : p.next ≤ 9 * first.setting.jobs
    room_enough =
        let n : p.setting.jobs ≡ first.setting.jobs = ap (λ s. s.jobs) (reached_between k p h r).1 in
        omega (arith, n, kept.given, nine first.jobs p.setting p.jobs h kept.loaded kept.good kept.rest)

    -- Condition 3 (a): at every point of the history, what a tenant's running jobs hold, summed from the decisions, is within its quota. A tenant is its number plus 1; a quota is kept plus 1, 0 for none.
    pub quota_kept : (tenant : ℕ) → 0 < tenant → (m : ℕ) →
        Fits (kept_quota first.setting tenant) (held_after first.jobs (min first.setting.jobs 128) tenant (take m h))
    quota_kept tenant z m = (now_at m).quota tenant z

    -- (b): no job is evicted more than three times.
    pub three_evictions : (job m : ℕ) → evictions_of job (take m h) ≤ 3
    three_evictions job m = (now_at m).three job

    -- (c): a job that has started four times is not evicted any more.
    pub fourth_run : (job m : ℕ) → starts_of job (take m h) ≡ 4 → evictions_of job (take m h) ≡ 3
    fourth_run job m e = omega (arith, e, (now_at m).three job, (now_at m).runs_few job)

    -- (d): with quota-aware preemption on, a job is evicted only for a job of its own tenant or of none.
    pub own_tenant : (before after : List Decision) (d : Decision) → h ≡ before ++ (d ∷ after) → is_evicted d.kind ≡ true →
        first.setting.options.aware ≡ true → ((job_at first.jobs d.other).ask.tenant ≡ 0) ⊎
        ((job_at first.jobs d.job).ask.tenant ≡ (job_at first.jobs d.other).ask.tenant)
    own_tenant before after d e t a =
        let o : All (Own first.setting first.jobs) (before ++ (d ∷ after)) = rw (← e, ← (reached_between k p h r).1) kept.good.own in
        all_middle (Own first.setting first.jobs) before d after o t a
