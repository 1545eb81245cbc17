-- Each of the six small changes of a job keeps what holds all along: it waits, fails, ends, is evicted, is placed, starts.
use Rattle.std.specs.Prelude.{◌≡◌, ◌⊎◌, Bool, true, false, ◌||◌, List, [], ◌∷◌, ◌++◌, ℕ, ◌+◌, ◌-◌, ◌≤◌, ◌<◌, ◌%◌, ◌^◌, leb, length, set, Float}
use Rattle.std.proofs.Math.Path.{refl}
use Rattle.std.proofs.Common.{sym, ap, ◌∙◌, ⊎_elim, arith, ne_eqb, leb-true}
use Rattle.laws.specs.Tests.{never_both, le_or_lt, eq_or_ne}
use Rattle.model.specs.declared.job.Job.{Job}
use Rattle.model.specs.declared.job.JobState.{JobState}
use Rattle.model.specs.declared.job.JobState.TheVariants.{Pending, Waiting, Placed, Running}
use Rattle.model.specs.declared.setting.Setting.{Setting}
use Rattle.decision_log.specs.declared.Kind.TheVariants as Kinds
use Rattle.decision_log.specs.declared.Decision.{Decision}
use Rattle.life.specs.Life as Life
use Rattle.cluster.specs.Usage.{runs, placed, holding, charge_of, charge_to, usage}
use Rattle.cluster.specs.UsageLaws.{charge_none, charge_other, charge_own, usage_set, usage_past}
use Rattle.resource.specs.Quota.{kept_quota, within_quota}
use Rattle.history.specs.Good.{job_at, Fits, Good, begun, came}
use Rattle.history.proofs.Good.{quiet, speak, no_more}

-- a job costs what another costs that asks the same and holds as much
charge_same : (tenant : ℕ) (a b : Job) → a.ask ≡ b.ask → holding a ≡ holding b → charge_to tenant a ≡ charge_to tenant b
unfolding charge_to charge_of
charge_same tenant a b e f = rw (f, e)

-- and the same of its whole charge
charge_asks : (a b : Job) → a.ask ≡ b.ask → charge_of a ≡ charge_of b
unfolding charge_of
charge_asks a b e = rw e

-- a job within its quota has room for its charge
quota_room : (s : Setting) (jobs : List Job) (j : Job) → within_quota s jobs j ≡ true → 0 < j.ask.tenant → 0 < kept_quota s j.ask.tenant →
    usage jobs s.jobs j.ask.tenant + charge_of j < kept_quota s j.ask.tenant
unfolding within_quota
quota_room s jobs j q t f =
    let kept : ℕ = kept_quota s j.ask.tenant in
    let u : ℕ = usage jobs s.jobs j.ask.tenant + charge_of j in
    let w : leb u (kept - 1) ≡ true = rw (ne_eqb j.ask.tenant 0 (λ e. omega arith), ne_eqb kept 0 (λ e. omega arith)) at q in
    omega (arith, leb-true u (kept - 1) w)

-- a job that holds nothing and is placed within its quota keeps every tenant within its own
place_fits : (s : Setting) (jobs : List Job) (k : ℕ) (j : Job) → length jobs ≡ 128 → k < 128 → holding (job_at jobs k) ≡ false → holding j ≡ true →
    j.ask ≡ (job_at jobs k).ask → within_quota s jobs (job_at jobs k) ≡ true → (tenant : ℕ) → 0 < tenant →
    Fits (kept_quota s tenant) (usage jobs s.jobs tenant) → Fits (kept_quota s tenant) (usage (set jobs k j) s.jobs tenant)
place_fits s jobs k j l b n y a q tenant z w f =
    ⊎_elim
    (λ past. rw (usage_past jobs s.jobs tenant k j past) (w f))
    (λ inside.
    let e : usage (set jobs k j) s.jobs tenant + charge_to tenant (job_at jobs k) ≡ usage jobs s.jobs tenant + charge_to tenant j =
    usage_set jobs s.jobs tenant k j inside (omega arith) in
    let none : charge_to tenant (job_at jobs k) ≡ 0 = charge_none tenant (job_at jobs k) n in
    ⊎_elim
    (λ same.
    let t : (job_at jobs k).ask.tenant ≡ tenant = sym (ap (λ x. x.tenant) a) ∙ same in
    let c : charge_to tenant j ≡ charge_of (job_at jobs k) = own_charge same in
    let r : usage jobs s.jobs tenant + charge_of (job_at jobs k) < kept_quota s tenant = rw t at (quota_room s jobs (job_at jobs k) q (rw t z) (rw t f)) in
    omega (arith, e, none, c, r))
    (λ other. omega (arith, e, none, charge_other tenant j other, w f))
    (eq_or_ne j.ask.tenant tenant))
    (le_or_lt s.jobs k)
  where
    own_charge : j.ask.tenant ≡ tenant → charge_to tenant j ≡ charge_of (job_at jobs k)
    own_charge same = sym (ap (λ (t : ℕ). charge_to t j) same) ∙ charge_own j y ∙ charge_asks j (job_at jobs k) a

-- a state in which a job holds something
abbrev holds_in_lem : JobState → Bool
holds_in_lem st = runs st || placed st

-- a start costs what the placing cost
start_charge : (jobs : List Job) (k : ℕ) (at : Float) (tenant : ℕ) → (job_at jobs k).state ≡ Placed →
    charge_to tenant (Life.started (job_at jobs k) at) ≡ charge_to tenant (job_at jobs k)
unfolding Life.started holding
start_charge jobs k at tenant e = charge_same tenant (Life.started (job_at jobs k) at) (job_at jobs k) refl (sym (ap holds_in_lem e))

-- a generation rises by one at most
raised_few : (n : ℕ) (b : Bool) → Life.raised n b ≤ n + 1
raised_few n true = omega arith
raised_few n false = omega arith

-- an arrival raises the timeout generation by one at most
waits_timeouts : (j : Job) (clock : Float) → j.state ≡ Pending → j.timeouts ≤ came j.state + j.run → (Life.waits j clock).timeouts ≤ 1 + (Life.waits j clock).run
unfolding Life.waits
waits_timeouts j clock e h = let q : j.timeouts ≤ 0 + j.run = rw e at h in omega (arith, q, raised_few j.timeouts (Life.timed j.ask))

-- and so does a start
started_timeouts : (j : Job) (at : Float) → j.state ≡ Placed → j.run < 9 → j.timeouts ≤ came j.state + j.run →
    (Life.started j at).timeouts ≤ 1 + (Life.started j at).run
unfolding Life.started
started_timeouts j at e l h = let q : j.timeouts ≤ 1 + j.run = rw e at h in let m : (j.run + 1) % 2 ^ 32 ≡ j.run + 1 =
    omega (arith, l) in omega (arith, q, m, raised_few j.timeouts j.ask.gang)

module _ (s : Setting) (jobs₀ jobs : List Job) (h : List Decision) (g : Good s jobs₀ jobs h) (k time other : ℕ) where
  -- a job in a state that holds nothing costs nobody anything
  nothing_held : (j : Job) → holding j ≡ false → (tenant : ℕ) → charge_to tenant j ≤ charge_to tenant (job_at jobs k)
  nothing_held j e tenant = omega (arith, charge_none tenant j e)

  -- it arrives
  pub good_waits : (clock : Float) → k < 128 → (job_at jobs k).state ≡ Pending →
      Good s jobs₀ (set jobs k (Life.waits (job_at jobs k) clock)) (h ++ (record { time = time; kind = Kinds.Arrived; job = k; other = other } ∷ []))
  unfolding Life.waits holding
  good_waits clock b e =
      speak s jobs₀ jobs h g k (Life.waits (job_at jobs k) clock)
      (record { time = time; kind = Kinds.Arrived; job = k; other = other })
      refl b refl
      (record {
        run_is = let r : (job_at jobs k).run ≡ (job_at jobs k).evictions + begun (job_at jobs k).state = (g.each k).run_is in rw e at r;
        few = (g.each k).few;
        waits_few = waits_timeouts (job_at jobs k) clock e (g.each k).waits_few;
      })
      (omega arith) (omega arith)
      (sym (ap runs e))
      (no_more s jobs₀ jobs h g k (Life.waits (job_at jobs k) clock) (nothing_held (Life.waits (job_at jobs k) clock) refl))
      (λ t a. absurd (never_both t refl))

  -- its wait runs out
  pub good_fails : (clock : Float) → k < 128 → (job_at jobs k).state ≡ Waiting →
      Good s jobs₀ (set jobs k (Life.fails (job_at jobs k) clock)) (h ++ (record { time = time; kind = Kinds.Failed; job = k; other = other } ∷ []))
  unfolding Life.fails holding
  good_fails clock b e =
      speak s jobs₀ jobs h g k (Life.fails (job_at jobs k) clock)
      (record { time = time; kind = Kinds.Failed; job = k; other = other })
      refl b refl
      (record {
        run_is = let r : (job_at jobs k).run ≡ (job_at jobs k).evictions + begun (job_at jobs k).state = (g.each k).run_is in rw e at r;
        few = (g.each k).few;
        waits_few = let q : (job_at jobs k).timeouts ≤ came (job_at jobs k).state + (job_at jobs k).run = (g.each k).waits_few in rw e at q;
      })
      (omega arith) (omega arith)
      (sym (ap runs e))
      (no_more s jobs₀ jobs h g k (Life.fails (job_at jobs k) clock) (nothing_held (Life.fails (job_at jobs k) clock) refl))
      (λ t a. absurd (never_both t refl))

  -- its run completes
  pub good_ends : k < 128 → (job_at jobs k).state ≡ Running →
      Good s jobs₀ (set jobs k (Life.ends (job_at jobs k))) (h ++ (record { time = time; kind = Kinds.Completed; job = k; other = other } ∷ []))
  unfolding Life.ends holding
  good_ends b e =
      speak s jobs₀ jobs h g k (Life.ends (job_at jobs k))
      (record { time = time; kind = Kinds.Completed; job = k; other = other })
      refl b refl
      (record {
        run_is = let r : (job_at jobs k).run ≡ (job_at jobs k).evictions + begun (job_at jobs k).state = (g.each k).run_is in rw e at r;
        few = (g.each k).few;
        waits_few = let q : (job_at jobs k).timeouts ≤ came (job_at jobs k).state + (job_at jobs k).run = (g.each k).waits_few in rw e at q;
      })
      (omega arith) (omega arith)
      refl
      (no_more s jobs₀ jobs h g k (Life.ends (job_at jobs k)) (nothing_held (Life.ends (job_at jobs k)) refl))
      (λ t a. absurd (never_both t refl))

  -- it makes way: it was evicted fewer than three times, and for a job that may have its place
  pub good_evicted : (clock : Float) → k < 128 → (job_at jobs k).state ≡ Running → (job_at jobs k).evictions < 3 →
      (s.options.aware ≡ true → ((job_at jobs₀ other).ask.tenant ≡ 0) ⊎ ((job_at jobs₀ k).ask.tenant ≡ (job_at jobs₀ other).ask.tenant)) →
      Good s jobs₀ (set jobs k (Life.evicted (job_at jobs k) clock)) (h ++ (record { time = time; kind = Kinds.Evicted; job = k; other = other } ∷ []))
  unfolding Life.evicted holding
  good_evicted clock b e l t =
      let r : (job_at jobs k).run ≡ (job_at jobs k).evictions + 1 = let q : (job_at jobs k).run ≡ (job_at jobs k).evictions + begun (job_at jobs k).state =
      (g.each k).run_is in rw e at q in
      speak s jobs₀ jobs h g k (Life.evicted (job_at jobs k) clock)
      (record { time = time; kind = Kinds.Evicted; job = k; other = other })
      refl b refl
      (record {
        run_is = omega (arith, r, l);
        few = omega (arith, l);
        waits_few = let q : (job_at jobs k).timeouts ≤ came (job_at jobs k).state + (job_at jobs k).run = (g.each k).waits_few in rw e at q;
      })
      (omega (arith, l)) (omega arith)
      refl
      (no_more s jobs₀ jobs h g k (Life.evicted (job_at jobs k) clock) (nothing_held (Life.evicted (job_at jobs k) clock) refl))
      (λ x a. t a)

  -- it starts
  pub good_started : (at : Float) → k < 128 → (job_at jobs k).state ≡ Placed →
      Good s jobs₀ (set jobs k (Life.started (job_at jobs k) at)) (h ++ (record { time = time; kind = Kinds.Started; job = k; other = other } ∷ []))
  unfolding Life.started
  good_started at b e =
      let r : (job_at jobs k).run ≡ (job_at jobs k).evictions + 0 = let q : (job_at jobs k).run ≡ (job_at jobs k).evictions + begun (job_at jobs k).state =
      (g.each k).run_is in rw e at q in
      let f : (job_at jobs k).evictions ≤ 3 = (g.each k).few in
      speak s jobs₀ jobs h g k (Life.started (job_at jobs k) at)
      (record { time = time; kind = Kinds.Started; job = k; other = other })
      refl b refl
      (record { run_is = omega (arith, r, f); few = f; waits_few = started_timeouts (job_at jobs k) at e (omega (arith, r, f)) (g.each k).waits_few })
      (omega arith) (omega (arith, r, f))
      refl
      (no_more s jobs₀ jobs h g k (Life.started (job_at jobs k) at)
      (λ tenant. let c : charge_to tenant (Life.started (job_at jobs k) at) ≡ charge_to tenant (job_at jobs k) = start_charge jobs k at tenant e in omega (arith, c)))
      (λ t a. absurd (never_both t refl))

  -- it is placed, within its tenant's quota
  pub good_placed : k < 128 → (job_at jobs k).state ≡ Waiting → within_quota s jobs (job_at jobs k) ≡ true → Good s jobs₀ (set jobs k (Life.placed (job_at jobs k))) h
  unfolding Life.placed holding
  good_placed b e q =
      quiet s jobs₀ jobs h g k (Life.placed (job_at jobs k))
      b refl
      (record {
        run_is = let r : (job_at jobs k).run ≡ (job_at jobs k).evictions + begun (job_at jobs k).state = (g.each k).run_is in rw e at r;
        few = (g.each k).few;
        waits_few = let q : (job_at jobs k).timeouts ≤ came (job_at jobs k).state + (job_at jobs k).run = (g.each k).waits_few in rw e at q;
      })
      refl refl
      (sym (ap runs e))
      (λ tenant z. place_fits s jobs k (Life.placed (job_at jobs k)) g.size b (ap holds_in_lem e) refl refl q tenant z (g.within tenant z))
