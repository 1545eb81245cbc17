-- What holds of the job table and the decisions told so far, all along; each small change of one job keeps it.
use Rattle.std.specs.Prelude.{◌≡◌, Bool, true, false, ◌&&◌, ◌||◌, List, [], ◌∷◌, ◌++◌, eqb, length, set}
use Rattle.std.proofs.Common.{sym, ◌∙◌, ⊎_elim, arith, length-set, length-append, take_all, get_or-take}
use Rattle.std.proofs.Math.Path.{ap}
use Prim.Native.Nat.{ℕ, ◌+◌, ◌≤◌, ◌<◌, min}
use Rattle.std.proofs.Math.ListN.{take}
use Rattle.std.proofs.lemmas.List.{take-append-le, take-set-le}
use Rattle.std.proofs.Math.Seq.{take-set-lt}
use Rattle.laws.specs.Choice.{pick}
use Rattle.laws.specs.Tests.{le_or_lt}
use Rattle.laws.specs.Lists.{All, all_snoc, set_at}
use Rattle.laws.specs.Sums.{sum_over, bit, sum_set_le}
use Rattle.laws.specs.Tables.{take_least}
use Rattle.model.specs.Job.{no_job}
use Rattle.model.specs.declared.job.Job.{Job}
use Rattle.model.specs.declared.setting.Setting.{Setting}
use Rattle.decision_log.specs.declared.Decision.{Decision}
use Rattle.cluster.specs.Usage.{runs, running, holding, charge_of, charge_to, usage}
use Rattle.resource.specs.Quota.{kept_quota}
use Rattle.history.specs.Told.{is_evicted, is_started, evictions_of, starts_of, says_runs, runs_after, sum_to, held_one, held_after}
use Rattle.history.specs.ToldLaws.{told_here, told_other, runs_here, runs_other, sum_front, sum_below}
use Rattle.history.specs.Good.{job_at, Fits, Own, Now, begun, begun_most, JobOk, Good}

-- ---- usage and what is held by the decisions

-- a test that holds makes no smaller number
held_one_lem : (r o : Bool) (t : Bool) (c : ℕ) → pick (r && t) c 0 ≤ pick ((r || o) && t) c 0
held_one_lem true o true c = omega arith
held_one_lem true o false c = omega arith
held_one_lem false true true c = omega arith
held_one_lem false true false c = omega arith
held_one_lem false false true c = omega arith
held_one_lem false false false c = omega arith

module _ (s : Setting) (jobs₀ jobs : List Job) (h : List Decision) (size : length jobs ≡ 128)
    (asks : (k : ℕ) → (job_at jobs k).ask ≡ (job_at jobs₀ k).ask) (told : (k : ℕ) → runs_after h k ≡ running (job_at jobs k)) where
  -- a job holds by the decisions what it costs at most
  held_below : (tenant k : ℕ) → held_one jobs₀ tenant h k ≤ charge_to tenant (job_at jobs k)
  unfolding charge_to charge_of holding
  held_below tenant k =
      rw (← asks k, told k) (held_one_lem (runs (job_at jobs k).state) _ (eqb (job_at jobs k).ask.tenant tenant) (job_at jobs k).ask.count)

  -- what is held by the decisions is at most the usage
  pub held_usage : (tenant : ℕ) → held_after jobs₀ (min s.jobs 128) tenant h ≤ usage jobs s.jobs tenant
  unfolding usage
  held_usage tenant =
      let n : ℕ = min s.jobs 128 in
      let a : sum_to (held_one jobs₀ tenant h) n ≤ sum_to (λ k. charge_to tenant (job_at jobs k)) n =
      sum_below (held_one jobs₀ tenant h) (λ k. charge_to tenant (job_at jobs k)) n (held_below tenant) in
      let b : sum_to (λ k. charge_to tenant (job_at jobs k)) n ≡ sum_over (charge_to tenant) (take n jobs) = sum_front (charge_to tenant) jobs n no_job (omega arith) in
      let c : take n jobs ≡ take s.jobs jobs = take_least s.jobs 128 jobs (omega arith) in
      omega (arith, a, b, ap (sum_over (charge_to tenant)) c)

-- what is promised now follows
pub good_now : (s : Setting) (jobs₀ jobs : List Job) (h : List Decision) → length jobs ≡ 128 → ((k : ℕ) → (job_at jobs k).ask ≡ (job_at jobs₀ k).ask) →
    ((k : ℕ) → JobOk (job_at jobs k)) → ((k : ℕ) → evictions_of k h ≡ (job_at jobs k).evictions) → ((k : ℕ) → starts_of k h ≡ (job_at jobs k).run) →
    ((k : ℕ) → runs_after h k ≡ running (job_at jobs k)) → ((tenant : ℕ) → 0 < tenant → Fits (kept_quota s tenant) (usage jobs s.jobs tenant)) →
    All (Own s jobs₀) h → Now s jobs₀ h
good_now s jobs₀ jobs h size asks each evicted started told within own =
    record {
      quota = λ tenant z f. let w : usage jobs s.jobs tenant < kept_quota s tenant =
          within tenant z f in omega (arith, w, held_usage s jobs₀ jobs h size asks told tenant);
      three = λ k. omega (arith, evicted k, (each k).few);
      runs_few = λ k. let b : begun (job_at jobs k).state ≤ 1 = begun_most (job_at jobs k).state in omega (arith, evicted k, started k, (each k).run_is);
      own = own;
    }

-- what holds at each front of the decisions so far, and after one more, holds at each front then
fronts : (s : Setting) (jobs₀ : List Job) (h : List Decision) (d : Decision) → ((m : ℕ) → Now s jobs₀ (take m h)) → Now s jobs₀ (h ++ (d ∷ [])) →
    (m : ℕ) → Now s jobs₀ (take m (h ++ (d ∷ [])))
fronts s jobs₀ h d a b m =
    ⊎_elim
    (λ l. rw (take-append-le m h (d ∷ []) l) (a m))
    (λ l. rw (take_all m (h ++ (d ∷ [])) (omega (arith, length-append h (d ∷ [])))) b)
    (le_or_lt m (length h))

-- ---- a change of one job

-- a change that lowers what the job costs, or keeps it, keeps the usage within
usage_down : (jobs : List Job) (n tenant k : ℕ) (j : Job) → charge_to tenant j ≤ charge_to tenant (job_at jobs k) → usage (set jobs k j) n tenant ≤ usage jobs n tenant
unfolding usage
usage_down jobs n tenant k j l =
    ⊎_elim
    (λ a. rw (take-set-le n jobs k j a) (omega arith))
    (λ a. rw (take-set-lt n jobs k j a) (sum_set_le (charge_to tenant) (take n jobs) k j no_job (rw (get_or-take n jobs k no_job a) l)))
    (le_or_lt n k)

module _ (s : Setting) (jobs₀ jobs : List Job) (h : List Decision) (g : Good s jobs₀ jobs h) (k : ℕ) (j : Job) where
  -- the job after the change, and each other
  at_each : (P : ℕ → Job → Type 0) → k < 128 → P k j → ((i : ℕ) → (i ≡ k → ⊥) → P i (job_at jobs i)) → (i : ℕ) → P i (job_at (set jobs k j) i)
  at_each P b p f i = set_at jobs k j no_job P (rw g.size b) p f i

  -- a change that no decision tells
  pub quiet : k < 128 → j.ask ≡ (job_at jobs k).ask → JobOk j → j.evictions ≡ (job_at jobs k).evictions → j.run ≡ (job_at jobs k).run →
      running j ≡ running (job_at jobs k) → ((tenant : ℕ) → 0 < tenant → Fits (kept_quota s tenant) (usage (set jobs k j) s.jobs tenant)) → Good s jobs₀ (set jobs k j) h
  quiet b a o e r u w =
      record {
        size = length-set jobs k j ∙ g.size;
        asks = at_each (λ i x. x.ask ≡ (job_at jobs₀ i).ask) b (a ∙ g.asks k) (λ i n. g.asks i);
        each = at_each (λ i x. JobOk x) b o (λ i n. g.each i);
        evicted = at_each (λ i x. evictions_of i h ≡ x.evictions) b (g.evicted k ∙ sym e) (λ i n. g.evicted i);
        started = at_each (λ i x. starts_of i h ≡ x.run) b (g.started k ∙ sym r) (λ i n. g.started i);
        told = at_each (λ i x. runs_after h i ≡ running x) b (g.told k ∙ sym u) (λ i n. g.told i);
        within = w;
        own = g.own;
        always = g.always;
      }

  -- a change that a decision tells
  pub speak : (d : Decision) → d.job ≡ k → k < 128 → j.ask ≡ (job_at jobs k).ask → JobOk j →
      j.evictions ≡ (job_at jobs k).evictions + bit (is_evicted d.kind) → j.run ≡ (job_at jobs k).run + bit (is_started d.kind) →
      running j ≡ says_runs d.kind (running (job_at jobs k)) →
      ((tenant : ℕ) → 0 < tenant → Fits (kept_quota s tenant) (usage (set jobs k j) s.jobs tenant)) → Own s jobs₀ d → Good s jobs₀ (set jobs k j) (h ++ (d ∷ []))
  speak d q b a o e r u w z =
      let asks : (i : ℕ) → (job_at (set jobs k j) i).ask ≡ (job_at jobs₀ i).ask = at_each (λ i x. x.ask ≡ (job_at jobs₀ i).ask) b (a ∙ g.asks k) (λ i n. g.asks i) in
      let each : (i : ℕ) → JobOk (job_at (set jobs k j) i) = at_each (λ i x. JobOk x) b o (λ i n. g.each i) in
      let evicted : (i : ℕ) → evictions_of i (h ++ (d ∷ [])) ≡ (job_at (set jobs k j) i).evictions =
      at_each (λ i x. evictions_of i (h ++ (d ∷ [])) ≡ x.evictions) b (omega (arith, told_here is_evicted k h d q, g.evicted k))
      (λ i n. told_other is_evicted i h d (λ x. n (sym x ∙ q)) ∙ g.evicted i) in
      let started : (i : ℕ) → starts_of i (h ++ (d ∷ [])) ≡ (job_at (set jobs k j) i).run =
      at_each (λ i x. starts_of i (h ++ (d ∷ [])) ≡ x.run) b (omega (arith, told_here is_started k h d q, g.started k))
      (λ i n. told_other is_started i h d (λ x. n (sym x ∙ q)) ∙ g.started i) in
      let told : (i : ℕ) → runs_after (h ++ (d ∷ [])) i ≡ running (job_at (set jobs k j) i) =
      at_each (λ i x. runs_after (h ++ (d ∷ [])) i ≡ running x) b (runs_here k h d q ∙ ap (says_runs d.kind) (g.told k) ∙ sym u)
      (λ i n. runs_other i h d (λ x. n (sym x ∙ q)) ∙ g.told i) in
      let size : length (set jobs k j) ≡ 128 = length-set jobs k j ∙ g.size in
      let own : All (Own s jobs₀) (h ++ (d ∷ [])) = all_snoc (Own s jobs₀) h d g.own z in
      record {
        size = size;
        asks = asks;
        each = each;
        evicted = evicted;
        started = started;
        told = told;
        within = w;
        own = own;
        always = fronts s jobs₀ h d g.always (good_now s jobs₀ (set jobs k j) (h ++ (d ∷ [])) size asks each evicted started told w own);
      }

  -- the job costs no tenant more than before
  pub no_more : ((tenant : ℕ) → charge_to tenant j ≤ charge_to tenant (job_at jobs k)) → (tenant : ℕ) → 0 < tenant →
      Fits (kept_quota s tenant) (usage (set jobs k j) s.jobs tenant)
  no_more l tenant z f =
      let w : usage jobs s.jobs tenant < kept_quota s tenant = g.within tenant z f in
      omega (arith, w, usage_down jobs s.jobs tenant k j (l tenant))
