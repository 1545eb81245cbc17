-- Quota comes first: usage plus the job's charge at most its tenant's quota; no tenant or no quota entry is unrestricted.
use Rattle.std.specs.Prelude.{◌≡◌, Bool, true, false, List, eqb, get_or}
use Prim.Native.Nat.{ℕ, ◌+◌, ◌-◌, ◌≤◌, ◌<◌}
use native.Mathlib.Omega.{arith}
use Rattle.std.proofs.Math.Dec.{leb, ltb}
use borrow.Author.Tests.{eq-eqb, ne_eqb, le-leb, lt-leb, ltb-true, ltb-false}
use Rattle.laws.specs.Choice.{pick}
use Rattle.laws.specs.Tests.{split}
use Rattle.model.specs.declared.job.Job.{Job}
use Rattle.model.specs.declared.setting.Setting.{Setting}
use Rattle.cluster.specs.Usage.{charge_of, usage}

-- a tenant's quota as kept: plus 1, or 0 where it has none; the tenant is its number plus 1
abbrev pub kept_quota : Setting → ℕ → ℕ
kept_quota s tenant = get_or s.quotas (tenant - 1) 0

-- The job is within its tenant's quota.
unfoldable pub within_quota : Setting → List Job → Job → Bool
within_quota s jobs j =
    let tenant = j.ask.tenant in
    pick (eqb tenant 0) true
    (pick (eqb (kept_quota s tenant) 0) true
    (leb (usage jobs s.jobs tenant + charge_of j) (kept_quota s tenant - 1)))

-- ---- the cases

module _ (s : Setting) (jobs : List Job) (j : Job) where
  pub quota_no_tenant : j.ask.tenant ≡ 0 → true ≡ within_quota s jobs j
  unfolding within_quota
  quota_no_tenant h = rw (eq-eqb j.ask.tenant 0 h)

  pub quota_no_entry : (j.ask.tenant ≡ 0 → ⊥) → kept_quota s j.ask.tenant ≡ 0 → true ≡ within_quota s jobs j
  unfolding within_quota
  quota_no_entry h k = rw (ne_eqb j.ask.tenant 0 h, eq-eqb (kept_quota s j.ask.tenant) 0 k)

  pub quota_spent : (j.ask.tenant ≡ 0 → ⊥) → (kept_quota s j.ask.tenant ≡ 0 → ⊥) →
      kept_quota s j.ask.tenant ≤ usage jobs s.jobs j.ask.tenant → false ≡ within_quota s jobs j
  unfolding within_quota
  quota_spent h k l =
      let kept : ℕ = kept_quota s j.ask.tenant in
      let used : ℕ = usage jobs s.jobs j.ask.tenant in
      let p : kept - 1 < used + charge_of j = omega (arith, k) in
      rw (ne_eqb j.ask.tenant 0 h, ne_eqb kept 0 k, lt-leb (used + charge_of j) (kept - 1) p)

  pub quota_left : (j.ask.tenant ≡ 0 → ⊥) → (kept_quota s j.ask.tenant ≡ 0 → ⊥) →
      usage jobs s.jobs j.ask.tenant < kept_quota s j.ask.tenant →
      ltb (charge_of j) (kept_quota s j.ask.tenant - usage jobs s.jobs j.ask.tenant) ≡ within_quota s jobs j
  unfolding within_quota
  quota_left h k l = rw (ne_eqb j.ask.tenant 0 h, ne_eqb (kept_quota s j.ask.tenant) 0 k)
      (below (kept_quota s j.ask.tenant) (usage jobs s.jobs j.ask.tenant) (charge_of j) l)
    where
      below : (kept used charge : ℕ) → used < kept → ltb charge (kept - used) ≡ leb (used + charge) (kept - 1)
      below kept used charge g =
          split (ltb charge (kept - used))
          (λ e. let p : charge < kept - used = ltb-true charge (kept - used) e in let q : used + charge ≤ kept - 1 =
          omega arith in rw (e, le-leb (used + charge) (kept - 1) q))
          (λ e. let p : kept - used ≤ charge = ltb-false charge (kept - used) e in let q : kept - 1 < used + charge =
          omega arith in rw (e, lt-leb (used + charge) (kept - 1) q))

-- each return of `within_quota`
pub ruleset quotas = (quota_no_tenant, quota_no_entry, quota_spent, quota_left)
