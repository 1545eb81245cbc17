-- How a tenant's usage is added up, and how a write to a job changes it.
use Rattle.std.specs.Prelude.{◌≡◌, refl, true, false, List, ℕ, ◌+◌, ◌<◌, ◌≤◌, min, eqb, length, get_or, take, set}
use Rattle.std.specs.List.{sum_by}
use Rattle.std.proofs.Common.{sym, ap, ◌∙◌, arith, length-take, get_or-take, eq-eqb, ne_eqb}
use Rattle.std.proofs.Math.Seq.{take-set-lt}
use Rattle.std.proofs.lemmas.List.{take-set-le}
use Rattle.laws.specs.Tests.{and_left, and_right, both_and}
use Rattle.laws.specs.Sums.{sum_over, sum_set}
use Rattle.laws.specs.Tables.{take_least}
use Rattle.model.specs.Job.{no_job}
use Rattle.model.specs.declared.job.Job.{Job}
use Rattle.mig.specs.More.{sum_by_over}
use Rattle.cluster.specs.Usage.{holding, charge_of, charge_to, usage, charge_held, charge_free}

-- a job that holds something costs its tenant its charge
pub charge_own : (j : Job) → holding j ≡ true → charge_to j.ask.tenant j ≡ charge_of j
charge_own j h =
    sym (charge_held j.ask.tenant j (both_and (holding j) (eqb j.ask.tenant j.ask.tenant) h (eq-eqb j.ask.tenant j.ask.tenant refl)))

-- it costs no other tenant anything
pub charge_other : (tenant : ℕ) (j : Job) → (j.ask.tenant ≡ tenant → ⊥) → charge_to tenant j ≡ 0
charge_other tenant j h =
    sym (charge_free tenant j (and_right (holding j) (eqb j.ask.tenant tenant) (ne_eqb j.ask.tenant tenant h)))

-- a job that holds nothing costs nobody anything
pub charge_none : (tenant : ℕ) (j : Job) → holding j ≡ false → charge_to tenant j ≡ 0
charge_none tenant j h = sym (charge_free tenant j (and_left (holding j) (eqb j.ask.tenant tenant) h))

-- a write to a job takes its old charge out and puts the new one in
pub usage_set : (jobs : List Job) (n tenant i : ℕ) (j : Job) → i < n → i < length jobs →
    usage (set jobs i j) n tenant + charge_to tenant (get_or jobs i no_job) ≡ usage jobs n tenant + charge_to tenant j
unfolding usage
usage_set jobs n tenant i j h k =
    let l : i < length (take n jobs) = omega (arith, length-take n jobs) in
    let s : sum_over (charge_to tenant) (set (take n jobs) i j) + charge_to tenant (get_or (take n jobs) i no_job) ≡ sum_over (charge_to tenant)
    (take n jobs) + charge_to tenant j = sum_set (charge_to tenant) (take n jobs) i j no_job l in
    rw (take-set-lt n jobs i j h, ← get_or-take n jobs i no_job h) s

-- a write past the jobs changes nothing
pub usage_past : (jobs : List Job) (n tenant i : ℕ) (j : Job) → n ≤ i → usage (set jobs i j) n tenant ≡ usage jobs n tenant
unfolding usage
usage_past jobs n tenant i j h = rw (take-set-le n jobs i j h)

-- the charges of the first jobs, as many as a table holds, make the usage
pub usage_sum : (jobs : List Job) (n tenant : ℕ) → length jobs ≡ 128 → sum_by (charge_to tenant) (take (min n 128) jobs) ≡ usage jobs n tenant
unfolding usage
usage_sum jobs n tenant l =
    sum_by_over (charge_to tenant) (take (min n 128) jobs) ∙ ap (sum_over (charge_to tenant)) (take_least n 128 jobs (omega arith))
