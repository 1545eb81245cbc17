-- A waiting job is seen to stay: too few GPUs or over its quota even if every candidate for it left; no slices for a MIG job.
use Rattle.std.specs.Prelude.{◌≡◌, Bool, true, not, ◌&&◌, ◌||◌, List, ℕ, ◌+◌, ◌-◌, ◌≤◌, ◌<◌, min, eqb, length, get_or, take, refl, Option, Some, None, is_some, is_none}
use Rattle.std.proofs.Math.Bool.{false}
use native.Mathlib.Omega.{arith}
use Rattle.std.proofs.Math.Dec.{leb}
use borrow.Author.Tests.{eq-eqb, ne_eqb, le-leb, leb-true, leb-false, lt-leb}
use Rattle.laws.specs.Choice.{pick}
use Rattle.laws.specs.Tests.{split}
use Rattle.laws.specs.Search.{those}
use Rattle.laws.specs.Sums.{sum_over, sum_next}
use Rattle.model.specs.Sizes as Sizes
use Rattle.model.specs.Gpu.{no_gpu}
use Rattle.model.specs.Job.{no_job}
use Rattle.model.specs.declared.gpu.Gpu.{Gpu}
use Rattle.model.specs.declared.job.Ask.{Ask}
use Rattle.model.specs.declared.job.Job.{Job}
use Rattle.model.specs.declared.setting.Setting.{Setting}
use Rattle.cluster.specs.Gpus.{with_owner}
use Rattle.cluster.specs.Usage.{charge_to}
use Rattle.eligible.specs.Rule.{eligible}
use Rattle.eligible.specs.Keys.{node_keys}
use Rattle.eligible.specs.Eligible.{site_of}
use Rattle.choice.specs.Why.{is_enough, why_not}
use Rattle.choice.specs.declared.why.Why.{Why}
use Rattle.resource.specs.Quota.{kept_quota}
use Rattle.resource.specs.Cause.{resource_cause}
use Rattle.preemptive.specs.Candidate.{candidate, candidate_at}
use Rattle.line.specs.Keep.{waits}

-- nobody's, or a candidate's
abbrev pub may_be_free : Bool → List Job → Ask → ℕ → Bool
may_be_free aware jobs ask owner = pick (eqb owner 0) true (candidate_at aware jobs ask (owner - 1))

-- The job could have the GPU if every candidate left.
unfoldable pub reachable : Bool → List ℕ → List Job → Ask → Gpu → Bool
reachable aware sites jobs ask g = eligible ask (site_of sites g) (with_owner 0 g) && may_be_free aware jobs ask g.owner

abbrev pub reachable_at : Bool → List ℕ → List Job → Ask → List Gpu → ℕ → Bool
reachable_at aware sites jobs ask gpus i = reachable aware sites jobs ask (get_or gpus i no_gpu)

-- those of the first n GPUs that it could have
unfoldable pub reachables : Bool → List Gpu → ℕ → List ℕ → List Job → Ask → List ℕ
reachables aware gpus n sites jobs ask = those (reachable_at aware sites jobs ask gpus) (min n Sizes.gpus) 0

-- too few GPUs even then
unfoldable pub is_short : Setting → List Gpu → List Job → Ask → Bool
is_short s gpus jobs ask = not (is_enough (why_not (node_keys gpus) (reachables s.options.aware gpus s.gpus s.sites jobs ask) ask))

-- what a job costs the tenant now, also if every candidate left
unfoldable pub kept_charge : Bool → Ask → Job → ℕ
kept_charge aware ask j = pick (candidate aware ask j) 0 (charge_to ask.tenant j)

-- what the tenant would use of its quota
unfoldable pub used_at_least : Bool → ℕ → List Job → Ask → ℕ
used_at_least aware n jobs ask = sum_over (kept_charge aware ask) (take n jobs)

-- over the tenant's quota even then
unfoldable pub is_over : Setting → List Job → Ask → Bool
is_over s jobs ask =
    pick (eqb ask.tenant 0) false
    (pick (eqb (kept_quota s ask.tenant) 0) false
    (leb (kept_quota s ask.tenant) (used_at_least s.options.aware s.jobs jobs ask + ask.count)))

unfoldable pub whole_stays : Setting → List Gpu → List Job → Ask → Bool
whole_stays s gpus jobs ask = is_short s gpus jobs ask || is_over s jobs ask

-- The visit of the job would change nothing.
unfoldable pub stay : Setting → List Gpu → List Job → ℕ → Bool
stay s gpus jobs id =
    let j = get_or jobs id no_job in
    pick (waits j) (pick (eqb j.ask.profile 0) (whole_stays s gpus jobs j.ask) (not (is_none (resource_cause s gpus j)))) true

-- ---- the cases

-- what is some is not none
pub some_not_none : {A : Type 0} (o : Option A) → is_some o ≡ not (is_none o)
some_not_none None = refl
some_not_none (Some x) = refl

pub free_then : (aware : Bool) (jobs : List Job) (ask : Ask) (owner : ℕ) (r : Bool) → (owner ≡ 0 → ⊥) → r ≡ candidate_at aware jobs ask (owner - 1) →
    r ≡ may_be_free aware jobs ask owner
free_then aware jobs ask owner r h e = rw (ne_eqb owner 0 h) e

pub charge_gone : (aware : Bool) (ask : Ask) (j : Job) → candidate aware ask j ≡ true → 0 ≡ kept_charge aware ask j
unfolding kept_charge
charge_gone aware ask j h = rw h

module _ (s : Setting) (jobs : List Job) (ask : Ask) where
  pub over_no_tenant : ask.tenant ≡ 0 → false ≡ is_over s jobs ask
  unfolding is_over
  over_no_tenant h = rw (eq-eqb ask.tenant 0 h)

  module _ (some : ask.tenant ≡ 0 → ⊥) where
    pub over_no_entry : kept_quota s ask.tenant ≡ 0 → false ≡ is_over s jobs ask
    unfolding is_over
    over_no_entry k = rw (ne_eqb ask.tenant 0 some, eq-eqb (kept_quota s ask.tenant) 0 k)

    module _ (entry : kept_quota s ask.tenant ≡ 0 → ⊥) (used : ℕ) (is : used ≡ used_at_least s.options.aware s.jobs jobs ask) where
      pub over_left : leb (kept_quota s ask.tenant - used) ask.count ≡ is_over s jobs ask
      unfolding is_over
      over_left = rw (ne_eqb ask.tenant 0 some, ne_eqb (kept_quota s ask.tenant) 0 entry, ← is) (left (kept_quota s ask.tenant) used ask.count)
        where
          left : (kept used count : ℕ) → leb (kept - used) count ≡ leb kept (used + count)
          left kept used count =
              split (leb (kept - used) count)
              (λ e. let p : kept - used ≤ count = leb-true (kept - used) count e in let q : kept ≤ used + count = omega arith in rw (e, le-leb kept (used + count) q))
              (λ e. let p : count < kept - used = leb-false (kept - used) count e in let q : used + count < kept = omega arith in rw (e, lt-leb kept (used + count) q))

module _ (s : Setting) (gpus : List Gpu) (jobs : List Job) (ask : Ask) where
  -- the keys may be any that give the same cause
  pub short_looked : (why : Option Why) (keys l : List ℕ) → why ≡ why_not keys l ask → why_not keys l ask ≡ why_not (node_keys gpus) l ask →
      l ≡ reachables s.options.aware gpus s.gpus s.sites jobs ask → is_some why ≡ is_short s gpus jobs ask
  unfolding is_short
  short_looked why keys l e f g = rw (← g, ← f, ← e) (some_not_none why)

-- ---- the turns of the loop

-- a turn adds what the job at hand costs
pub used_turn : (aware : Bool) (jobs : List Job) (ask : Ask) (i sum r : ℕ) (d : Job) → i < length jobs →
    sum ≡ sum_over (kept_charge aware ask) (take i jobs) → r ≡ kept_charge aware ask (get_or jobs i d) → sum + r ≡ sum_over (kept_charge aware ask) (take (i + 1) jobs)
used_turn aware jobs ask i sum r d h e g = omega (arith, e, g, sum_next (kept_charge aware ask) jobs i d h)
