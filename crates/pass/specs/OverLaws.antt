-- A job that is over its quota without every candidate is so now and after any candidates have left.
use Rattle.std.specs.Prelude.{◌≡◌, Bool, true, false, eqb, take, set, Float}
use Rattle.std.proofs.Math.Path.{refl, sym}
use Rattle.std.proofs.Common.{◌∙◌, arith, get_or-take}
use Rattle.std.proofs.Math.Logic.{⊎_elim}
use mathlib.Core.List.{List, [], ◌∷◌}
use Prim.Native.Nat.{ℕ, ◌+◌, ◌-◌, ◌≤◌, ◌<◌}
use Rattle.std.proofs.Math.ListN.{get_or}
use Rattle.std.proofs.Math.Seq.{take-set-lt}
use Rattle.std.proofs.lemmas.List.{take-set-le}
use borrow.Author.Tests.{leb-true, eqb-false}
use Rattle.laws.specs.Choice.{pick_either}
use Rattle.laws.specs.Tests.{split, fails, never_both, le_or_lt}
use Rattle.laws.specs.Lists.{All, all_weaken, all_every, set_kept}
use Rattle.laws.specs.Sums.{sum_le, sum_kept}
use Rattle.model.specs.Job.{no_job}
use Rattle.model.specs.declared.gpu.Gpu.{Gpu}
use Rattle.model.specs.declared.job.Ask.{Ask}
use Rattle.model.specs.declared.job.Job.{Job}
use Rattle.model.specs.declared.setting.Setting.{Setting}
use Rattle.life.specs.Life.{evicted}
use Rattle.cluster.specs.Usage.{holding, charge_of, charge_to, usage}
use Rattle.cluster.specs.UsageLaws.{charge_none}
use Rattle.resource.specs.Quota.{kept_quota, within_quota}
use Rattle.resource.specs.AllocateLaws.{placeable_quota}
use Rattle.resource.specs.Cause.{placeable}
use Rattle.preemptive.specs.Candidate.{candidate, candidate_at}
use Rattle.preemptive.specs.Prefix.{evicted_all}
use Rattle.pass.specs.Stay.{kept_charge, used_at_least, is_over, charge_gone}

module _ (aware : Bool) (ask : Ask) where
  -- no job costs more than it does now
  kept_most : (j : Job) → kept_charge aware ask j ≤ charge_to ask.tenant j
  unfolding kept_charge
  kept_most j =
      pick_either (λ n. n ≤ charge_to ask.tenant j) (candidate aware ask j) 0 (charge_to ask.tenant j) (omega arith) (omega arith)

  -- a victim holds nothing
  evicted_holds : (clock : Float) (j : Job) → holding (evicted j clock) ≡ false
  unfolding holding evicted
  evicted_holds clock j = refl

  -- and costs nothing
  kept_evicted : (clock : Float) (j : Job) → kept_charge aware ask (evicted j clock) ≡ 0
  unfolding kept_charge
  kept_evicted clock j =
      pick_either
      (λ n. n ≡ 0)
      (candidate aware ask (evicted j clock))
      0
      (charge_to ask.tenant (evicted j clock))
      refl
      (charge_none ask.tenant (evicted j clock) (evicted_holds clock j))

  -- a write that costs the same
  used_set : (n : ℕ) (jobs : List Job) (v : ℕ) (new : Job) → kept_charge aware ask new ≡ kept_charge aware ask (get_or jobs v no_job) →
      used_at_least aware n (set jobs v new) ask ≡ used_at_least aware n jobs ask
  unfolding used_at_least
  used_set n jobs v new e =
      ⊎_elim
      (λ h. rw (take-set-le n jobs v new h))
      (λ h. rw (take-set-lt n jobs v new h)
      (sum_kept (kept_charge aware ask) (take n jobs) v new no_job (rw (get_or-take n jobs v no_job h) e)))
      (le_or_lt n v)

  -- when candidates leave the tenant would use as much
  used_evicted : (clock : Float) (n : ℕ) (jobs : List Job) (vs : List ℕ) → All (λ v. kept_charge aware ask (get_or jobs v no_job) ≡ 0) vs →
      used_at_least aware n (evicted_all clock jobs vs) ask ≡ used_at_least aware n jobs ask
  unfolding evicted_all
  used_evicted clock n jobs [] h = refl
  used_evicted clock n jobs (v ∷ vs) h =
      let old : Job = get_or jobs v no_job in
      let new : Job = evicted old clock in
      let e : kept_charge aware ask new ≡ kept_charge aware ask old = kept_evicted clock old ∙ sym h.0 in
      used_evicted
      clock
      n
      (set jobs v new)
      vs
      (all_weaken (λ w. kept_charge aware ask (get_or jobs w no_job) ≡ 0) (λ w. kept_charge aware ask (get_or (set jobs v new) w no_job) ≡ 0) vs
      (λ w z. set_kept jobs v new no_job (kept_charge aware ask) e w ∙ z) h.1) ∙ used_set n jobs v new e

  -- and does use at least as much
  used_usage : (n : ℕ) (jobs : List Job) → used_at_least aware n jobs ask ≤ usage jobs n ask.tenant
  unfolding used_at_least usage
  used_usage n jobs =
      sum_le (kept_charge aware ask) (charge_to ask.tenant) (take n jobs) (all_every (λ j. kept_charge aware ask j ≤ charge_to ask.tenant j) (take n jobs) kept_most)

module _ (s : Setting) (jobs : List Job) (j : Job) (over : is_over s jobs j.ask ≡ true) where
  -- whoever uses no less is over the quota too
  over_quota : (left : List Job) → used_at_least s.options.aware s.jobs jobs j.ask ≤ usage left s.jobs j.ask.tenant → within_quota s left j ≡ true → ⊥
  unfolding is_over within_quota charge_of
  over_quota left h w =
      split
      (eqb j.ask.tenant 0)
      (λ a. never_both (rw a at over) refl)
      (λ a. split
      (eqb (kept_quota s j.ask.tenant) 0)
      (λ b. never_both (rw (a, b) at over) refl)
      (λ b. let kept : ℕ = kept_quota s j.ask.tenant in
      let some : kept ≡ 0 → ⊥ = eqb-false kept 0 b in
      let o : kept ≤ used_at_least s.options.aware s.jobs jobs j.ask + j.ask.count =
      leb-true kept (used_at_least s.options.aware s.jobs jobs j.ask + j.ask.count) (rw (a, b) at over) in
      let u : usage left s.jobs j.ask.tenant + j.ask.count ≤ kept - 1 =
      leb-true (usage left s.jobs j.ask.tenant + j.ask.count) (kept - 1) (rw (a, b) at w) in
      omega (arith, some, o, u, h)))

  -- so it is not placeable when candidates have left
  pub over_unplaceable : (clock : Float) (free : List Gpu) (vs : List ℕ) →
      All (λ v. (v < 128) × (candidate_at s.options.aware jobs j.ask v ≡ true)) vs → placeable s free (evicted_all clock jobs vs) j ≡ false
  over_unplaceable clock free vs h =
      let left : List Job = evicted_all clock jobs vs in
      let z : All (λ v. kept_charge s.options.aware j.ask (get_or jobs v no_job) ≡ 0) vs =
      all_weaken
      (λ v. (v < 128) × (candidate_at s.options.aware jobs j.ask v ≡ true))
      (λ v. kept_charge s.options.aware j.ask (get_or jobs v no_job) ≡ 0)
      vs
      (λ v c. sym (charge_gone s.options.aware j.ask (get_or jobs v no_job) c.1))
      h in
      fails
      (placeable s free left j)
      (λ t. over_quota left (omega (
        arith,
        used_evicted s.options.aware j.ask clock s.jobs jobs vs z,
        used_usage s.options.aware j.ask s.jobs left,
      )) (placeable_quota s free left j t))
