-- A job that is seen to stay does stay: a visit of it changes nothing.
use Rattle.std.specs.Prelude.{◌≡◌, is_none, eqb, take, Float}
use Rattle.std.proofs.Math.Path.{refl}
use Rattle.std.proofs.Common.{sym, ap, ◌∙◌, arith}
use Rattle.std.proofs.Math.Logic.{⊎_elim}
use Rattle.std.proofs.Math.Bool.{true, false, not}
use mathlib.Core.List.{List, []}
use Prim.Native.Nat.{ℕ, ◌+◌, ◌-◌, ◌≤◌, ◌<◌, min}
use Rattle.std.proofs.Math.ListN.{length, get_or}
use borrow.Author.Tests.{eqb-true, eqb-false, lt-leb}
use Rattle.laws.specs.Tests.{split, fails, never_both, or_cases}
use Rattle.laws.specs.Lists.{All, all_weaken, all_take}
use Rattle.laws.specs.Search.{has, first, first_none, those_each}
use Rattle.laws.specs.Sort.{sort_all}
use Rattle.laws.specs.Loop.{through, through_step}
use Rattle.small.specs.Small.{plus_one}
use Rattle.model.specs.Job.{no_job}
use Rattle.model.specs.declared.gpu.Gpu.{Gpu}
use Rattle.model.specs.declared.job.Ask.{Ask}
use Rattle.model.specs.declared.job.Job.{Job}
use Rattle.model.specs.declared.setting.Setting.{Setting}
use Rattle.resource.specs.Cause.{resource_cause, placeable}
use Rattle.resource.specs.AllocateLaws.{placed_placeable, placeable_resources}
use Rattle.preemptive.specs.Candidate.{candidate_at, candidates_by_number, lower, candidates}
use Rattle.preemptive.specs.Prefix.{freed_all, evicted_all, opens, shortest, made, preempted}
use Rattle.line.specs.Keep.{waits}
use Rattle.pass.specs.Visit.{allocation, preempting_none, considered, considered_whole, considered_mig, visited, visited_other, visited_victim, visited_waiting}
use Rattle.pass.specs.Walk.{visit_at}
use Rattle.pass.specs.Stay.{is_short, is_over, whole_stays, stay}
use Rattle.pass.specs.ReachLaws.{short_unplaceable}
use Rattle.pass.specs.OverLaws.{over_unplaceable}
use Rattle.pass.specs.declared.visit.Pass.{Pass}

module _ (s : Setting) (jobs : List Job) (ask : Ask) where
  -- each candidate is the number of a loaded job that may have to make way
  pub candidates_each : All (λ i. (i < 128) × (i < s.jobs) × (candidate_at s.options.aware jobs ask i ≡ true)) (candidates s jobs ask)
  unfolding candidates candidates_by_number
  candidates_each =
      sort_all
      (lower jobs)
      (λ i. (i < 128) × (i < s.jobs) × (candidate_at s.options.aware jobs ask i ≡ true))
      (candidates_by_number s.options.aware jobs s.jobs ask)
      (all_weaken
      (λ i. (0 ≤ i) × (i < 0 + min s.jobs 128) × (candidate_at s.options.aware jobs ask i ≡ true))
      (λ i. (i < 128) × (i < s.jobs) × (candidate_at s.options.aware jobs ask i ≡ true))
      (candidates_by_number s.options.aware jobs s.jobs ask)
      (λ i r. (omega (arith, r.1), omega (arith, r.1), r.2))
      (those_each (candidate_at s.options.aware jobs ask) (min s.jobs 128) 0))

  -- each of the first k too
  prefix_each : (k : ℕ) → All (λ v. (v < 128) × (candidate_at s.options.aware jobs ask v ≡ true)) (take k (candidates s jobs ask))
  prefix_each k =
      all_take
      (λ v. (v < 128) × (candidate_at s.options.aware jobs ask v ≡ true))
      k
      (candidates s jobs ask)
      (all_weaken
      (λ i. (i < 128) × (i < s.jobs) × (candidate_at s.options.aware jobs ask i ≡ true))
      (λ v. (v < 128) × (candidate_at s.options.aware jobs ask v ≡ true))
      (candidates s jobs ask)
      (λ v r. (r.0, r.2))
      candidates_each)

module _ (s : Setting) (clock : Float) (gpus : List Gpu) (jobs : List Job) (j : Job) where
  -- where no prefix of the candidates helps nobody leaves
  none_leave : ((k : ℕ) → opens s clock gpus jobs j (candidates s jobs j.ask) k ≡ false) → (preempted s clock gpus jobs j).count ≡ 0
  unfolding preempted made shortest
  none_leave f =
      let cs : List ℕ = candidates s jobs j.ask in
      let e : first (opens s clock gpus jobs j cs) (length cs) 1 ≡ 1 + length cs = first_none (opens s clock gpus jobs j cs) (length cs) 1 (λ k a b. f k) in
      rw (e, lt-leb (1 + length cs) (length cs) (omega arith))

  module _ (whole : eqb j.ask.profile 0 ≡ true) (stays : whole_stays s gpus jobs j.ask ≡ true) where
    -- not placeable when some candidates have left
    whole_stuck : (vs : List ℕ) → All (λ v. (v < 128) × (candidate_at s.options.aware jobs j.ask v ≡ true)) vs →
        placeable s (freed_all gpus vs) (evicted_all clock jobs vs) j ≡ false
    unfolding whole_stays
    whole_stuck vs h =
        ⊎_elim
        (λ e. short_unplaceable s jobs j whole gpus (evicted_all clock jobs vs) vs e h)
        (λ e. over_unplaceable s jobs j e clock (freed_all gpus vs) vs h)
        (or_cases (is_short s gpus jobs j.ask) (is_over s jobs j.ask) stays)

    -- nor as things stand
    whole_unplaceable : placeable s gpus jobs j ≡ false
    unfolding freed_all evicted_all
    whole_unplaceable = whole_stuck [] tt

    -- so it makes nobody leave
    whole_alone : (preempted s clock gpus jobs j).count ≡ 0
    whole_alone = none_leave (λ k. whole_stuck (take k (candidates s jobs j.ask)) (prefix_each s jobs j.ask k))

  -- a job that lacks its resources is not placeable
  lacks_unplaceable : not (is_none (resource_cause s gpus j)) ≡ true → placeable s gpus jobs j ≡ false
  lacks_unplaceable h =
      fails (placeable s gpus jobs j) (λ t. never_both (rw (placeable_resources s gpus jobs j t) at h) refl)

module _ (s : Setting) (clock : Float) (p : Pass) (id : ℕ) where
  -- a waiting job that is seen to stay
  stay_considered : waits (get_or p.jobs id no_job) ≡ true → stay s p.gpus p.jobs id ≡ true → p ≡ considered s clock p id (get_or p.jobs id no_job)
  unfolding stay
  stay_considered t h =
      let j : Job = get_or p.jobs id no_job in
      let q : placeable s p.gpus p.jobs j ≡ false → (allocation s p id j).placed ≡ false = λ e. placed_placeable s p.gpus p.jobs j (plus_one id) ∙ e in
      split
      (eqb j.ask.profile 0)
      (λ z. let w : whole_stays s p.gpus p.jobs j.ask ≡ true = rw (t, z) at h in
      considered_whole s p id j (allocation s p id j) refl clock p (q (whole_unplaceable s clock p.gpus p.jobs j z w))
      (eqb-true j.ask.profile 0 z) (preempting_none s clock p id j (preempted s clock p.gpus p.jobs j) refl
      (whole_alone s clock p.gpus p.jobs j z w)))
      (λ z. let w : not (is_none (resource_cause s p.gpus j)) ≡ true = rw (t, z) at h in
      considered_mig s p id j (allocation s p id j) refl clock (q (lacks_unplaceable s clock p.gpus p.jobs j w)) (eqb-false j.ask.profile 0 z))

  -- a visit of a job that is seen to stay changes nothing
  pub stay_visited : stay s p.gpus p.jobs id ≡ true → visited s clock p id ≡ p
  stay_visited h =
      let j : Job = get_or p.jobs id no_job in
      split
      (waits j)
      (λ t. split
      (has id (take p.line.evicted p.line.victims))
      (λ v. sym (visited_victim s clock p id j refl t v))
      (λ v. sym (visited_waiting s clock p id j refl p t v (stay_considered t h))))
      (λ t. sym (visited_other s clock p id j refl t))

-- a turn of the walk that skips such a job
pub skip_step : (s : Setting) (clock : Float) (queue : List ℕ) (p : Pass) (n i : ℕ) → i < n → stay s p.gpus p.jobs (get_or queue i 0) ≡ true →
    through (visit_at s clock queue) p (n - (i + 1)) (i + 1) ≡ through (visit_at s clock queue) p (n - i) i
skip_step s clock queue p n i h t =
    ap (λ (q : Pass). through (visit_at s clock queue) q (n - (i + 1)) (i + 1)) (sym (stay_visited s clock p (get_or queue i 0) t))
    ∙ through_step (visit_at s clock queue) p n i h
