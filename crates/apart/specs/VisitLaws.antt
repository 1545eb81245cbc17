-- What a visit comes to, case by case.
use Rattle.std.specs.Prelude.{◌≡◌, false, ℕ, ◌<◌, ◌≤◌, length, Float}
use Rattle.std.proofs.Math.Path.{refl, sym, ap}
use Rattle.std.proofs.Common.{◌∙◌, ⊎_elim, arith}
use Rattle.std.proofs.Math.Bool.{true}
use Rattle.laws.specs.Tests.{split, le_or_lt, never_both}
use Rattle.laws.specs.Search.{has}
use Rattle.small.specs.Small.{plus_one}
use Rattle.model.specs.declared.setting.Setting.{Setting}
use Rattle.line.specs.Keep.{waits_in, waits}
use Rattle.apart.specs.LineLaws.{victims_of}
use Rattle.resource.specs.Cause.{placeable}
use Rattle.resource.specs.AllocateLaws.{placed_placeable}
use Rattle.preemptive.specs.Candidate.{candidates}
use Rattle.preemptive.specs.Prefix.{opens}
use Rattle.apart.specs.PrefixLaws.{preempted_count, preempted_opens}
use Rattle.pass.specs.Visit.{allocation, placed_as, made_way, preempting, considered, visited, settled_placed, preempting_none, preempting_some, considered_placed, considered_whole, considered_mig, visited_other, visited_victim, visited_waiting}
use Rattle.apart.specs.Standing.{Looked, job_at, cleared}
use Rattle.apart.specs.Leaving.{preemption, leaving, way_cleared}
use Rattle.apart.specs.Keeps.{placing}
use Rattle.pass.specs.declared.visit.Pass.{Pass}

module _ (s : Setting) (clock : Float) (p : Pass) (id : ℕ) where
  -- a job that does not wait is not looked at
  pub visit_other : waits (job_at p id) ≡ false → visited s clock p id ≡ p
  visit_other f = sym (visited_other s clock p id (job_at p id) refl f)

  -- nor is a victim of this pass
  pub visit_victim : has id (victims_of p.line) ≡ true → visited s clock p id ≡ p
  visit_victim v =
      split
      (waits (job_at p id))
      (λ t. sym (visited_victim s clock p id (job_at p id) refl t v))
      (λ f. visit_other f)

  -- where no nonempty prefix of the candidates makes it placeable, preempting for it leaves all as it was
  pub no_prefix : ((m : ℕ) → 0 < m → m ≤ length (candidates s p.jobs (job_at p id).ask) →
      opens s clock p.gpus p.jobs (job_at p id) (candidates s p.jobs (job_at p id).ask) m ≡ false) → (preemption s clock p id).count ≡ 0
  no_prefix f =
      ⊎_elim
      (λ z. omega arith)
      (λ z. let r = preempted_count s clock p.gpus p.jobs (job_at p id) in
      absurd (never_both (r.enough z) (f (preemption s clock p id).count z r.within)))
      (le_or_lt (preemption s clock p id).count 0)

  pub preempting_nobody : (preemption s clock p id).count ≡ 0 → preempting s clock p id (job_at p id) ≡ p
  preempting_nobody z = sym (preempting_none s clock p id (job_at p id) (preemption s clock p id) refl z)

  -- jobs leave only for a job that is placed then
  pub preempting_places : 0 < (preemption s clock p id).count →
      preempting s clock p id (job_at p id) ≡ placed_as (cleared clock p id (leaving s clock p id)) id (job_at p id)
      (allocation s (cleared clock p id (leaving s clock p id)) id (job_at p id))
  unfolding made_way
  preempting_places h =
      let way : Pass = made_way clock p id (preemption s clock p id) in
      let t : (allocation s way id (job_at p id)).placed ≡ true = placed_placeable s way.gpus way.jobs (job_at p id) (plus_one id)
      ∙ preempted_opens s clock p.gpus p.jobs (job_at p id) h in
      let r : Pass = placed_as way id (job_at p id) (allocation s way id (job_at p id)) in
      let e : r ≡ preempting s clock p id (job_at p id) =
      preempting_some s clock p id (job_at p id) (preemption s clock p id) refl r way (λ z. omega arith) refl
      (settled_placed s way id (job_at p id) (allocation s way id (job_at p id)) refl r t refl) in
      sym e ∙ ap (λ (q : Pass). placed_as q id (job_at p id) (allocation s q id (job_at p id))) (way_cleared s clock p id)

module _ (s : Setting) (clock : Float) (p : Pass) (id : ℕ) (looked : Looked p id) where
  looks : (r : Pass) → r ≡ considered s clock p id (job_at p id) → visited s clock p id ≡ r
  looks r e = sym (visited_waiting s clock p id (job_at p id) refl r (ap waits_in looked.waiting) looked.spared e)

  -- one that waits and is placeable is placed
  pub visit_places : placeable s p.gpus p.jobs (job_at p id) ≡ true → visited s clock p id ≡ placing s p id
  visit_places t =
      looks
      (placing s p id)
      (considered_placed s p id (job_at p id) (allocation s p id (job_at p id)) refl clock (placing s p id)
      (placed_placeable s p.gpus p.jobs (job_at p id) (plus_one id) ∙ t) refl)

  module _ (full : placeable s p.gpus p.jobs (job_at p id) ≡ false) where
    unplaced : (allocation s p id (job_at p id)).placed ≡ false
    unplaced = placed_placeable s p.gpus p.jobs (job_at p id) (plus_one id) ∙ full

    -- a MIG job that is not placeable changes nothing: it does not preempt
    pub visit_mig : ((job_at p id).ask.profile ≡ 0 → ⊥) → visited s clock p id ≡ p
    visit_mig z = looks p (considered_mig s p id (job_at p id) (allocation s p id (job_at p id)) refl clock unplaced z)

    visit_whole : (job_at p id).ask.profile ≡ 0 → visited s clock p id ≡ preempting s clock p id (job_at p id)
    visit_whole z =
        looks
        (preempting s clock p id (job_at p id))
        (considered_whole s p id (job_at p id) (allocation s p id (job_at p id)) refl clock (preempting s clock p id (job_at p id)) unplaced z refl)

    -- a whole-GPU job for which no prefix of the candidates helps changes nothing
    pub visit_nobody : (job_at p id).ask.profile ≡ 0 → (preemption s clock p id).count ≡ 0 → visited s clock p id ≡ p
    visit_nobody z n = visit_whole z ∙ preempting_nobody s clock p id n

    -- one for which a prefix helps is placed when the shortest has left
    pub visit_preempts : (job_at p id).ask.profile ≡ 0 → 0 < (preemption s clock p id).count →
        visited s clock p id ≡ placed_as (cleared clock p id (leaving s clock p id)) id (job_at p id)
        (allocation s (cleared clock p id (leaving s clock p id)) id (job_at p id))
    visit_preempts z h = visit_whole z ∙ preempting_places s clock p id h
