-- What a pass makes of each job: a victim, a placed job, or what it was.
use Rattle.std.specs.Prelude.{◌≡◌, refl, true, false, List, [], ◌∷◌, ◌++◌, ℕ, eqb, get_or, Float}
use Rattle.std.proofs.Common.{sym, ◌∙◌}
use Rattle.std.proofs.lemmas.Bool.{eqb-false}
use Rattle.laws.specs.Tests.{or_none}
use Rattle.laws.specs.Lists.{All, Apart, Distinct, all_append, all_left, all_right, all_snoc, all_member, all_members}
use Rattle.laws.specs.Search.{has, has_append, has_all, member_has}
use Rattle.model.specs.Job.{no_job}
use Rattle.model.specs.declared.job.Job.{Job}
use Rattle.model.specs.declared.job.JobState.TheVariants.{Waiting, Placed, Running}
use Rattle.model.specs.declared.setting.Setting.{Setting}
use Rattle.life.specs.Life as Life
use Rattle.cluster.specs.Usage.{runs}
use Rattle.cluster.specs.Usage as Usage
use Rattle.line.specs.Keep.{waits_in}
use Rattle.apart.specs.LineLaws.{victims_of}
use Rattle.apart.specs.Few.{apart_has}
use Rattle.pass.specs.Visit.{allocation}
use Rattle.apart.specs.Standing.{Standing, Looked, InState, job_at, placed_of, cleared, states_apart, looked_apart, place_other, place_it, place_behind, place_line, clear_other, clear_it, clear_behind, clear_places}
use Rattle.apart.specs.Leaving.{MayLeave, may_run}
use Rattle.apart.specs.Keeps.{Kept, placing}
use Rattle.pass.specs.declared.visit.Pass.{Pass}

-- jobs is the table as the pass began: a victim ran and was evicted, a placed job waited and is placed, every other is as it was
pub record Changes (clock : Float) (jobs : List Job) (p : Pass) : Type 0 where
  pub evicted : All (λ k. ((get_or jobs k no_job).state ≡ Running) × (job_at p k ≡ Life.evicted (get_or jobs k no_job) clock)) (victims_of p.line)
  pub placed : All (λ k. ((get_or jobs k no_job).state ≡ Waiting) × (job_at p k ≡ Life.placed (get_or jobs k no_job))) (placed_of p)
  pub others : (k : ℕ) → has k (victims_of p.line) ≡ false → has k (placed_of p) ≡ false → job_at p k ≡ get_or jobs k no_job

-- a property turned into another, for those of a list
all_in : (P Q : ℕ → Type 0) (l : List ℕ) → ((k : ℕ) → has k l ≡ true → P k → Q k) → All P l → All Q l
all_in P Q l f h = all_members Q l (λ k m. f k (member_has k l m) (all_member P k l h m))

-- what is apart from each of a list
apart_from : (l r : List ℕ) (k : ℕ) → All (λ x. Apart x r) l → has k l ≡ true → has k r ≡ false
apart_from l r k h m = apart_has k r (has_all (λ x. Apart x r) k l h m)

module _ (s : Setting) (clock : Float) (jobs : List Job) where
  -- it ran, and was evicted
  abbrev WasEvicted : Pass → ℕ → Type 0
  WasEvicted p k = ((get_or jobs k no_job).state ≡ Running) × (job_at p k ≡ Life.evicted (get_or jobs k no_job) clock)

  -- it waited, and is placed
  abbrev WasPlaced : Pass → ℕ → Type 0
  WasPlaced p k = ((get_or jobs k no_job).state ≡ Waiting) × (job_at p k ≡ Life.placed (get_or jobs k no_job))

  place_changes : (p : Pass) (id : ℕ) → Standing p → Looked p id → Changes clock jobs p → Changes clock jobs (placing s p id)
  place_changes p id so l c =
      let vs : List ℕ = victims_of p.line in
      let ps : List ℕ = placed_of p in
      let q : Pass = placing s p id in
      let a : Apart id (vs ++ ps) = looked_apart p so id l in
      let same : job_at p id ≡ get_or jobs id no_job = c.others id l.spared (apart_has id ps (all_right (λ y. id ≡ y → ⊥) vs ps a)) in
      let other : (k : ℕ) → (id ≡ k → ⊥) → job_at q k ≡ job_at p k = λ k n. place_other p so id l (job_at p id) (allocation s p id (job_at p id)) k (λ e. n (sym e)) in
      let e : placed_of q ≡ ps ++ (id ∷ []) = place_behind p so id l (job_at p id) (allocation s p id (job_at p id)) in
      let f : q.line ≡ p.line = place_line p so id l (job_at p id) (allocation s p id (job_at p id)) in
      record {
        evicted =
            rw f
            (all_in (WasEvicted p) (WasEvicted q) vs
            (λ k m w. (w.0, other k (has_all (λ y. id ≡ y → ⊥) k vs (all_left (λ y. id ≡ y → ⊥) vs ps a) m) ∙ w.1)) c.evicted);
        placed =
            rw e
            (all_snoc
            (WasPlaced q)
            ps
            id
            (all_in (WasPlaced p) (WasPlaced q) ps (λ k m w. (w.0, other k (has_all (λ y. id ≡ y → ⊥) k ps (all_right (λ y. id ≡ y → ⊥) vs ps a) m) ∙ w.1)) c.placed)
            (rw (← same) l.waiting, place_it p so id l (job_at p id) (allocation s p id (job_at p id)) ∙ rw same));
        others =
            λ k h g.
            let h : has k vs ≡ false = rw f at h in
            let g : (has k ps ≡ false) × (has k (id ∷ []) ≡ false) = or_none (has k ps) (has k (id ∷ [])) (rw (e, has_append k ps (id ∷ [])) at g) in
            let n : k ≡ id → ⊥ = eqb-false k id (or_none (eqb k id) false g.1).0 in
            other k (λ z. n (sym z)) ∙ c.others k h g.0;
      }

  clear_changes : (p : Pass) (id : ℕ) (vs : List ℕ) → Standing p → All (MayLeave s clock p id) vs → Distinct vs → Changes clock jobs p →
      Changes clock jobs (cleared clock p id vs)
  clear_changes p id vs so may once c =
      let ws : List ℕ = victims_of p.line in
      let ps : List ℕ = placed_of p in
      let q : Pass = cleared clock p id vs in
      let run : All (InState Running p.jobs) vs = may_run s clock p id vs may in
      let e : victims_of q.line ≡ ws ++ vs = clear_behind clock p so id vs run once in
      let g : placed_of q ≡ ps = clear_places clock p so id vs run once in
      let other : (k : ℕ) → has k vs ≡ false → job_at q k ≡ job_at p k = clear_other clock p so id vs run once in
      let waiting : All (λ x. Apart x vs) ws = states_apart waits_in Waiting Running p.jobs ws vs refl refl so.victims_wait run in
      let placed : All (λ x. Apart x vs) ps = states_apart Usage.placed Placed Running p.jobs ps vs refl refl so.placed_are run in
      let same : (k : ℕ) → has k vs ≡ true → job_at p k ≡ get_or jobs k no_job =
      λ k m. c.others k (apart_from vs ws k (states_apart runs Running Waiting p.jobs vs ws refl refl run so.victims_wait) m)
      (apart_from vs ps k (states_apart runs Running Placed p.jobs vs ps refl refl run so.placed_are) m) in
      record {
        evicted =
            rw e
            (all_append
            (WasEvicted q)
            ws
            vs
            (all_in (WasEvicted p) (WasEvicted q) ws (λ k m w. (w.0, other k (apart_from ws vs k waiting m) ∙ w.1)) c.evicted)
            (all_in (InState Running p.jobs) (WasEvicted q) vs (λ k m w. (rw (← same k m) w.1, clear_it clock p so id vs run once k m ∙ rw (same k m))) run));
        placed =
            rw g
            (all_in (WasPlaced p) (WasPlaced q) ps (λ k m w. (w.0, other k (apart_from ps vs k placed m) ∙ w.1)) c.placed);
        others =
            λ k h m.
            let h : (has k ws ≡ false) × (has k vs ≡ false) = or_none (has k ws) (has k vs) (rw (e, has_append k ws vs) at h) in
            other k h.1 ∙ c.others k h.0 (rw g at m);
      }

  -- each placing and each leaving keeps to it
  pub changes_kept : Kept s clock (Changes clock jobs)
  changes_kept =
      record {
        place = λ p id so l t c. place_changes p id so l c;
        clear = λ p id vs so l may once c. clear_changes p id vs so may once c;
      }
