-- The decisions of a pass: one for each victim, in the order of eviction.
use Rattle.std.specs.Prelude.{◌≡◌, refl, ℕ, ◌+◌, ◌≤◌, Float}
use Rattle.std.proofs.Common.{◌∙◌, arith}
use mathlib.Core.List.{List, [], ◌∷◌, ◌++◌, map, append_assoc}
use Rattle.std.proofs.Math.ListN.{length}
use Rattle.laws.specs.Lists.{All, Distinct, all_append, all_map, all_every}
use Rattle.model.specs.Number.{bits_of}
use Rattle.model.specs.declared.job.JobState.TheVariants.{Running}
use Rattle.model.specs.declared.setting.Setting.{Setting}
use Rattle.decision_log.specs.Log.{decisions}
use Rattle.decision_log.specs.declared.Decision.{Decision}
use Rattle.decision_log.specs.declared.Kind.TheVariants.{Evicted}
use Rattle.eligible.specs.More.{map_append}
use Rattle.apart.specs.LineLaws.{victims_of, eviction_told, joins_count, joins_decisions}
use Rattle.preemptive.specs.Prefix.{evicted_all}
use Rattle.pass.specs.Visit.{placed_as}
use Rattle.apart.specs.Standing.{Standing, InState, cleared, clear_room, clear_evicted, clear_behind}
use Rattle.apart.specs.Leaving.{MayLeave, may_run}
use Rattle.apart.specs.Keeps.{Kept, placing}
use Rattle.pass.specs.declared.visit.Pass.{Pass}

-- told were the decisions as the pass began, n of them; the evictions follow, at the clock, one for each victim
pub record Told (clock : Float) (told : List Decision) (n : ℕ) (p : Pass) : Type 0 where
  pub evictions : List Decision
  pub all : decisions p.line.log ≡ told ++ evictions
  pub jobs : map (λ d. d.job) evictions ≡ victims_of p.line
  pub each : All (λ d. (d.time ≡ bits_of clock) × (d.kind ≡ Evicted)) evictions
  pub count : p.line.log.count ≡ n + p.line.evicted

-- the decisions on some victims name them
told_jobs : (clock : Float) (by : ℕ) (vs : List ℕ) → map (λ d. d.job) (map (eviction_told clock by) vs) ≡ vs
told_jobs clock by [] = refl
told_jobs clock by (v ∷ vs) = rw (told_jobs clock by vs)

module _ (s : Setting) (clock : Float) (told : List Decision) (n : ℕ) (few : n ≤ 1) where
  place_told : (p : Pass) (id : ℕ) → Told clock told n p → Told clock told n (placing s p id)
  unfolding placed_as
  place_told p id t = record { evictions = t.evictions; all = t.all; jobs = t.jobs; each = t.each; count = t.count }

  clear_told : (p : Pass) (id : ℕ) (vs : List ℕ) → Standing p → All (MayLeave s clock p id) vs → Distinct vs → Told clock told n p →
      Told clock told n (cleared clock p id vs)
  unfolding cleared
  clear_told p id vs so may once t =
      let run : All (InState Running p.jobs) vs = may_run s clock p id vs may in
      let room : p.line.log.count + length vs ≤ 129 = omega (arith, clear_room clock p so id vs run once, t.count) in
      let new : List Decision = map (eviction_told clock id) vs in
      record {
        evictions = t.evictions ++ new;
        all = joins_decisions clock (evicted_all clock p.jobs vs) id p.line vs so.line room ∙ rw t.all (append_assoc told t.evictions new);
        jobs = rw (clear_behind clock p so id vs run once, map_append (λ (d : Decision). d.job) t.evictions new, t.jobs, told_jobs clock id vs);
        each =
            all_append
            (λ d. (d.time ≡ bits_of clock) × (d.kind ≡ Evicted))
            t.evictions
            new
            t.each
            (all_map (λ d. (d.time ≡ bits_of clock) × (d.kind ≡ Evicted)) (eviction_told clock id) vs
            (all_every (λ v. ((eviction_told clock id v).time ≡ bits_of clock) × ((eviction_told clock id v).kind ≡ Evicted)) vs (λ v. (refl, refl))));
        count = joins_count clock (evicted_all clock p.jobs vs) id p.line vs room ∙ rw (clear_evicted clock p so id vs run once) (omega (arith, t.count));
      }

  -- each placing and each leaving keeps to it
  pub told_kept : Kept s clock (Told clock told n)
  told_kept =
      record {
        place = λ p id so l g t. place_told p id t;
        clear = λ p id vs so l may once t. clear_told p id vs so may once t;
      }
