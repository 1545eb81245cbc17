-- A pass keeps what holds all along: each eviction is told as it is made, and a placing is within its tenant's quota.
use Rattle.std.specs.Prelude.{◌≡◌, ◌⊎◌, false, ℕ, ◌+◌, ◌≤◌, ◌<◌, set, Float}
use Rattle.std.proofs.Math.Path.{sym}
use Rattle.std.proofs.Common.{ap, ◌∙◌, inl, inr, ⊎_elim, arith, get_or-set_other}
use Rattle.std.proofs.Math.Bool.{true}
use mathlib.Core.List.{List, [], ◌∷◌, ◌++◌, map, append_assoc, append-nil}
use Rattle.std.proofs.Math.ListN.{length}
use Rattle.laws.specs.Tests.{never_both}
use Rattle.laws.specs.Lists.{All, Apart, Distinct, all_weaken, all_both}
use Rattle.small.specs.Small.{plus_one}
use Rattle.model.specs.Job.{no_job}
use Rattle.model.specs.Number.{bits_of}
use Rattle.model.specs.declared.job.Ask.{Ask}
use Rattle.model.specs.declared.job.Job.{Job}
use Rattle.model.specs.declared.setting.Setting.{Setting}
use Rattle.decision_log.specs.Log.{decisions}
use Rattle.decision_log.specs.declared.Decision.{Decision}
use Rattle.life.specs.Life as Life
use Rattle.resource.specs.Cause.{placeable}
use Rattle.resource.specs.AllocateLaws.{placed_placeable, placeable_quota}
use Rattle.preemptive.specs.Prefix.{evicted_all}
use Rattle.apart.specs.CandidateLaws.{MakesWay}
use Rattle.line.specs.Line.{joined_all}
use Rattle.apart.specs.LineLaws.{eviction_told, joins_decisions, joins_count, joins_evicted}
use Rattle.pass.specs.Visit.{placed_as, allocation}
use Rattle.apart.specs.Standing.{Standing, Looked, cleared, looked_in, clear_room}
use Rattle.apart.specs.Leaving.{MayLeave, may_run}
use Rattle.apart.specs.Keeps.{Kept, placing}
use Rattle.pass.specs.declared.visit.Pass.{Pass}
use Rattle.history.specs.Good.{job_at, Good}
use Rattle.history.proofs.Changes.{good_evicted, good_placed}
use Rattle.history.specs.PassGood.{PassGood}

-- a job that may have to leave for one that asks so, as the table stands
abbrev Leaves : Setting → List Job → Ask → ℕ → Type 0
Leaves s jobs ask v = (v < 128) × MakesWay s.options.aware ask (job_at jobs v)

-- the eviction of one leaves the others as they are
leaves_other : (s : Setting) (jobs : List Job) (ask : Ask) (v : ℕ) (j : Job) (vs : List ℕ) → Apart v vs → All (Leaves s jobs ask) vs →
    All (Leaves s (set jobs v j) ask) vs
leaves_other s jobs ask v j vs a l =
    all_weaken
    (λ w. (v ≡ w → ⊥) × Leaves s jobs ask w)
    (Leaves s (set jobs v j) ask)
    vs
    (λ w q. (q.1.0, rw (get_or-set_other jobs v w j no_job (λ e. q.0 (sym e))) q.1.1))
    (all_both (λ w. v ≡ w → ⊥) (Leaves s jobs ask) vs a l)

-- jobs leave one after the other, each told
pub good_leave : (s : Setting) (clock : Float) (jobs₀ jobs : List Job) (h : List Decision) (id : ℕ) (vs : List ℕ) →
    All (Leaves s jobs (job_at jobs₀ id).ask) vs → Distinct vs → Good s jobs₀ jobs h → Good s jobs₀ (evicted_all clock jobs vs) (h ++ map (eviction_told clock id) vs)
unfolding evicted_all
good_leave s clock jobs₀ jobs h id [] l d g = rw (append-nil) g
good_leave s clock jobs₀ jobs h id (v ∷ vs) l d g =
    let m : MakesWay s.options.aware (job_at jobs₀ id).ask (job_at jobs v) = l.0.1 in
    let one : Good s jobs₀ (set jobs v (Life.evicted (job_at jobs v) clock)) (h ++ (eviction_told clock id v ∷ [])) =
    good_evicted s jobs₀ jobs h g v (bits_of clock) id clock l.0.0 m.runs_now m.few (λ aware. own_tenant aware m.tenants) in
    rw (← append_assoc h (eviction_told clock id v ∷ []) (map (eviction_told clock id) vs))
    (good_leave s clock jobs₀ (set jobs v (Life.evicted (job_at jobs v) clock)) (h ++ (eviction_told clock id v ∷ [])) id vs
    (leaves_other s jobs (job_at jobs₀ id).ask v (Life.evicted (job_at jobs v) clock) vs d.0 l.1) d.1 one)
  where
    own_tenant : s.options.aware ≡ true → (s.options.aware ≡ false) ⊎
        (((job_at jobs₀ id).ask.tenant ≡ 0) ⊎ ((job_at jobs v).ask.tenant ≡ (job_at jobs₀ id).ask.tenant)) →
        ((job_at jobs₀ id).ask.tenant ≡ 0) ⊎ ((job_at jobs₀ v).ask.tenant ≡ (job_at jobs₀ id).ask.tenant)
    own_tenant aware t =
        ⊎_elim
        (λ f. absurd (never_both aware f))
        (λ o. ⊎_elim (λ z. inl z) (λ e. inr (sym (ap (λ x. x.tenant) (g.asks v)) ∙ e)) o)
        t

-- ---- what a pass keeps

module _ (s : Setting) (clock : Float) (jobs₀ : List Job) (h : List Decision) (c : ℕ) (one : c ≤ 1) where
  place_good : (p : Pass) (id : ℕ) → Standing p → Looked p id → (allocation s p id (job_at p.jobs id)).placed ≡ true → PassGood s jobs₀ h c p →
      PassGood s jobs₀ h c (placing s p id)
  unfolding placed_as
  place_good p id so l t g =
      let y : placeable s p.gpus p.jobs (job_at p.jobs id) ≡ true = sym (placed_placeable s p.gpus p.jobs (job_at p.jobs id) (plus_one id)) ∙ t in
      record {
        good = good_placed s jobs₀ p.jobs (h ++ decisions p.line.log) g.good id 0 0 (looked_in p so id l) l.waiting
            (placeable_quota s p.gpus p.jobs (job_at p.jobs id) y);
        told = g.told;
      }

  clear_good : (p : Pass) (id : ℕ) (vs : List ℕ) → Standing p → Looked p id → All (MayLeave s clock p id) vs → Distinct vs → PassGood s jobs₀ h c p →
      PassGood s jobs₀ h c (cleared clock p id vs)
  unfolding cleared
  clear_good p id vs so l m d g =
      let room : p.line.evicted + length vs + p.count ≤ 128 = clear_room clock p so id vs (may_run s clock p id vs m) d in
      let e : decisions (joined_all clock (evicted_all clock p.jobs vs) id p.line vs).log ≡ decisions p.line.log ++ map
      (eviction_told clock id) vs = joins_decisions clock (evicted_all clock p.jobs vs) id p.line vs so.line (omega (arith, g.told, room, one)) in
      let n : (joined_all clock (evicted_all clock p.jobs vs) id p.line vs).log.count ≡ p.line.log.count + length vs =
      joins_count clock (evicted_all clock p.jobs vs) id p.line vs (omega (arith, g.told, room, one)) in
      let x : (joined_all clock (evicted_all clock p.jobs vs) id p.line vs).evicted ≡ p.line.evicted + length vs =
      joins_evicted clock (evicted_all clock p.jobs vs) id p.line vs (omega (arith, room)) in
      let a : (job_at p.jobs id).ask ≡ (job_at jobs₀ id).ask = g.good.asks id in
      let ls : All (Leaves s p.jobs (job_at jobs₀ id).ask) vs =
      all_weaken (MayLeave s clock p id) (Leaves s p.jobs (job_at jobs₀ id).ask) vs (λ v q. (q.0, rw (← a) q.2)) m in
      record {
        good = rw (e, ← append_assoc h (decisions p.line.log) (map (eviction_told clock id) vs))
            (good_leave s clock jobs₀ p.jobs (h ++ decisions p.line.log) id vs ls d g.good);
        told = omega (arith, n, x, g.told);
      }

  -- so a pass keeps it
  pub pass_good : Kept s clock (PassGood s jobs₀ h c)
  pass_good = record { place = place_good; clear = clear_good }
