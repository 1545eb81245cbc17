-- What a pass keeps, whatever it began with: what the trace said of each job, and the length of each table.
use Rattle.std.specs.Prelude.{◌≡◌, true, false, List, ℕ, min, eqb, length, get_or, Float}
use Rattle.std.proofs.Math.Path.{refl}
use Rattle.std.proofs.Common.{sym, ◌∙◌}
use Rattle.std.proofs.Math.ListN.{length-set}
use Rattle.laws.specs.Choice.{pick_either}
use Rattle.laws.specs.Lists.{set_kept}
use Rattle.laws.specs.Loop.{through_keeps}
use Rattle.laws.specs.Search.{has}
use Rattle.laws.specs.Tests.{fails, never_both}
use Rattle.small.specs.Small.{plus_one}
use Rattle.model.specs.Job.{no_job}
use Rattle.model.specs.declared.job.Job.{Job}
use Rattle.model.specs.declared.setting.Setting.{Setting}
use Rattle.life.specs.Life as Life
use Rattle.line.specs.Keep.{waits}
use Rattle.apart.specs.LineLaws.{Sized, victims_of, joins_sized, joins_ok}
use Rattle.preemptive.specs.Prefix.{evicted_all}
use Rattle.apart.specs.PrefixLaws.{freed_length, evicted_length, evicted_ask}
use Rattle.pass.specs.Visit.{allocation, placed_as, settled, made_way, preempting, considered, visited}
use Rattle.pass.specs.Walk.{sorted, visit_at, walked}
use Rattle.apart.specs.Standing.{job_at, cleared}
use Rattle.apart.specs.Leaving.{allocated_length, sorted_length, preemption, leaving, way_cleared}
use Rattle.pass.specs.declared.visit.Pass.{Pass}

-- ---- a principle: what any placing and any leaving keeps

-- the trace's words on a job stay when others leave
cleared_ask : (clock : Float) (p : Pass) (id : ℕ) (vs : List ℕ) (k : ℕ) → (job_at (cleared clock p id vs) k).ask ≡ (job_at p k).ask
unfolding cleared
cleared_ask clock p id vs k = evicted_ask clock p.jobs vs k

module _ (s : Setting) (clock : Float) (P : Pass → Type 0)
    (place : (p : Pass) (id : ℕ) (j : Job) → j.ask ≡ (job_at p id).ask → P p → P (placed_as p id j (allocation s p id j)))
    (clear : (p : Pass) (id : ℕ) (vs : List ℕ) → P p → P (cleared clock p id vs)) where
  settle_any : (p : Pass) (id : ℕ) (j : Job) → j.ask ≡ (job_at p id).ask → P p → P (settled s p id j)
  unfolding settled
  settle_any p id j e h = pick_either P (allocation s p id j).placed (placed_as p id j (allocation s p id j)) p (place p id j e h) h

  clear_any : (p : Pass) (id : ℕ) → P p → P (settled s (made_way clock p id (preemption s clock p id)) id (job_at p id))
  clear_any p id h =
      rw (way_cleared s clock p id)
      (settle_any
      (cleared clock p id (leaving s clock p id))
      id
      (job_at p id)
      (sym (cleared_ask clock p id (leaving s clock p id) id))
      (clear p id (leaving s clock p id) h))

  consider_any : (p : Pass) (id : ℕ) → P p → P (considered s clock p id (job_at p id))
  unfolding considered preempting
  consider_any p id h =
      pick_either
      P
      (allocation s p id (job_at p id)).placed
      _
      _
      (place p id (job_at p id) refl h)
      (pick_either P (eqb (job_at p id).ask.profile 0) _ p (pick_either P (eqb (preemption s clock p id).count 0) p _ h (clear_any p id h)) h)

  -- a visit keeps it
  pub visit_any : (p : Pass) (id : ℕ) → P p → P (visited s clock p id)
  unfolding visited
  visit_any p id h =
      pick_either P (waits (job_at p id)) _ p (pick_either P (has id (victims_of p.line)) p _ h (consider_any p id h)) h

  -- all visits keep it
  pub walk_any : (p : Pass) → P (sorted p) → P (walked s clock p)
  unfolding walked
  walk_any p h =
      through_keeps
      (visit_at s clock (sorted p).line.queue)
      P
      (λ q i. visit_any q (get_or (sorted p).line.queue i 0))
      (sorted p)
      (min (sorted p).line.waiting 128)
      0
      h

-- ---- what the trace said of each job

-- each job asks for what it asked for in the table
abbrev pub Asks : List Job → Pass → Type 0
Asks jobs p = (k : ℕ) → (job_at p k).ask ≡ (get_or jobs k no_job).ask

module _ (s : Setting) (clock : Float) (jobs : List Job) where
  place_asks : (p : Pass) (id : ℕ) (j : Job) → j.ask ≡ (job_at p id).ask → Asks jobs p → Asks jobs (placed_as p id j (allocation s p id j))
  unfolding placed_as Life.placed
  place_asks p id j e h k = set_kept p.jobs id (Life.placed j) no_job (λ x. x.ask) e k ∙ h k

  clear_asks : (p : Pass) (id : ℕ) (vs : List ℕ) → Asks jobs p → Asks jobs (cleared clock p id vs)
  clear_asks p id vs h k = cleared_ask clock p id vs k ∙ h k

-- one visit
pub visit_asks : (s : Setting) (clock : Float) (p : Pass) (id : ℕ) → Asks p.jobs (visited s clock p id)
visit_asks s clock p id = visit_any s clock (Asks p.jobs) (place_asks s clock p.jobs) (clear_asks s clock p.jobs) p id (λ k. refl)

-- the whole pass
pub walk_asks : (s : Setting) (clock : Float) (p : Pass) → Asks p.jobs (walked s clock p)
unfolding sorted
walk_asks s clock p = walk_any s clock (Asks p.jobs) (place_asks s clock p.jobs) (clear_asks s clock p.jobs) p (λ k. refl)

-- ---- the length of each table

-- the tables of q are as long as those of p
pub record AsLong (p q : Pass) : Type 0 where
  pub gpus : length q.gpus ≡ length p.gpus
  pub jobs : length q.jobs ≡ length p.jobs
  pub placed : length q.placed ≡ length p.placed
  pub line : Sized p.line → Sized q.line

module _ (s : Setting) (clock : Float) (first : Pass) where
  place_long : (p : Pass) (id : ℕ) (j : Job) → j.ask ≡ (job_at p id).ask → AsLong first p → AsLong first (placed_as p id j (allocation s p id j))
  unfolding placed_as
  place_long p id j e h =
      record {
        gpus = allocated_length s p.gpus p.jobs j (plus_one id) ∙ h.gpus;
        jobs = length-set p.jobs id (Life.placed j) ∙ h.jobs;
        placed = length-set p.placed p.count (record { job = id; cut = (allocation s p id j).cut; penalised = (allocation s p id j).penalised }) ∙ h.placed;
        line = h.line;
      }

  clear_long : (p : Pass) (id : ℕ) (vs : List ℕ) → AsLong first p → AsLong first (cleared clock p id vs)
  unfolding cleared
  clear_long p id vs h =
      record {
        gpus = freed_length p.gpus vs ∙ h.gpus;
        jobs = evicted_length clock p.jobs vs ∙ h.jobs;
        placed = h.placed;
        line = λ z. joins_sized clock (evicted_all clock p.jobs vs) id p.line vs (h.line z);
      }

same_long : (p : Pass) → AsLong p p
same_long p = record { gpus = refl; jobs = refl; placed = refl; line = λ z. z }

sorted_long : (p : Pass) → AsLong p (sorted p)
unfolding sorted
sorted_long p =
    record {
      gpus = refl;
      jobs = refl;
      placed = refl;
      line = λ z. record { queue = sorted_length p.jobs p.line.queue p.line.waiting ∙ z.queue; victims = z.victims; log = z.log };
    }

-- one visit
pub visit_long : (s : Setting) (clock : Float) (p : Pass) (id : ℕ) → AsLong p (visited s clock p id)
visit_long s clock p id = visit_any s clock (AsLong p) (place_long s clock p) (clear_long s clock p) p id (same_long p)

-- the whole pass
pub walk_long : (s : Setting) (clock : Float) (p : Pass) → AsLong p (walked s clock p)
walk_long s clock p = walk_any s clock (AsLong p) (place_long s clock p) (clear_long s clock p) p (sorted_long p)

-- ---- whether every number stored so far is permitted

-- it is after only if it was before
pub walk_ok : (s : Setting) (clock : Float) (p : Pass) → (walked s clock p).line.ok ≡ true → p.line.ok ≡ true
unfolding sorted placed_as cleared
walk_ok s clock p =
    walk_any
    s
    clock
    (λ q. q.line.ok ≡ true → p.line.ok ≡ true)
    (λ q id j e f h. f h)
    (λ q id vs f h. f (joins_ok clock (evicted_all clock q.jobs vs) id q.line vs h).0)
    p
    (λ h. h)

-- what was not permitted before is not after
pub walk_not_ok : (s : Setting) (clock : Float) (p : Pass) → p.line.ok ≡ false → (walked s clock p).line.ok ≡ false
walk_not_ok s clock p e = fails (walked s clock p).line.ok (λ t. never_both (walk_ok s clock p t) e)
