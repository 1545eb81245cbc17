-- A pass and its starts counted: what jobs have queued grows by the victims' timeouts and by one for each start.
use Rattle.std.specs.Prelude.{◌≡◌, refl, true, ℕ, ◌+◌, ◌<◌, Float}
use Rattle.std.proofs.Common.{sym, ◌∙◌, get_or-set_other}
use Rattle.std.proofs.Math.Path.{ap}
use mathlib.Core.List.{List, [], ◌∷◌, ◌++◌}
use native.Mathlib.Omega.{arith}
use Rattle.std.proofs.Math.ListN.{length, set, length-set}
use Rattle.laws.specs.Lists.{All, Apart, Distinct, all_weaken, all_both, set_kept}
use Rattle.laws.specs.Sums.{sum_over, bit, sum_append}
use Rattle.model.specs.Job.{no_job}
use Rattle.model.specs.declared.job.Ask.{Ask}
use Rattle.model.specs.declared.job.Job.{Job}
use Rattle.model.specs.declared.job.JobState.{JobState}
use Rattle.model.specs.declared.job.JobState.TheVariants.{Pending, Placed, Running}
use Rattle.model.specs.declared.setting.Options.{Options}
use Rattle.model.specs.declared.setting.Setting.{Setting}
use Rattle.life.specs.Life as Life
use Rattle.life.specs.Life.{timed}
use Rattle.preemptive.specs.Prefix.{evicted_all}
use Rattle.apart.specs.PrefixLaws as PrefixLaws
use Rattle.apart.specs.LineLaws.{victims_of}
use Rattle.starts.specs.Begin as Begin
use Rattle.starts.specs.Begin.{begun_all}
use Rattle.apart.specs.StartsLaws.{jobs_of, job_of, start_of, begun_other}
use Rattle.starts.specs.declared.begin.Placing.{Placing}
use Rattle.starts.specs.declared.begin.Begun.{Begun}
use Rattle.pass.specs.Visit.{placed_as, allocation}
use Rattle.apart.specs.Standing.{Standing, Looked, cleared, looked_in, clear_behind}
use Rattle.apart.specs.Leaving.{MayLeave, may_run}
use Rattle.apart.specs.Keeps.{Kept, placing}
use Rattle.pass.specs.declared.visit.Pass.{Pass}
use Rattle.history.specs.Good.{job_at}
use Rattle.history.specs.Queued.{timed_one}
use Rattle.history.specs.StartsGood.{begun_jobs}
use Rattle.history.specs.Owed.{Rest, all_events, owed_set, owed_evicted, owed_placed, owed_started, rest_below, rest_set}
use Rattle.history.specs.Good.{came}

-- what is changed keeps what is asked
evicted_ask : (j : Job) (clock : Float) → (Life.evicted j clock).ask ≡ j.ask
unfolding Life.evicted
evicted_ask j clock = refl

placed_ask : (j : Job) → (Life.placed j).ask ≡ j.ask
unfolding Life.placed
placed_ask j = refl

pub cleared_jobs : (clock : Float) (p : Pass) (id : ℕ) (vs : List ℕ) → (cleared clock p id vs).jobs ≡ evicted_all clock p.jobs vs
unfolding cleared
cleared_jobs clock p id vs = refl

evicted_all_ask : (clock : Float) (jobs : List Job) (vs : List ℕ) (k : ℕ) → (job_at (evicted_all clock jobs vs) k).ask ≡ (job_at jobs k).ask
evicted_all_ask clock jobs vs k = PrefixLaws.evicted_ask clock jobs vs k

-- the asks are those of the loaded jobs
abbrev pub Asked : List Job → List Job → Type 0
Asked jobs₀ jobs = (k : ℕ) → (job_at jobs k).ask ≡ (job_at jobs₀ k).ask

-- a job that may have to leave: it runs and was evicted fewer than three times
abbrev pub Runs : List Job → ℕ → Type 0
Runs jobs v = (v < 128) × ((job_at jobs v).state ≡ Running) × ((job_at jobs v).evictions < 3)

-- a job that has arrived is not pending
pub arrived_not : (st : JobState) → came st ≡ 1 → st ≡ Pending → ⊥
arrived_not st c e = let z : came st ≡ 0 = ap came e in omega (arith, c, z)

-- the eviction of one leaves the others as they are
pub runs_other : (jobs : List Job) (v : ℕ) (j : Job) (vs : List ℕ) → Apart v vs → All (Runs jobs) vs → All (Runs (set jobs v j)) vs
runs_other jobs v j vs a l =
    all_weaken
    (λ w. (v ≡ w → ⊥) × Runs jobs w)
    (Runs (set jobs v j))
    vs
    (λ w q. (q.1.0, rw (get_or-set_other jobs v w j no_job (λ e. q.0 (sym e))) q.1.1, rw (get_or-set_other jobs v w j no_job (λ e. q.0 (sym e))) q.1.2))
    (all_both (λ w. v ≡ w → ⊥) (Runs jobs) vs a l)

-- asks stay at a change that keeps them
asked_set : (jobs₀ jobs : List Job) (k : ℕ) (j : Job) → j.ask ≡ (job_at jobs k).ask → Asked jobs₀ jobs → Asked jobs₀ (set jobs k j)
asked_set jobs₀ jobs k j e a i = set_kept jobs k j no_job (λ x. x.ask) e i ∙ a i

-- jobs leave one after the other: each that has timeouts owes one
owed_leave : (n : ℕ) (clock : Float) (jobs₀ jobs : List Job) (vs : List ℕ) → length jobs ≡ 128 → Asked jobs₀ jobs → Rest n jobs →
    All (Runs jobs) vs → Distinct vs → (all_events (evicted_all clock jobs vs) ≡ all_events jobs + sum_over (timed_one jobs₀) vs) × Rest n (evicted_all clock jobs vs)
unfolding evicted_all sum_over
owed_leave n clock jobs₀ jobs [] l a r m d = (omega arith, r)
owed_leave n clock jobs₀ jobs (v ∷ vs) l a r m d =
    let j : Job = Life.evicted (job_at jobs v) clock in
    let b : v < length jobs = omega (arith, l, m.0.0) in
    let t : bit (timed (job_at jobs v).ask) ≡ timed_one jobs₀ v = ap (λ (x : Ask). bit (timed x)) (a v) in
    let e : all_events (set jobs v j) ≡ all_events jobs + bit (timed (job_at jobs v).ask) =
    owed_set jobs v (bit (timed (job_at jobs v).ask)) j b (owed_evicted (job_at jobs v) clock m.0.1 m.0.2) in
    let below : v < n = rest_below n v jobs r (arrived_not (job_at jobs v).state (ap came m.0.1)) in
    let rest : (all_events (evicted_all clock (set jobs v j) vs) ≡ all_events (set jobs v j) + sum_over (timed_one jobs₀) vs) × Rest n (evicted_all clock (set jobs v j) vs) =
    owed_leave n clock jobs₀ (set jobs v j) vs (length-set jobs v j ∙ l) (asked_set jobs₀ jobs v j (evicted_ask (job_at jobs v) clock) a)
    (rest_set n v jobs j below r) (runs_other jobs v j vs d.0 m.1) d.1 in
    (omega (arith, rest.0, e, t), rest.1)

-- ---- what a pass keeps

-- beyond what was queued before, the victims' timeouts are owed
pub record PassOwed (n base : ℕ) (jobs₀ : List Job) (p : Pass) : Type 0 where
  pub asks : Asked jobs₀ p.jobs
  pub rest : Rest n p.jobs
  pub owed : all_events p.jobs ≡ base + sum_over (timed_one jobs₀) (victims_of p.line)

module _ (s : Setting) (clock : Float) (n base : ℕ) (jobs₀ : List Job) where
  place_owed : (p : Pass) (id : ℕ) → Standing p → Looked p id → (allocation s p id (job_at p.jobs id)).placed ≡ true → PassOwed n base jobs₀ p →
      PassOwed n base jobs₀ (placing s p id)
  unfolding placed_as
  place_owed p id so l t g =
      let j : Job = Life.placed (job_at p.jobs id) in
      record {
        asks = asked_set jobs₀ p.jobs id j (placed_ask (job_at p.jobs id)) g.asks;
        rest = rest_set n id p.jobs j (rest_below n id p.jobs g.rest (arrived_not (job_at p.jobs id).state (ap came l.waiting))) g.rest;
        owed = let e : all_events (set p.jobs id j) ≡ all_events p.jobs + 0 =
            owed_set p.jobs id 0 j (omega (arith, so.jobs, looked_in p so id l)) (owed_placed (job_at p.jobs id) l.waiting ∙ omega arith) in
            omega (arith, e, g.owed);
      }

  clear_owed : (p : Pass) (id : ℕ) (vs : List ℕ) → Standing p → Looked p id → All (MayLeave s clock p id) vs → Distinct vs →
      PassOwed n base jobs₀ p → PassOwed n base jobs₀ (cleared clock p id vs)
  clear_owed p id vs so l m d g =
      let rs : All (Runs p.jobs) vs = all_weaken (MayLeave s clock p id) (Runs p.jobs) vs (λ v q. (q.0, q.2.runs_now, q.2.few)) m in
      let x : (all_events (evicted_all clock p.jobs vs) ≡ all_events p.jobs + sum_over (timed_one jobs₀) vs) × Rest n
      (evicted_all clock p.jobs vs) = owed_leave n clock jobs₀ p.jobs vs so.jobs g.asks g.rest rs d in
      let b : victims_of (cleared clock p id vs).line ≡ victims_of p.line ++ vs = clear_behind clock p so id vs (may_run s clock p id vs m) d in
      let f : sum_over (timed_one jobs₀) (victims_of (cleared clock p id vs).line) ≡ sum_over (timed_one jobs₀) (victims_of p.line) + sum_over
      (timed_one jobs₀) vs = ap (sum_over (timed_one jobs₀)) b ∙ sum_append (timed_one jobs₀) (victims_of p.line) vs in
      cleared_owed (cleared clock p id vs) (cleared_jobs clock p id vs) x f
    where
      cleared_owed : (q : Pass) → q.jobs ≡ evicted_all clock p.jobs vs →
          (all_events (evicted_all clock p.jobs vs) ≡ all_events p.jobs + sum_over (timed_one jobs₀) vs) × Rest n (evicted_all clock p.jobs vs) →
          sum_over (timed_one jobs₀) (victims_of q.line) ≡ sum_over (timed_one jobs₀) (victims_of p.line) + sum_over (timed_one jobs₀) vs → PassOwed n base jobs₀ q
      cleared_owed q e x f =
          record {
            asks = λ k. ap (λ (js : List Job). (job_at js k).ask) e ∙ evicted_all_ask clock p.jobs vs k ∙ g.asks k;
            rest = rw e x.1;
            owed = let y : all_events q.jobs ≡ all_events (evicted_all clock p.jobs vs) = ap all_events e in omega (arith, y, x.0, f, g.owed);
          }

  -- so a pass keeps it
  pub pass_owed : Kept s clock (PassOwed n base jobs₀)
  pass_owed = record { place = place_owed; clear = clear_owed }

-- ---- the starts

-- a job that is placed, after few runs
abbrev pub ToStart : List Job → ℕ → Type 0
ToStart jobs k = (k < 128) × ((job_at jobs k).state ≡ Placed) × ((job_at jobs k).run < 9)

module _ (options : Options) (clock : Float) where
  -- a start leaves the others to start
  pub still_to_start : (b : Begun) (p : Placing) (ks : List ℕ) → Apart p.job ks → All (ToStart b.jobs) ks → All (ToStart (Begin.begun options clock b p).jobs) ks
  still_to_start b p ks a l =
      all_weaken
      (λ k. (p.job ≡ k → ⊥) × ToStart b.jobs k)
      (ToStart (Begin.begun options clock b p).jobs)
      ks
      (λ k q. (q.1.0, rw (begun_other options clock b p k (λ e. q.0 (sym e))) q.1.1, rw (begun_other options clock b p k (λ e. q.0 (sym e))) q.1.2))
      (all_both (λ k. p.job ≡ k → ⊥) (ToStart b.jobs) ks a l)

  module _ (n : ℕ) where
    pub starts_owed : (b : Begun) (ps : List Placing) → length b.jobs ≡ 128 → Rest n b.jobs → Distinct (jobs_of ps) →
        All (ToStart b.jobs) (jobs_of ps) → (all_events (begun_all options clock b ps).jobs ≡ all_events b.jobs + length ps) × Rest n
        (begun_all options clock b ps).jobs
    unfolding begun_all
    starts_owed b [] l r d m = (omega arith, r)
    starts_owed b (p ∷ ps) l r d m =
        let j : Job = Life.started (job_of b p) (start_of options clock b p) in
        let e : (Begin.begun options clock b p).jobs ≡ set b.jobs p.job j = begun_jobs options clock b p in
        let one : all_events (set b.jobs p.job j) ≡ all_events b.jobs + 1 =
        owed_set b.jobs p.job 1 j (omega (arith, l, m.0.0)) (owed_started (job_of b p) (start_of options clock b p) m.0.1 m.0.2) in
        let below : p.job < n = rest_below n p.job b.jobs r (arrived_not (job_at b.jobs p.job).state (ap came m.0.1)) in
        let rest : Rest n (Begin.begun options clock b p).jobs = rw e (rest_set n p.job b.jobs j below r) in
        let more : (all_events (begun_all options clock (Begin.begun options clock b p) ps).jobs ≡ all_events (Begin.begun options clock b p).jobs +
        length ps) × Rest n (begun_all options clock (Begin.begun options clock b p) ps).jobs =
        starts_owed (Begin.begun options clock b p) ps (ap length e ∙ length-set b.jobs p.job j ∙ l) rest d.1 (still_to_start b p (jobs_of ps) d.0 m.1) in
        (let x : all_events (Begin.begun options clock b p).jobs ≡ all_events (set b.jobs p.job j) = ap all_events e in omega (arith, more.0, x, one), more.1)
