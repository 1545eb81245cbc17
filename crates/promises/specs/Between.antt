-- What holds of a plan between two steps, and that what follows an event keeps it.
use Rattle.std.specs.Prelude.{◌≡◌, refl, true, List, ◌++◌, ℕ, ◌+◌, ◌*◌, ◌≤◌, length, take}
use Rattle.std.proofs.Common.{sym, ap, ◌∙◌, arith, length-take}
use Rattle.std.proofs.lemmas.List.{length-map}
use Rattle.laws.specs.Lists.{All, Distinct, all_every, all_weaken, distinct_right, pad_length}
use Rattle.laws.specs.Sums.{sum_over, bit, sum_same}
use Rattle.model.specs.declared.job.Ask.{Ask}
use Rattle.model.specs.declared.job.Job.{Job}
use Rattle.model.specs.declared.job.JobState.{JobState}
use Rattle.model.specs.declared.job.JobState.TheVariants.{Placed}
use Rattle.model.specs.declared.plan.Plan.{Plan}
use Rattle.model.specs.declared.setting.Setting.{Setting}
use Rattle.decision_log.specs.Log.{decisions}
use Rattle.decision_log.specs.declared.Decision.{Decision}
use Rattle.life.specs.Life.{timed}
use Rattle.eligible.specs.More.{only_length}
use Rattle.line.specs.Keep.{waits_at, still_waiting}
use Rattle.line.specs.Line.{new_line}
use Rattle.apart.specs.LineLaws.{Sized, victims_of, new_sized}
use Rattle.line.specs.declared.join.Line.{Line}
use Rattle.room.specs.declared.ahead.Ahead.{Ahead}
use Rattle.starts.specs.Timeout.{timeouts_queued}
use Rattle.starts.specs.Begin.{begun_all}
use Rattle.apart.specs.StartsLaws.{jobs_of}
use Rattle.starts.specs.declared.begin.Placing.{Placing}
use Rattle.starts.specs.declared.begin.Begun.{Begun}
use Rattle.pass.specs.Visit.{new_pass}
use Rattle.pass.specs.Walk.{sorted}
use Rattle.apart.specs.Standing.{Standing, InState, placed_of, few}
use Rattle.apart.specs.PassLaws.{pass_keeps, pass_standing}
use Rattle.pass.specs.declared.visit.Pass.{Pass}
use Rattle.happen.specs.declared.Moment.{Moment}
use Rattle.engine.specs.Settle.{pass_of, starts_of, with_pass, settled}
use Rattle.history.specs.Good.{job_at, JobOk, Good, begun}
use Rattle.history.specs.PassGood.{PassGood}
use Rattle.history.proofs.PassGood.{pass_good}
use Rattle.history.specs.StartsGood.{Room}
use Rattle.history.proofs.StartsGood.{starts_good}
use Rattle.history.specs.Entries.{arriving}
use Rattle.history.specs.Queued.{Counted, Grown, timed_one, timeouts_grown, starts_grown}
use Rattle.history.specs.Owed.{Rest, all_events, all_few}
use Rattle.history.specs.Good.{came}
use Rattle.history.specs.PassOwed.{PassOwed, ToStart, pass_owed, starts_owed}
use Rattle.history.specs.PassCame.{Came, pass_came, starts_came}

-- the events ahead in a plan
abbrev pub ahead_in : Plan → Ahead
ahead_in p = record { events = p.events; next = p.next; ok = true }

-- k steps were taken, and h was told; jobs₀ are the loaded jobs
pub record Between (jobs₀ : List Job) (k : ℕ) (h : List Decision) (p : Plan) : Type 0 where
  pub loaded : p.setting.jobs ≤ 128
  pub gpus : length p.gpus ≡ 128
  pub queue : length p.queue ≡ 128
  pub good : Good p.setting jobs₀ p.jobs h
  pub rest : Rest p.setting.jobs p.jobs
  pub counted : Counted k (ahead_in p)
  pub given : p.next ≡ p.setting.jobs + all_events p.jobs
  pub pends : (i : ℕ) → arriving i p.events + came (job_at p.jobs i).state ≤ 1
  pub inside : (i : ℕ) → p.setting.jobs ≤ i → arriving i p.events ≡ 0

-- what an event said was done, and told if it was not stale
pub record Amid (jobs₀ : List Job) (k : ℕ) (h : List Decision) (m : Moment) : Type 0 where
  pub between : Between jobs₀ k (h ++ decisions m.log) m.plan
  pub table : length m.log.table ≡ 129
  pub own : m.log.count ≤ 1

-- at most nine events a job were ever queued
pub nine : (jobs₀ : List Job) (s : Setting) (jobs : List Job) (h : List Decision) → s.jobs ≤ 128 → Good s jobs₀ jobs h → Rest s.jobs jobs →
    s.jobs + all_events jobs ≤ 9 * s.jobs
nine jobs₀ s jobs h l g r = omega (arith, l, all_few s.jobs jobs r g.each)

-- a job that is placed has run at most three times before
pub few_runs : (jobs : List Job) (ks : List ℕ) → ((k : ℕ) → JobOk (job_at jobs k)) → All (InState Placed jobs) ks → All (ToStart jobs) ks
few_runs jobs ks o l =
    all_weaken
    (InState Placed jobs)
    (ToStart jobs)
    ks
    (λ k q. (
      q.0,
      q.1,
      let r : (job_at jobs k).run ≡ (job_at jobs k).evictions + 0 = (o k).run_is
          ∙ ap (λ (st : JobState). (job_at jobs k).evictions + begun st) q.1 in omega (arith, r, (o k).few),
    ))
    l

-- the sums of timeouts agree where the asks do
timed_same : (jobs₀ jobs : List Job) (vs : List ℕ) → ((i : ℕ) → (job_at jobs i).ask ≡ (job_at jobs₀ i).ask) → sum_over (timed_one jobs) vs ≡ sum_over (timed_one jobs₀) vs
timed_same jobs₀ jobs vs e =
    sum_same (timed_one jobs) (timed_one jobs₀) vs (all_every (λ v. timed_one jobs v ≡ timed_one jobs₀ v) vs (λ v. ap (λ (x : Ask). bit (timed x)) (e v)))

-- no more wait than the queue holds
pub still_most : (jobs : List Job) (queue : List ℕ) (n : ℕ) → length queue ≡ 128 → length (still_waiting jobs queue n) ≤ 128
unfolding still_waiting
still_most jobs queue n e = omega (arith, e, only_length (waits_at jobs) (take n queue), length-take n queue)

-- ---- the pass

-- what holds when the pass is over
pub record Passed (jobs₀ : List Job) (h : List Decision) (c : ℕ) (p : Plan) (q : Pass) : Type 0 where
  pub standing : Standing q
  pub good : PassGood p.setting jobs₀ h c q
  pub owed : PassOwed p.setting.jobs (all_events p.jobs) jobs₀ q
  pub came_same : Came p.jobs q.jobs

pub passed : (jobs₀ : List Job) (k : ℕ) (h : List Decision) (m : Moment) → Amid jobs₀ k h m → Passed jobs₀ h m.log.count m.plan (pass_of m)
unfolding pass_of new_pass new_line sorted sum_over
passed jobs₀ k h m a =
    let p : Plan = m.plan in
    let line : Line = new_line p.queue p.waiting p.totals m.log m.ok in
    let sized : Sized line = new_sized p.queue p.waiting p.totals m.log m.ok a.between.queue a.table in
    let c : ℕ = m.log.count in
    record {
      standing = pass_standing p.setting p.clock p.gpus p.jobs line a.between.gpus a.between.good.size sized refl;
      good = pass_keeps p.setting p.clock p.gpus p.jobs line a.between.gpus a.between.good.size sized refl
          (PassGood p.setting jobs₀ h c) (pass_good p.setting p.clock jobs₀ h c a.own) (record { good = a.between.good; told = omega arith });
      owed = pass_keeps p.setting p.clock p.gpus p.jobs line a.between.gpus a.between.good.size sized refl
          (PassOwed p.setting.jobs (all_events p.jobs) jobs₀)
          (pass_owed p.setting p.clock p.setting.jobs (all_events p.jobs) jobs₀)
          (record { asks = a.between.good.asks; rest = a.between.rest; owed = omega arith });
      came_same = pass_keeps p.setting p.clock p.gpus p.jobs line a.between.gpus a.between.good.size sized refl
          (λ q. Came p.jobs q.jobs) (pass_came p.setting p.clock p.jobs) (λ i. refl);
    }

-- ---- the timeouts and the starts

-- what holds when all have started: so many events more than before, and as many more owed by the jobs
record Begun_so (jobs₀ : List Job) (k : ℕ) (h : List Decision) (p : Plan) (b : Begun) : Type 0 where
  good : Good p.setting jobs₀ b.jobs (h ++ decisions b.log)
  rest : Rest p.setting.jobs b.jobs
  counted : Counted k b.ahead
  given : b.ahead.next ≡ p.setting.jobs + all_events b.jobs
  fewer : (i : ℕ) → arriving i b.ahead.events ≤ arriving i p.events
  came_same : Came p.jobs b.jobs

begun_so : (jobs₀ : List Job) (k : ℕ) (h : List Decision) → 1 ≤ k → (m : Moment) (a : Amid jobs₀ k h m) (q : Pass) →
    Passed jobs₀ h m.log.count m.plan q → Begun_so jobs₀ k h m.plan (starts_of m.plan q)
unfolding starts_of
begun_so jobs₀ k h one m a q w =
    let p : Plan = m.plan in
    let s : Setting = p.setting in
    let so : Standing q = w.standing in
    let vs : List ℕ = victims_of q.line in
    let ps : List Placing = take q.count q.placed in
    let a0 : Ahead = record { events = p.events; next = p.next; ok = q.line.ok } in
    let a1 : Ahead = timeouts_queued p.clock q.jobs a0 vs in
    let b : Begun = record { jobs = q.jobs; ahead = a1; totals = q.line.totals; log = q.line.log } in
    let t : sum_over (timed_one q.jobs) vs ≡ sum_over (timed_one jobs₀) vs = timed_same jobs₀ q.jobs vs w.owed.asks in
    let n9 : s.jobs + all_events q.jobs ≤ 9 * s.jobs = nine jobs₀ s q.jobs (h ++ decisions q.line.log) a.between.loaded w.good.good w.owed.rest in
    let g1 : Grown k (sum_over (timed_one q.jobs) vs) a0 a1 =
    timeouts_grown k p.clock q.jobs a0 vs one (omega (arith, t, n9, w.owed.owed, a.between.given, a.between.loaded))
    (record { size = a.between.counted.size; count = a.between.counted.count }) in
    let l : length ps ≡ q.count = sym (length-map ps (λ x. x.job)) ∙ so.count in
    let d : Distinct (jobs_of ps) = distinct_right vs (placed_of q) so.once in
    let room : Room b (length ps) = record { table = so.line.log; fits = omega (arith, l, w.good.told, a.own, few q so) } in
    let good : Good s jobs₀ (begun_all s.options p.clock b ps).jobs (h ++ decisions (begun_all s.options p.clock b ps).log) =
    starts_good s s.options p.clock jobs₀ h b ps room d so.placed_are w.good.good in
    let o : (all_events (begun_all s.options p.clock b ps).jobs ≡ all_events q.jobs + length ps) × Rest s.jobs
    (begun_all s.options p.clock b ps).jobs =
    starts_owed s.options p.clock s.jobs b ps so.jobs w.owed.rest d (few_runs q.jobs (jobs_of ps) w.good.good.each so.placed_are) in
    let m9 : s.jobs + all_events (begun_all s.options p.clock b ps).jobs ≤ 9 * s.jobs =
    nine jobs₀ s (begun_all s.options p.clock b ps).jobs (h ++ decisions (begun_all s.options p.clock b ps).log) a.between.loaded good o.1 in
    let g2 : Grown k (length ps) a1 (begun_all s.options p.clock b ps).ahead =
    starts_grown k s.options p.clock b ps one (omega (arith, g1.next, t, m9, o.0, w.owed.owed, a.between.given, a.between.loaded)) g1.counted in
    record {
      good = good;
      rest = o.1;
      counted = g2.counted;
      given = omega (arith, g1.next, g2.next, t, o.0, w.owed.owed, a.between.given);
      fewer = λ i. omega (arith, g1.arrivals i, g2.arrivals i);
      came_same = starts_came s.options p.clock p.jobs b ps d so.placed_are w.came_same;
    }

-- what follows an event keeps it
pub settled_between : (jobs₀ : List Job) (k : ℕ) (h : List Decision) → 1 ≤ k → (m : Moment) → Amid jobs₀ k h m →
    Between jobs₀ k (h ++ decisions (settled m).log) (settled m).plan
unfolding settled with_pass
settled_between jobs₀ k h one m a =
    let p : Plan = m.plan in
    let q : Pass = pass_of m in
    let w : Passed jobs₀ h m.log.count p q = passed jobs₀ k h m a in
    let b : Begun_so jobs₀ k h p (starts_of p q) = begun_so jobs₀ k h one m a q w in
    let left : List ℕ = still_waiting (starts_of p q).jobs q.line.queue q.line.waiting in
    record {
      loaded = a.between.loaded;
      gpus = w.standing.gpus;
      queue = pad_length 128 0 left (still_most (starts_of p q).jobs q.line.queue q.line.waiting w.standing.line.queue);
      good = b.good;
      rest = b.rest;
      counted = record { size = b.counted.size; count = b.counted.count };
      given = b.given;
      pends = λ i. let c : came (job_at (starts_of p q).jobs i).state ≡ came (job_at p.jobs i).state =
          b.came_same i in omega (arith, a.between.pends i, b.fewer i, c);
      inside = λ i n. omega (arith, a.between.inside i n, b.fewer i);
    }
