-- A step keeps what holds between two steps, whatever event it takes.
use Rattle.std.specs.Prelude.{◌≡◌, true, List, ◌++◌, ℕ, ◌+◌, ◌≤◌, ◌<◌, eqb}
use Rattle.std.proofs.Math.Path.{refl}
use Rattle.std.proofs.Common.{◌∙◌, ⊎_elim, arith}
use Rattle.std.proofs.Math.ListN.{length-set}
use borrow.Author.Tests.{eq-eqb}
use Rattle.laws.specs.Choice.{pick_cases, pick_either}
use Rattle.laws.specs.Tests.{and_both, le_or_lt}
use Rattle.model.specs.Event.{empty_event}
use Rattle.model.specs.declared.event.Event.{Event}
use Rattle.model.specs.declared.event.EventKind.{EventKind}
use Rattle.model.specs.declared.event.EventKind.TheVariants.{Empty, Arrival, Completion, Timeout}
use Rattle.model.specs.declared.job.Job.{Job}
use Rattle.model.specs.declared.plan.Plan.{Plan}
use Rattle.decision_log.specs.Log.{decisions}
use Rattle.decision_log.specs.declared.Decision.{Decision}
use Rattle.cluster.specs.Usage.{runs}
use Rattle.line.specs.Keep.{waits_in}
use Rattle.room.specs.Room.{event_at, least, taken}
use Rattle.happen.specs.Happen.{job_of, stale, arrives, completes, times_out, of_run, of_timeout, completed, timed_out, said, joins}
use Rattle.happen.specs.declared.Moment.{Moment}
use Rattle.engine.specs.Settle.{settled, with_pass}
use Rattle.engine.specs.Advance.{next_event, has_event, with_event, by_kind, happened, advanced}
use Rattle.history.specs.Good.{job_at}
use Rattle.history.specs.Entries.{arrival_one, arriving, taken_use, taken_arriving, used_inside}
use Rattle.history.specs.Good.{came}
use Rattle.promises.specs.Between.{Between, Amid, settled_between}
use Rattle.apart.specs.Keeps.{waits_only}
use Rattle.apart.specs.CandidateLaws.{runs_only}
use Rattle.promises.specs.Happens.{stale_amid, arrives_amid, completes_amid, fails_amid}

module _ (jobs₀ : List Job) (k : ℕ) (h : List Decision) (p : Plan) (b : Between jobs₀ k h p) (has : has_event p ≡ true) where
  inside_room : least p.events < 1152
  unfolding has_event next_event
  inside_room = used_inside p.events b.counted.size (least p.events) has

  -- the event is taken, and one more step
  pub event_taken : Between jobs₀ (k + 1) h (with_event p)
  unfolding with_event taken has_event next_event
  event_taken =
      let u : _ = taken_use p.events b.counted.size (least p.events) inside_room has in
      record {
        loaded = b.loaded;
        gpus = b.gpus;
        queue = b.queue;
        good = b.good;
        rest = b.rest;
        counted = record { size = length-set p.events (least p.events) empty_event ∙ b.counted.size; count = omega (arith, u, b.counted.count) };
        given = b.given;
        pends = λ i. omega (arith, b.pends i, taken_arriving p.events b.counted.size (least p.events) i inside_room);
        inside = λ i n. omega (arith, b.inside i n, taken_arriving p.events b.counted.size (least p.events) i inside_room);
      }

  -- what the event's arrival takes off
  arrival_taken : (next_event p).kind ≡ Arrival → arriving (next_event p).job (with_event p).events + 1 ≡ arriving (next_event p).job p.events
  unfolding with_event next_event
  arrival_taken e =
      let o : arrival_one (event_at p.events (least p.events)).job (event_at p.events (least p.events)) ≡ 1 =
      rw (e, eq-eqb (event_at p.events (least p.events)).job (event_at p.events (least p.events)).job refl) in
      omega (arith, o, taken_arriving p.events b.counted.size (least p.events) (event_at p.events (least p.events)).job inside_room)

  -- the jobs are as they were
  same_jobs : (with_event p).jobs ≡ p.jobs
  unfolding with_event
  same_jobs = refl

  same_setting : (with_event p).setting ≡ p.setting
  unfolding with_event
  same_setting = refl

  -- a job whose arrival is taken is loaded, has no other arrival ahead, and had not arrived
  pub arrival_facts : (next_event p).kind ≡ Arrival →
      ((next_event p).job < p.setting.jobs) × (arriving (next_event p).job (with_event p).events ≡ 0) × (came (job_at p.jobs (next_event p).job).state ≡ 0)
  arrival_facts e =
      let id : ℕ = (next_event p).job in
      let t : arriving id (with_event p).events + 1 ≡ arriving id p.events = arrival_taken e in
      let n : p.setting.jobs ≤ id → ⊥ = λ past. let z : arriving id p.events ≡ 0 = b.inside id past in omega (arith, z, t) in
      (⊎_elim (λ past. absurd (n past)) (λ inside. inside) (le_or_lt p.setting.jobs id), omega (arith, t, b.pends id), omega (arith, t, b.pends id))

  arrival_amid : (next_event p).kind ≡ Arrival → Amid jobs₀ (k + 1) h (arrives (with_event p) (next_event p).job)
  arrival_amid e =
      let f : ((next_event p).job < p.setting.jobs) × (arriving (next_event p).job (with_event p).events ≡ 0) ×
      (came (job_at p.jobs (next_event p).job).state ≡ 0) = arrival_facts e in
      arrives_amid jobs₀ (k + 1) h (with_event p) (next_event p).job (omega arith) event_taken (rw same_setting f.0) f.1 (rw same_jobs f.2)

  -- by the kind of the event
  kind_amid : (kind : EventKind) → (next_event p).kind ≡ kind → Amid jobs₀ (k + 1) h (by_kind kind (with_event p) (next_event p))
  unfolding completed timed_out
  kind_amid Empty e = stale_amid jobs₀ (k + 1) h (with_event p) event_taken
  kind_amid Arrival e = arrival_amid e
  kind_amid Completion e =
      pick_cases
      (Amid jobs₀ (k + 1) h)
      (of_run (job_of (with_event p) (next_event p).job) (next_event p).generation)
      (completes (with_event p) (next_event p).job)
      (stale (with_event p))
      (λ t. completes_amid jobs₀ (k + 1) h (with_event p) (next_event p).job event_taken
      (runs_only (job_at (with_event p).jobs (next_event p).job).state
      (and_both (runs (job_at (with_event p).jobs (next_event p).job).state)
      (eqb (job_at (with_event p).jobs (next_event p).job).run (next_event p).generation) t).0))
      (λ f. stale_amid jobs₀ (k + 1) h (with_event p) event_taken)
  kind_amid Timeout e =
      pick_cases
      (Amid jobs₀ (k + 1) h)
      (of_timeout (job_of (with_event p) (next_event p).job) (next_event p).generation)
      (times_out (with_event p) (next_event p).job)
      (stale (with_event p))
      (λ t. fails_amid jobs₀ (k + 1) h (with_event p) (next_event p).job event_taken
      (waits_only (job_at (with_event p).jobs (next_event p).job).state
      (and_both (waits_in (job_at (with_event p).jobs (next_event p).job).state)
      (eqb (job_at (with_event p).jobs (next_event p).job).timeouts (next_event p).generation) t).0))
      (λ f. stale_amid jobs₀ (k + 1) h (with_event p) event_taken)

  -- the event is done
  pub happened_amid : Amid jobs₀ (k + 1) h (happened (with_event p) (next_event p))
  happened_amid = kind_amid (next_event p).kind refl

  -- the step
  pub step_between : Between jobs₀ (k + 1) (h ++ decisions (advanced p).log) (advanced p).plan
  unfolding advanced
  step_between =
      let m : Moment = happened (with_event p) (next_event p) in
      pick_either (λ (x : Moment). Between jobs₀ (k + 1) (h ++ decisions x.log) x.plan) m.goes (settled m) m
      (settled_between jobs₀ (k + 1) h (omega arith) m happened_amid) happened_amid.between

-- ---- what the trace said of the house stays

stays_stale : (p : Plan) → (stale p).plan.setting ≡ p.setting
unfolding stale
stays_stale p = refl

stays_arrives : (p : Plan) (id : ℕ) → (arrives p id).plan.setting ≡ p.setting
unfolding arrives said joins
stays_arrives p id = refl

stays_completes : (p : Plan) (id : ℕ) → (completes p id).plan.setting ≡ p.setting
unfolding completes said
stays_completes p id = refl

stays_fails : (p : Plan) (id : ℕ) → (times_out p id).plan.setting ≡ p.setting
unfolding times_out said
stays_fails p id = refl

stays_settled : (m : Moment) → (settled m).plan.setting ≡ m.plan.setting
unfolding settled with_pass
stays_settled m = refl

stays_kind : (kind : EventKind) (p : Plan) (e : Event) → (by_kind kind p e).plan.setting ≡ p.setting
unfolding completed timed_out
stays_kind Empty p e = stays_stale p
stays_kind Arrival p e = stays_arrives p e.job
stays_kind Completion p e = pick_either (λ (m : Moment). m.plan.setting ≡ p.setting) (of_run (job_of p e.job) e.generation)
    (completes p e.job) (stale p) (stays_completes p e.job) (stays_stale p)
stays_kind Timeout p e = pick_either (λ (m : Moment). m.plan.setting ≡ p.setting) (of_timeout (job_of p e.job) e.generation)
    (times_out p e.job) (stale p) (stays_fails p e.job) (stays_stale p)

stays_event : (p : Plan) → (with_event p).setting ≡ p.setting
unfolding with_event
stays_event p = refl

pub happened_setting : (p : Plan) → (happened (with_event p) (next_event p)).plan.setting ≡ p.setting
happened_setting p = stays_kind (next_event p).kind (with_event p) (next_event p) ∙ stays_event p

-- No step changes the setting.
pub setting_stays : (p : Plan) → (advanced p).plan.setting ≡ p.setting
unfolding advanced
setting_stays p =
    let m : Moment = happened (with_event p) (next_event p) in
    let e : m.plan.setting ≡ p.setting = happened_setting p in
    pick_either (λ (x : Moment). x.plan.setting ≡ p.setting) m.goes (settled m) m (stays_settled m ∙ e) e
