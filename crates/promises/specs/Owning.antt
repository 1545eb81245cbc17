-- Ownership on every plan reached from a loaded trace: whoever owns a GPU or a slice is a running job, and a running job holds exactly what it asks for.
use Rattle.std.specs.Prelude.{◌≡◌, true, List, [], ◌∷◌, ℕ, ◌+◌, ◌-◌, ◌≤◌, ◌<◌, eqb, length}
use Rattle.std.proofs.Math.Path.{refl}
use Rattle.std.proofs.Common.{ap, arith}
use Rattle.laws.specs.Choice.{pick_cases, pick_either}
use Rattle.laws.specs.Tests.{and_both}
use Rattle.laws.specs.Lists.{All, all_append}
use Rattle.model.specs.declared.event.EventKind.{EventKind}
use Rattle.model.specs.declared.event.EventKind.TheVariants.{Empty, Arrival, Completion, Timeout}
use Rattle.model.specs.declared.job.Job.{Job}
use Rattle.model.specs.declared.job.JobState.TheVariants.{Waiting, Running}
use Rattle.model.specs.declared.plan.Plan.{Plan}
use Rattle.decision_log.specs.declared.Decision.{Decision}
use Rattle.trace.specs.Answer.{Accepted}
use Rattle.trace.specs.declared.record.Record.{Record}
use Rattle.trace.specs.declared.record.Record.TheVariants as R
use Rattle.loader.specs.Load.{load}
use Rattle.cluster.specs.Usage.{runs}
use Rattle.line.specs.Keep.{waits_in}
use Rattle.line.specs.Line.{new_line}
use Rattle.apart.specs.LineLaws.{new_sized}
use Rattle.happen.specs.Happen.{job_of, stale, said, joins, arrives, completes, times_out, of_run, of_timeout, completed, timed_out}
use Rattle.happen.specs.declared.Moment.{Moment}
use Rattle.engine.specs.Settle.{pass_of, starts_of, with_pass, settled}
use Rattle.engine.specs.Advance.{next_event, has_event, with_event, by_kind, happened, advanced}
use Rattle.planner.specs.Step.{stepped}
use Rattle.planner.specs.StepLaws.{accepted_for, accepted_plan}
use Rattle.history.specs.Good.{job_at}
use Rattle.history.specs.Changes.{in_table}
use Rattle.history.specs.Good.{came}
use Rattle.history.specs.PassOwed.{arrived_not}
use Rattle.history.specs.Owners.{Owners, Cuts}
use Rattle.history.specs.OwnersChanges.{owners_arrives, owners_fails, owners_completes}
use Rattle.history.specs.OwnersLoaded.{owners_loaded}
use Rattle.history.specs.OwnersSettles.{owners_settles}
use Rattle.history.specs.NonePlaced.{NonePlaced, none_loaded, none_arrives, none_fails, none_completes}
use Rattle.history.specs.Owned.{Owned, owners_owned}
use Rattle.promises.specs.ListedLaws.{gather, Entry, most_in, mosts_of, lookup}
use Rattle.promises.specs.RecordFormLaws.{Ranged}
use Rattle.promises.specs.RunLaws.{records_of}
use Rattle.promises.specs.NothingDroppedLaws.{load_exactly}
use Rattle.promises.specs.LoadedLaws.{Ready, load_ready}
use Rattle.promises.specs.Between.{Between, Amid}
use Rattle.apart.specs.Keeps.{waits_only}
use Rattle.apart.specs.CandidateLaws.{runs_only}
use Rattle.promises.specs.Happens.{not_came}
use Rattle.promises.specs.Steps.{event_taken, arrival_facts, happened_amid, happened_setting, setting_stays}
use Rattle.promises.specs.Conditions.{Reached, begin, onward, first, reached_between}

-- ---- no profile allows more than seven slices

record_few : (r : Record) → Ranged r → All (λ (e : Entry). e.value ≤ 7) (most_in r)
record_few R.End g = tt
record_few (R.Node site) g = tt
record_few (R.Gpu card) g = tt
record_few (R.Quota tenant quota) g = tt
record_few (R.Profile profile most) g = (g.2, tt)
record_few (R.Job ask) g = tt
record_few (R.Options options) g = tt

records_few : (rs : List Record) → All Ranged rs → All (λ (e : Entry). e.value ≤ 7) (mosts_of rs)
unfolding gather
records_few [] g = tt
records_few (r ∷ rs) g = all_append (λ (e : Entry). e.value ≤ 7) (most_in r) (mosts_of rs) (record_few r g.0) (records_few rs g.1)

lookup_few : (k : ℕ) (l : List Entry) → All (λ (e : Entry). e.value ≤ 7) l → lookup k l ≤ 7
unfolding lookup
lookup_few k [] g = omega arith
lookup_few k (e ∷ l) g = pick_either (λ (n : ℕ). n ≤ 7) (eqb e.key k) e.value (lookup k l) g.0 (lookup_few k l g.1)

pub load_cuts : (trace : List ℕ) → (load trace).answer ≡ Accepted → Cuts (load trace).plan.setting
load_cuts trace e profile =
    let x : _ = load_exactly trace e in
    rw (x.mosts (profile - 1)) (lookup_few (profile - 1) (mosts_of (records_of trace)) (records_few (records_of trace) x.ranged))

-- ---- what a plan has between steps

abbrev pub Holding : Plan → Type 0
Holding p = Owners p.setting.gpus p.gpus p.jobs × NonePlaced p.jobs

arrives_owning : (p : Plan) (id : ℕ) → id < 128 → came (job_at p.jobs id).state ≡ 0 → Holding p → Holding (arrives p id).plan
unfolding arrives said joins
arrives_owning p id b c o =
    (owners_arrives p.setting.gpus p.gpus p.jobs o.0 id p.clock b (not_came (job_at p.jobs id).state c), none_arrives p.jobs id o.1 p.clock)

completes_owning : (p : Plan) (id : ℕ) → id < 128 → Holding p → Holding (completes p id).plan
unfolding completes said
completes_owning p id b o =
    (owners_completes p.setting.gpus p.gpus p.jobs o.0 id b, none_completes p.jobs id o.1)

fails_owning : (p : Plan) (id : ℕ) → id < 128 → (job_at p.jobs id).state ≡ Waiting → Holding p → Holding (times_out p id).plan
unfolding times_out said
fails_owning p id b w o =
    (owners_fails p.setting.gpus p.gpus p.jobs o.0 id p.clock b w, none_fails p.jobs id o.1 p.clock)

stale_owning : (p : Plan) → Holding p → Holding (stale p).plan
unfolding stale
stale_owning p o = o

event_owning : (p : Plan) → Holding p → Holding (with_event p)
unfolding with_event
event_owning p o = o

settled_owning : (jobs₀ : List Job) (k : ℕ) (h : List Decision) (m : Moment) → Amid jobs₀ k h m → Cuts m.plan.setting → Holding m.plan → Holding (settled m).plan
unfolding settled with_pass starts_of pass_of new_line
settled_owning jobs₀ k h m a cuts o =
    let p : Plan = m.plan in
    owners_settles p.setting p.clock p.gpus p.jobs (new_line p.queue p.waiting p.totals m.log m.ok) cuts
    (new_sized p.queue p.waiting p.totals m.log m.ok a.between.queue a.table) refl o.0 o.1 p.setting.options _ refl

module _ (jobs₀ : List Job) (k : ℕ) (h : List Decision) (p : Plan) (b : Between jobs₀ k h p) (has : has_event p ≡ true) (o : Holding p) where
  taken : Between jobs₀ (k + 1) h (with_event p)
  taken = event_taken jobs₀ k h p b has

  same_jobs : (with_event p).jobs ≡ p.jobs
  unfolding with_event
  same_jobs = refl

  kind_owning : (kind : EventKind) → (next_event p).kind ≡ kind → Holding (by_kind kind (with_event p) (next_event p)).plan
  unfolding completed timed_out
  kind_owning Empty e = stale_owning (with_event p) (event_owning p o)
  kind_owning Arrival e =
      let f : _ = arrival_facts jobs₀ k h p b has e in
      arrives_owning (with_event p) (next_event p).job (omega (arith, f.0, b.loaded)) (rw same_jobs f.2) (event_owning p o)
  kind_owning Completion e =
      pick_cases
      (λ (m : Moment). Holding m.plan)
      (of_run (job_of (with_event p) (next_event p).job) (next_event p).generation)
      (completes (with_event p) (next_event p).job)
      (stale (with_event p))
      (λ t.
      let st : (job_at (with_event p).jobs (next_event p).job).state ≡ Running =
      runs_only (job_at (with_event p).jobs (next_event p).job).state
      (and_both (runs (job_at (with_event p).jobs (next_event p).job).state)
      (eqb (job_at (with_event p).jobs (next_event p).job).run (next_event p).generation) t).0 in
      completes_owning (with_event p) (next_event p).job
      (in_table (with_event p).jobs (next_event p).job taken.good.size
      (arrived_not (job_at (with_event p).jobs (next_event p).job).state (ap came st))) (event_owning p o))
      (λ f. stale_owning (with_event p) (event_owning p o))
  kind_owning Timeout e =
      pick_cases
      (λ (m : Moment). Holding m.plan)
      (of_timeout (job_of (with_event p) (next_event p).job) (next_event p).generation)
      (times_out (with_event p) (next_event p).job)
      (stale (with_event p))
      (λ t.
      let st : (job_at (with_event p).jobs (next_event p).job).state ≡ Waiting =
      waits_only (job_at (with_event p).jobs (next_event p).job).state
      (and_both (waits_in (job_at (with_event p).jobs (next_event p).job).state)
      (eqb (job_at (with_event p).jobs (next_event p).job).timeouts (next_event p).generation) t).0 in
      fails_owning (with_event p) (next_event p).job
      (in_table (with_event p).jobs (next_event p).job taken.good.size
      (arrived_not (job_at (with_event p).jobs (next_event p).job).state (ap came st))) st (event_owning p o))
      (λ f. stale_owning (with_event p) (event_owning p o))

  step_owning : Cuts p.setting → Holding (advanced p).plan
  unfolding advanced
  step_owning cuts =
      let m : Moment = happened (with_event p) (next_event p) in
      let e : m.plan.setting ≡ p.setting = happened_setting p in
      pick_either (λ (x : Moment). Holding x.plan) m.goes (settled m) m
      (settled_owning jobs₀ (k + 1) h m (happened_amid jobs₀ k h p b has) (rw e cuts) (kind_owning (next_event p).kind refl)) (kind_owning (next_event p).kind refl)

-- ---- every plan reached

pub reached_owning : (trace : List ℕ) (k : ℕ) (p : Plan) (h : List Decision) → Reached trace k p h → Cuts p.setting × Holding p
reached_owning trace k p h (begin e) =
    let r : Ready (load trace).plan = load_ready trace e in (
      load_cuts trace e,
      (
        owners_loaded (load trace).plan.setting.gpus (load trace).plan.gpus (load trace).plan.jobs r.gpu_size
            r.job_size r.no_gpu_lem (λ i. record { nobodys = (r.idle i).0; uncut = (r.idle i).2; slices = (r.idle i).3 }) r.pending,
        none_loaded (load trace).plan.jobs r.pending,
      ),
    )
reached_owning trace k p h (onward {k = n} {p = q} {h = g} r buffer e) =
    let b : Between (first trace).jobs n g q × (q.setting ≡ (first trace).setting) = reached_between trace n q g r in
    let o : Cuts q.setting × Holding q = reached_owning trace n q g r in
    let a : _ = accepted_for q buffer e in
    let s : (stepped q (length buffer)).plan ≡ (advanced q).plan = ap (λ x. x.plan) (accepted_plan q buffer e) in
    (rw (s, setting_stays q) o.0, rw s (step_owning (first trace).jobs n g q b.0 a.1 o.1 o.0))

-- Ownership: on every plan reached from a loaded trace the owner of a GPU or a slice is a running job, and a running job holds exactly as many as it asks for.
pub owned : (trace : List ℕ) (k : ℕ) (p : Plan) (h : List Decision) → Reached trace k p h → Owned p.setting.gpus p.gpus p.jobs
owned trace k p h r = let o : Cuts p.setting × Holding p = reached_owning trace k p h r in owners_owned p.setting.gpus p.gpus p.jobs o.1.0 o.1.1
