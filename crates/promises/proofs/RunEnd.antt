-- A run that may not be cut short goes on with its completion ahead, or ends by that completion: one step.
use Rattle.std.specs.Prelude.{◌≡◌, ◌⊎◌, Bool, false, ℕ, ◌+◌, ◌<◌, length}
use Rattle.std.proofs.Math.Path.{refl, sym, ap}
use Rattle.std.proofs.Common.{◌∙◌, inl, inr, ⊎_elim, arith, get_or-set_same}
use Rattle.std.proofs.Math.Bool.{true}
use mathlib.Core.List.{List, [], ◌∷◌, ◌++◌}
use Rattle.std.proofs.Math.Dec.{eqb}
use Rattle.std.proofs.Math.Seq.{get_or-set_other}
use borrow.Author.Tests.{eqb-true, eq-eqb}
use Rattle.laws.specs.Choice.{pick, pick_cases, pick_either}
use Rattle.laws.specs.Tests.{never_both, and_both, both_and, eq_or_ne}
use Rattle.model.specs.Job.{no_job}
use Rattle.model.specs.Number.{bits_of}
use Rattle.model.specs.declared.event.EventKind.{EventKind}
use Rattle.model.specs.declared.event.EventKind.TheVariants.{Empty, Arrival, Completion, Timeout}
use Rattle.model.specs.declared.job.Job.{Job}
use Rattle.model.specs.declared.job.JobState.{JobState}
use Rattle.model.specs.declared.job.JobState.TheVariants.{Waiting, Finished}
use Rattle.model.specs.declared.plan.Plan.{Plan}
use Rattle.decision_log.specs.Log.{empty_log, told, decisions}
use Rattle.decision_log.specs.declared.Decision.{Decision}
use Rattle.decision_log.specs.declared.Kind.TheVariants as Kinds
use Rattle.life.specs.Life as Life
use Rattle.cluster.specs.Usage.{runs}
use Rattle.line.specs.Keep.{waits_in}
use Rattle.apart.specs.StartsLaws.{starts_told}
use Rattle.room.specs.Room.{used, event_at, least}
use Rattle.room.specs.declared.ahead.Ahead.{Ahead}
use Rattle.starts.specs.Begin.{amount}
use Rattle.happen.specs.Happen.{stale, said, joins, arrives, completes, times_out, of_run, of_timeout, completed, timed_out}
use Rattle.happen.specs.Happen as Happen
use Rattle.happen.specs.declared.Moment.{Moment}
use Rattle.engine.specs.Settle.{pass_of, settled}
use Rattle.engine.specs.Advance.{next_event, has_event, with_event, by_kind, happened, advanced, advanced_goes}
use Rattle.history.specs.Good.{job_at}
use Rattle.history.specs.Changes.{in_table}
use Rattle.history.specs.Good.{came}
use Rattle.history.specs.PassOwed.{arrived_not}
use Rattle.promises.specs.Between.{Between, Amid}
use Rattle.apart.specs.Keeps.{waits_only}
use Rattle.promises.specs.Happens.{completes_amid}
use Rattle.promises.specs.Steps.{event_taken, arrival_facts, happened_amid}
use Rattle.promises.specs.Completions.{EndOf, end_used, end_once, taken_stays}
use Rattle.promises.specs.Ending.{beside_none, timeout_beside}
use Rattle.promises.specs.EndingSteps.{Ends, to_start, placings}
use Rattle.promises.specs.RunEnd.{end_told, RunEnds, RunGoesOn, Last, settled_entry, settled_spares, settled_finished, evictions_told, settled_told}

-- ---- the completion

completes_goes : (p : Plan) (id : ℕ) → (completes p id).goes ≡ true
unfolding completes said
completes_goes p id = refl

completes_told : (p : Plan) (id : ℕ) → decisions (completes p id).log ≡ record
    { time = bits_of p.clock; kind = Kinds.Completed; job = id; other = amount (job_at p.jobs id).ask } ∷ []
unfolding completes said told empty_log
completes_told p id = refl

completes_finished : (p : Plan) (id : ℕ) → id < length p.jobs → (job_at (completes p id).plan.jobs id).state ≡ Finished
unfolding completes said Life.ends
completes_finished p id l = ap (λ (x : Job). x.state) (get_or-set_same p.jobs id (Life.ends (job_at p.jobs id)) no_job l)

-- ---- another event

on_more : (j i : ℕ) (p q r : Plan) → RunGoesOn p j i q → RunGoesOn q j i r → RunGoesOn p j i r
on_more j i p q r g f = record { job = f.job ∙ g.job; entry = f.entry ∙ g.entry }

module _ (j i : ℕ) (p : Plan) (id : ℕ) (other : j ≡ id → ⊥) where
  arrives_on : length p.events ≡ 1152 → used (event_at p.events i) ≡ true → RunGoesOn p j i (arrives p id).plan
  unfolding arrives said joins
  arrives_on s u =
      let x : Job = Life.waits (Happen.job_of p id) p.clock in
      let a : Ahead = record { events = p.events; next = p.next; ok = true } in
      record {
        job = get_or-set_other p.jobs id j x no_job other;
        entry = (timeout_beside p.events a id x x.ask.arrival (beside_none p.events s)).wider.stays i u;
      }

  completes_on : RunGoesOn p j i (completes p id).plan
  unfolding completes said
  completes_on = record { job = get_or-set_other p.jobs id j (Life.ends (Happen.job_of p id)) no_job other; entry = refl }

  fails_on : RunGoesOn p j i (times_out p id).plan
  unfolding times_out said
  fails_on = record { job = get_or-set_other p.jobs id j (Life.fails (Happen.job_of p id) p.clock) no_job other; entry = refl }

stale_on : (j i : ℕ) (p : Plan) → RunGoesOn p j i (stale p).plan
unfolding stale
stale_on j i p = record { job = refl; entry = refl }

-- ---- one step

module _ (jobs₀ : List Job) (k : ℕ) (h : List Decision) (p : Plan) (b : Between jobs₀ k h p) (event : has_event p ≡ true) (ends : Ends p) (j i : ℕ)
    (last : Last (job_at p.jobs j)) (x : EndOf j (job_at p.jobs j).run (event_at p.events i)) where
  same_jobs : (with_event p).jobs ≡ p.jobs
  unfolding with_event
  same_jobs = refl

  same_clock : (with_event p).clock ≡ (next_event p).time
  unfolding with_event
  same_clock = refl

  inside : j < 128
  inside = in_table p.jobs j b.good.size (arrived_not (job_at p.jobs j).state (ap came last.0))

  module _ (e : least p.events ≡ i) where
    next_is : next_event p ≡ event_at p.events i
    unfolding next_event
    next_is = rw e

    moment_is : happened (with_event p) (next_event p) ≡ completes (with_event p) j
    unfolding completed
    moment_is =
        let y : EndOf j (job_at p.jobs j).run (next_event p) = rw next_is x in
        let r : job_at (with_event p).jobs (next_event p).job ≡ job_at p.jobs j = rw (same_jobs, y.job) in
        let t : of_run (Happen.job_of (with_event p) (next_event p).job) (next_event p).generation ≡ true =
        both_and (runs (job_at (with_event p).jobs (next_event p).job).state)
        (eqb (job_at (with_event p).jobs (next_event p).job).run (next_event p).generation) (rw (r, last.0))
        (eq-eqb (job_at (with_event p).jobs (next_event p).job).run (next_event p).generation (rw r (sym y.generation))) in
        ap (λ (kind : EventKind). by_kind kind (with_event p) (next_event p)) y.kind
        ∙ ap (λ (c : Bool). pick c (completes (with_event p) (next_event p).job) (stale (with_event p))) t ∙ ap (completes (with_event p)) y.job

    step_is : settled (completes (with_event p) j) ≡ advanced p
    step_is = advanced_goes p (completes (with_event p) j) (sym moment_is) (settled (completes (with_event p) j)) (completes_goes (with_event p) j) refl

    amid : Amid jobs₀ (k + 1) h (completes (with_event p) j)
    amid = completes_amid jobs₀ (k + 1) h (with_event p) j (event_taken jobs₀ k h p b event) (rw same_jobs last.0)

    own_told : decisions (completes (with_event p) j).log ≡ end_told p j i ∷ []
    own_told = completes_told (with_event p) j ∙ rw (same_clock, next_is, same_jobs)

    finished_then : (job_at (completes (with_event p) j).plan.jobs j).state ≡ Finished
    finished_then = completes_finished (with_event p) j (rw same_jobs (omega (arith, inside, b.good.size)))

    ends_so : RunEnds p j i (settled (completes (with_event p) j)).plan (decisions (settled (completes (with_event p) j)).log)
    ends_so =
        let m : Moment = completes (with_event p) j in
        let rest : List Decision = (evictions_told jobs₀ (k + 1) h m amid).evictions ++ starts_told m.plan.setting.options m.plan.clock
        (to_start m.plan (pass_of m)) (placings (pass_of m)) in
        record {
          taken = e;
          rest = rest;
          told = settled_told jobs₀ (k + 1) h m amid ∙ ap (λ (l : List Decision). l ++ rest) own_told;
          finished = ap (λ (y : Job). y.state) (settled_finished jobs₀ (k + 1) h (completes (with_event p) j) amid j finished_then) ∙ finished_then;
        }

    ends_here : RunEnds p j i (advanced p).plan (decisions (advanced p).log)
    ends_here = rw (← step_is) ends_so

  module _ (n : least p.events ≡ i → ⊥) where
    -- the event is no completion of this run
    not_this : EndOf j (job_at p.jobs j).run (next_event p) → ⊥
    unfolding next_event
    not_this y = n (end_once p.events b.counted.size j (job_at p.jobs j).run i (least p.events) (ends.own j last.0) x y)

    event_on : RunGoesOn p j i (with_event p)
    unfolding with_event
    event_on = record { job = refl; entry = taken_stays p.events b.counted.size (least p.events) i (λ z. n (sym z)) }

    in_use_lem : used (event_at (with_event p).events i) ≡ true
    in_use_lem = ap used event_on.entry ∙ end_used j (job_at p.jobs j).run (event_at p.events i) x

    -- a job that does not run is another
    other_job : (id : ℕ) (st : JobState) → (job_at (with_event p).jobs id).state ≡ st → runs st ≡ false → j ≡ id → ⊥
    other_job id st s f z = never_both (ap runs last.0)
        (ap (λ (y : ℕ). runs (job_at p.jobs y).state) z ∙ ap (λ (y : List Job). runs (job_at y id).state) (sym same_jobs) ∙ ap runs s ∙ f)

    kind_on : (kind : EventKind) → (next_event p).kind ≡ kind → RunGoesOn (with_event p) j i (by_kind kind (with_event p) (next_event p)).plan
    unfolding completed timed_out
    kind_on Empty q = stale_on j i (with_event p)
    kind_on Arrival q =
        arrives_on j i (with_event p) (next_event p).job
        (λ z. let c : came (job_at p.jobs (next_event p).job).state ≡ 0 =
        (arrival_facts jobs₀ k h p b event q).2 in let d : came (job_at p.jobs j).state ≡ came (job_at p.jobs (next_event p).job).state =
        ap (λ (y : ℕ). came (job_at p.jobs y).state) z in let f : came (job_at p.jobs j).state ≡ 1 = ap came last.0 in omega (arith, c, d, f))
        (event_taken jobs₀ k h p b event).counted.size in_use_lem
    kind_on Completion q =
        pick_cases
        (λ (m : Moment). RunGoesOn (with_event p) j i m.plan)
        (of_run (Happen.job_of (with_event p) (next_event p).job) (next_event p).generation)
        (completes (with_event p) (next_event p).job)
        (stale (with_event p))
        (λ t. completes_on j i (with_event p) (next_event p).job
        (λ z.
        let g : eqb (job_at (with_event p).jobs (next_event p).job).run (next_event p).generation ≡ true =
        (and_both (runs (job_at (with_event p).jobs (next_event p).job).state)
        (eqb (job_at (with_event p).jobs (next_event p).job).run (next_event p).generation) t).1 in
        let r : (job_at p.jobs j).run ≡ (job_at (with_event p).jobs (next_event p).job).run = ap (λ (y : ℕ). (job_at p.jobs y).run) z
        ∙ ap (λ (y : List Job). (job_at y (next_event p).job).run) (sym same_jobs) in
        not_this (record { kind = q; job = sym z; generation = sym (r ∙ eqb-true (job_at (with_event p).jobs (next_event p).job).run (next_event p).generation g) })))
        (λ f. stale_on j i (with_event p))
    kind_on Timeout q =
        pick_cases
        (λ (m : Moment). RunGoesOn (with_event p) j i m.plan)
        (of_timeout (Happen.job_of (with_event p) (next_event p).job) (next_event p).generation)
        (times_out (with_event p) (next_event p).job)
        (stale (with_event p))
        (λ t. fails_on j i (with_event p) (next_event p).job
        (other_job (next_event p).job Waiting (waits_only (job_at (with_event p).jobs (next_event p).job).state
        (and_both (waits_in (job_at (with_event p).jobs (next_event p).job).state)
        (eqb (job_at (with_event p).jobs (next_event p).job).timeouts (next_event p).generation) t).0) refl))
        (λ f. stale_on j i (with_event p))

    happened_on : RunGoesOn p j i (happened (with_event p) (next_event p)).plan
    happened_on = on_more j i p (with_event p) (happened (with_event p) (next_event p)).plan event_on (kind_on (next_event p).kind refl)

    settled_on : RunGoesOn p j i (settled (happened (with_event p) (next_event p))).plan
    settled_on =
        let m : Moment = happened (with_event p) (next_event p) in
        let a : Amid jobs₀ (k + 1) h m = happened_amid jobs₀ k h p b event in
        on_more j i p m.plan (settled m).plan happened_on
        (record {
          job = settled_spares jobs₀ (k + 1) h m a j (rw happened_on.job last);
          entry = settled_entry jobs₀ (k + 1) h m a i (ap used happened_on.entry ∙ end_used j (job_at p.jobs j).run (event_at p.events i) x);
        })

    goes_on_lem : RunGoesOn p j i (advanced p).plan
    unfolding advanced
    goes_on_lem =
        let m : Moment = happened (with_event p) (next_event p) in
        pick_either (λ (y : Moment). RunGoesOn p j i y.plan) m.goes (settled m) m settled_on happened_on

  -- the run ends by its completion, or goes on
  pub step_run : RunEnds p j i (advanced p).plan (decisions (advanced p).log) ⊎ RunGoesOn p j i (advanced p).plan
  step_run = ⊎_elim (λ e. inl (ends_here e)) (λ n. inr (goes_on_lem n)) (eq_or_ne (least p.events) i)
