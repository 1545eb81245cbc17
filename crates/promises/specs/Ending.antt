-- A running job has exactly one completion of its run ahead, and none of a later run: every change keeps it.
use Rattle.std.specs.Prelude.{◌≡◌, refl, true, false, ℕ, ◌+◌, ◌≤◌, ◌<◌, ◌%◌, ◌^◌, length, set, Float}
use Rattle.std.proofs.Common.{sym, ap, ◌∙◌, ⊎_elim, arith}
use mathlib.Core.List.{List, [], ◌∷◌}
use Rattle.laws.specs.Choice.{pick_either}
use Rattle.laws.specs.Tests.{split, never_both, eq_or_ne}
use Rattle.laws.specs.Lists.{All, Apart, Distinct, all_weaken, all_both, set_related}
use Rattle.laws.specs.Search.{has, has_all}
use Rattle.model.specs.Job.{no_job}
use Rattle.model.specs.declared.event.Event.{Event}
use Rattle.model.specs.declared.event.EventKind.TheVariants.{Timeout}
use Rattle.model.specs.declared.job.Job.{Job}
use Rattle.model.specs.declared.job.JobState.TheVariants.{Waiting, Running}
use Rattle.model.specs.declared.setting.Options.{Options}
use Rattle.life.specs.Life as Life
use Rattle.life.specs.Life.{timed}
use Rattle.cluster.specs.Usage.{runs}
use Rattle.room.specs.Room.{used, event_at, added, taken}
use Rattle.room.specs.Ahead.{queued}
use Rattle.room.specs.declared.ahead.Ahead.{Ahead}
use Rattle.starts.specs.Timeout.{timeout_queued, timeouts_queued}
use Rattle.starts.specs.Begin as Begin
use Rattle.starts.specs.Begin.{begun_all}
use Rattle.starts.specs.declared.begin.Placing.{Placing}
use Rattle.starts.specs.declared.begin.Begun.{Begun}
use Rattle.apart.specs.LineLaws.{victims_of}
use Rattle.apart.specs.Standing.{placed_of}
use Rattle.apart.specs.Changes.{Changes}
use Rattle.apart.specs.StartsLaws.{jobs_of, job_of, completion_of, begun_other, begun_run, begun_length, begun_events, timeouts_keep, all_keep}
use Rattle.pass.specs.declared.visit.Pass.{Pass}
use Rattle.history.specs.Good.{job_at}
use Rattle.history.specs.Entries.{in_use}
use Rattle.promises.specs.Completions.{is_completion, end_one, completions_of, EndOf, end_weighs, end_not, added_stays, added_size, added_more, added_other, added_end, taken_end}

pub record Ending (jobs : List Job) (events : List Event) : Type 0 where
  pub later : (j g : ℕ) → (job_at jobs j).run < g → completions_of j g events ≡ 0
  pub own : (j : ℕ) → (job_at jobs j).state ≡ Running → completions_of j (job_at jobs j).run events ≡ 1

-- ---- jobs that change without a start

-- runs stay as they are, and nobody begins to run
abbrev pub Quiet : List Job → List Job → Type 0
Quiet before jobs = (k : ℕ) → ((job_at jobs k).run ≡ (job_at before k).run) × ((job_at jobs k).state ≡ Running → (job_at before k).state ≡ Running)

pub quiet_set : (jobs : List Job) (k : ℕ) (x : Job) → x.run ≡ (job_at jobs k).run → (x.state ≡ Running → (job_at jobs k).state ≡ Running) → Quiet jobs (set jobs k x)
quiet_set jobs k x r s =
    set_related jobs k x no_job (λ a b. (b.run ≡ a.run) × (b.state ≡ Running → a.state ≡ Running)) (λ a. (refl, λ e. e)) (r, s)

module _ (before jobs : List Job) (quiet : Quiet before jobs) (events : List Event) (e : Ending before events) where
  -- the same completions are ahead
  pub ending_quiet : (after : List Event) → ((j g : ℕ) → completions_of j g after ≡ completions_of j g events) → Ending jobs after
  ending_quiet after same =
      record {
        later = λ j g l. same j g ∙ e.later j g (omega (arith, l, (quiet j).0));
        own = λ j st. same j (job_at jobs j).run ∙ ap (λ (r : ℕ). completions_of j r events) (quiet j).0 ∙ e.own j ((quiet j).1 st);
      }

  -- an event is taken that is no completion of a run that goes on
  pub ending_taken : (i : ℕ) → length events ≡ 1152 → i < 1152 →
      ((j : ℕ) → (job_at jobs j).state ≡ Running → end_one j (job_at before j).run (event_at events i) ≡ 0) → Ending jobs (taken events i)
  ending_taken i size b none =
      record {
        later = λ j g l. omega (arith, e.later j g (omega (arith, l, (quiet j).0)), taken_end events size i j g b);
        own =
            λ j st.
            let c : completions_of j (job_at jobs j).run (taken events i) ≡ completions_of j (job_at before j).run (taken events i) =
            ap (λ (r : ℕ). completions_of j r (taken events i)) (quiet j).0 in
            omega (arith, c, none j st, e.own j ((quiet j).1 st), taken_end events size i j (job_at before j).run b);
      }

-- a pass changes no run and starts nobody
pub quiet_pass : (clock : Float) (jobs : List Job) (p : Pass) → Changes clock jobs p → Quiet jobs p.jobs
unfolding Life.evicted Life.placed
quiet_pass clock jobs p c k =
    split
    (has k (victims_of p.line))
    (λ v. let x : ((job_at jobs k).state ≡ Running) × (job_at p.jobs k ≡ Life.evicted (job_at jobs k) clock) =
    has_all (λ i. ((job_at jobs i).state ≡ Running) × (job_at p.jobs i ≡ Life.evicted (job_at jobs i) clock)) k (victims_of p.line) c.evicted v in
    (ap (λ (y : Job). y.run) x.1, λ s. x.0))
    (λ v.
    split
    (has k (placed_of p))
    (λ w. let x : ((job_at jobs k).state ≡ Waiting) × (job_at p.jobs k ≡ Life.placed (job_at jobs k)) =
    has_all (λ i. ((job_at jobs i).state ≡ Waiting) × (job_at p.jobs i ≡ Life.placed (job_at jobs i))) k (placed_of p) c.placed w in
    (ap (λ (y : Job). y.run) x.1, λ s. absurd (never_both (ap runs s) (ap (λ (y : Job). runs y.state) x.1))))
    (λ w. let x : job_at p.jobs k ≡ job_at jobs k = c.others k v w in
    (ap (λ (y : Job). y.run) x, λ s. ap (λ (y : Job). y.state) (sym x) ∙ s)))

-- ---- events that come in

-- every entry in use stays as it is, and no fewer are in use
pub record Wider (events after : List Event) : Type 0 where
  pub size : length after ≡ 1152
  pub more : in_use events ≤ in_use after
  pub stays : (i : ℕ) → used (event_at events i) ≡ true → event_at after i ≡ event_at events i

pub wider_none : (events : List Event) → length events ≡ 1152 → Wider events events
wider_none events s = record { size = s; more = omega arith; stays = λ i u. refl }

pub wider_added : (events after : List Event) (e : Event) → Wider events after → Wider events (added after e)
wider_added events after e w =
    record {
      size = added_size after w.size e;
      more = omega (arith, w.more, added_more after w.size e);
      stays = λ i u. added_stays after w.size e i (ap used (w.stays i u) ∙ u) ∙ w.stays i u;
    }

-- and no completion came in
pub record Beside (events after : List Event) : Type 0 where
  pub wider : Wider events after
  pub same : (j g : ℕ) → completions_of j g after ≡ completions_of j g events

pub beside_none : (events : List Event) → length events ≡ 1152 → Beside events events
beside_none events s = record { wider = wider_none events s; same = λ j g. refl }

kind_not : (j g : ℕ) (e : Event) → is_completion e.kind ≡ false → EndOf j g e → ⊥
kind_not j g e n x = never_both (ap is_completion x.kind) n

pub other_kind : (j g : ℕ) (e : Event) → is_completion e.kind ≡ false → end_one j g e ≡ 0
other_kind j g e n = end_not j g e (kind_not j g e n)

pub timeout_beside : (events : List Event) (a : Ahead) (id : ℕ) (x : Job) (from : Float) → Beside events a.events → Beside events (timeout_queued a id x from).events
unfolding timeout_queued queued
timeout_beside events a id x from b =
    pick_either
    (λ (y : Ahead). Beside events y.events)
    (timed x.ask)
    (queued a _ Timeout id x.timeouts)
    a
    (let e : Event = record { time = _; number = a.next; kind = Timeout; job = id; generation = x.timeouts } in
    record { wider = wider_added events a.events e b.wider; same = λ j g. added_other a.events b.wider.size j g e (other_kind j g e refl) ∙ b.same j g })
    b

pub timeouts_beside : (clock : Float) (jobs : List Job) (a : Ahead) (vs : List ℕ) → length a.events ≡ 1152 →
    Beside a.events (timeouts_queued clock jobs a vs).events
timeouts_beside clock jobs a vs s =
    timeouts_keep clock jobs (λ x. Beside a.events x.events) (λ x v b. timeout_beside a.events x v (job_at jobs v) clock b) a vs (beside_none a.events s)

-- ---- starts

module _ (options : Options) (clock : Float) where
  pub starts_wider : (b : Begun) (ps : List Placing) → length b.ahead.events ≡ 1152 → Wider b.ahead.events (begun_all options clock b ps).ahead.events
  starts_wider b ps s =
      all_keep options clock (λ x. Wider b.ahead.events x.ahead.events)
      (λ x p w. rw (begun_events options clock x p) (wider_added b.ahead.events x.ahead.events (completion_of options clock x p) w)) b ps
      (wider_none b.ahead.events s)

  module _ (b : Begun) (p : Placing) (inside : p.job < length b.jobs) (small : (job_of b p).run < 9) (size : length b.ahead.events ≡ 1152)
      (room : in_use b.ahead.events < 1152) (e : Ending b.jobs b.ahead.events) where
    -- the run generation that begins
    raised_run : (job_at (Begin.begun options clock b p).jobs p.job).run ≡ (job_of b p).run + 1
    raised_run = let m : ((job_of b p).run + 1) % 2 ^ 32 ≡ (job_of b p).run + 1 = omega (arith, small) in begun_run options clock b p inside ∙ m

    is_end_lem : EndOf p.job ((job_of b p).run + 1) (completion_of options clock b p)
    is_end_lem = record { kind = refl; job = refl; generation = let m : ((job_of b p).run + 1) % 2 ^ 32 ≡ (job_of b p).run + 1 = omega (arith, small) in m }

    -- only the new run has one more
    count_other : (j g : ℕ) → (EndOf j g (completion_of options clock b p) → ⊥) →
        completions_of j g (Begin.begun options clock b p).ahead.events ≡ completions_of j g b.ahead.events
    count_other j g n =
        rw (begun_events options clock b p) (added_other b.ahead.events size j g (completion_of options clock b p) (end_not j g (completion_of options clock b p) n))

    count_own : completions_of p.job ((job_of b p).run + 1) (Begin.begun options clock b p).ahead.events ≡ 1
    count_own =
        let z : completions_of p.job ((job_of b p).run + 1) b.ahead.events ≡ 0 = e.later p.job ((job_of b p).run + 1) (omega arith) in
        let a : completions_of p.job ((job_of b p).run + 1) (added b.ahead.events (completion_of options clock b p)) ≡ completions_of p.job
        ((job_of b p).run + 1) b.ahead.events + 1 =
        added_end b.ahead.events size room p.job ((job_of b p).run + 1) (completion_of options clock b p)
        (end_weighs p.job ((job_of b p).run + 1) (completion_of options clock b p) is_end_lem) in
        rw (begun_events options clock b p) (omega (arith, a, z))

    -- another job is as it was
    at_other : (j : ℕ) → (j ≡ p.job → ⊥) → job_at (Begin.begun options clock b p).jobs j ≡ job_at b.jobs j
    at_other j n = begun_other options clock b p j n

    later_after : (j g : ℕ) → (job_at (Begin.begun options clock b p).jobs j).run < g → completions_of j g (Begin.begun options clock b p).ahead.events ≡ 0
    later_after j g l =
        ⊎_elim
        (λ s.
        let s : j ≡ p.job = s in
        let r : (job_at (Begin.begun options clock b p).jobs j).run ≡ (job_at b.jobs j).run + 1 = rw s raised_run in
        let t : (job_of b p).run ≡ (job_at b.jobs j).run = rw s in
        count_other j g (λ x. let y : (job_of b p).run + 1 ≡ g = sym is_end_lem.generation ∙ x.generation in omega (arith, l, r, t, y))
        ∙ e.later j g (omega (arith, l, r)))
        (λ n.
        let r : (job_at (Begin.begun options clock b p).jobs j).run ≡ (job_at b.jobs j).run = ap (λ (x : Job). x.run) (at_other j n) in
        count_other j g (λ x. n (sym x.job)) ∙ e.later j g (omega (arith, l, r)))
        (eq_or_ne j p.job)

    own_after : (j : ℕ) → (job_at (Begin.begun options clock b p).jobs j).state ≡ Running →
        completions_of j (job_at (Begin.begun options clock b p).jobs j).run (Begin.begun options clock b p).ahead.events ≡ 1
    own_after j st =
        ⊎_elim
        (λ s. let s : j ≡ p.job = s in rw (s, raised_run) count_own)
        (λ n.
        let st' : (job_at b.jobs j).state ≡ Running = ap (λ (x : Job). x.state) (sym (at_other j n)) ∙ st in
        rw (at_other j n) (count_other j (job_at b.jobs j).run (λ x. n (sym x.job)) ∙ e.own j st'))
        (eq_or_ne j p.job)

    pub begun_ends : Ending (Begin.begun options clock b p).jobs (Begin.begun options clock b p).ahead.events
    begun_ends = record { later = later_after; own = own_after }

  -- a job that may start: it is in the table and has run few times
  abbrev pub Fresh : List Job → ℕ → Type 0
  Fresh jobs k = (k < length jobs) × ((job_at jobs k).run < 9)

  pub still_fresh : (b : Begun) (p : Placing) (ks : List ℕ) → Apart p.job ks → All (Fresh b.jobs) ks → All (Fresh (Begin.begun options clock b p).jobs) ks
  still_fresh b p ks a l =
      all_weaken
      (λ k. (p.job ≡ k → ⊥) × Fresh b.jobs k)
      (Fresh (Begin.begun options clock b p).jobs)
      ks
      (λ k q. (rw (begun_length options clock b p) q.1.0, rw (begun_other options clock b p k (λ e. q.0 (sym e))) q.1.1))
      (all_both (λ k. p.job ≡ k → ⊥) (Fresh b.jobs) ks a l)

  -- all start, where there is room to the end
  pub starts_end : (b : Begun) (ps : List Placing) → Distinct (jobs_of ps) → All (Fresh b.jobs) (jobs_of ps) → length b.ahead.events ≡ 1152 →
      in_use (begun_all options clock b ps).ahead.events < 1152 → Ending b.jobs b.ahead.events →
      Ending (begun_all options clock b ps).jobs (begun_all options clock b ps).ahead.events
  unfolding begun_all
  starts_end b [] d l s r e = e
  starts_end b (p ∷ ps) d l s r e =
      let w : Wider b.ahead.events (Begin.begun options clock b p).ahead.events = starts_wider b (p ∷ []) s in
      let v : Wider (Begin.begun options clock b p).ahead.events (begun_all options clock (Begin.begun options clock b p) ps).ahead.events =
      starts_wider (Begin.begun options clock b p) ps w.size in
      starts_end (Begin.begun options clock b p) ps d.1 (still_fresh b p (jobs_of ps) d.0 l.1) w.size r
      (begun_ends b p l.0.0 l.0.1 s (omega (arith, w.more, v.more, r)) e)
