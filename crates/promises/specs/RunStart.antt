-- A start fixes the completion of its run: the entry stands in the room when the step is over.
use Rattle.std.specs.Prelude.{◌≡◌, refl, Bool, true, false, length, Float}
use Rattle.std.proofs.Math.Path.{ap}
use Rattle.std.proofs.Common.{◌∙◌, arith}
use mathlib.Core.List.{List, [], ◌∷◌, ◌++◌}
use Prim.Native.Nat.{ℕ, ◌+◌, ◌≤◌, ◌<◌}
use Rattle.laws.specs.Choice.{pick_either}
use Rattle.laws.specs.Tests.{never_both}
use Rattle.laws.specs.Lists.{All, Distinct, all_weaken, all_append}
use Rattle.model.specs.Number.{bits_of}
use Rattle.model.specs.declared.event.Event.{Event}
use Rattle.model.specs.declared.event.EventKind.{EventKind}
use Rattle.model.specs.declared.event.EventKind.TheVariants.{Empty, Arrival, Completion, Timeout}
use Rattle.model.specs.declared.job.Job.{Job}
use Rattle.model.specs.declared.job.JobState.TheVariants.{Running}
use Rattle.model.specs.declared.plan.Plan.{Plan}
use Rattle.model.specs.declared.setting.Options.{Options}
use Rattle.decision_log.specs.Log.{empty_log, told, decisions}
use Rattle.decision_log.specs.declared.Decision.{Decision}
use Rattle.decision_log.specs.declared.Kind.{Kind}
use Rattle.decision_log.specs.declared.Kind.TheVariants as Kinds
use Rattle.life.specs.Life as Life
use Rattle.room.specs.Room.{event_at, first_free}
use Rattle.starts.specs.Begin as Begin
use Rattle.starts.specs.Begin.{begun_all}
use Rattle.starts.specs.declared.begin.Placing.{Placing}
use Rattle.starts.specs.declared.begin.Begun.{Begun}
use Rattle.apart.specs.StartsLaws.{jobs_of, completion_of, start_told, starts_told, begun_started, begun_runs, begun_time, begun_events, begun_generation, all_other}
use Rattle.happen.specs.Happen.{stale, said, arrives, completes, times_out, of_run, of_timeout, completed, timed_out}
use Rattle.happen.specs.Happen as Happen
use Rattle.happen.specs.declared.Moment.{Moment}
use Rattle.engine.specs.Settle.{pass_of, with_pass, settled}
use Rattle.engine.specs.Advance.{next_event, has_event, with_event, by_kind, happened, advanced}
use Rattle.history.specs.Told.{is_started}
use Rattle.history.specs.Good.{job_at}
use Rattle.history.specs.Entries.{in_use}
use Rattle.promises.specs.Between.{Between, Amid}
use Rattle.promises.specs.Steps.{happened_amid}
use Rattle.promises.specs.Completions.{EndOf, end_used, added_there}
use Rattle.promises.specs.Ending.{Wider, Fresh, still_fresh, starts_wider}
use Rattle.promises.specs.EndingSteps.{to_start, placings, settled_is, placed_once, placed_fresh, timeouts_of, room_of}
use Rattle.promises.specs.RunEnd.{evictions_told, settled_told}

-- The job that the decision names runs from the time told, and an entry is the completion of that run, at start + remaining × multiplier; the multiplier is the option's or 1.0.
pub record Fixed (options : Options) (jobs : List Job) (events : List Event) (d : Decision) : Type 0 where
  pub runs_now : (job_at jobs d.job).state ≡ Running
  pub at : d.time ≡ bits_of (job_at jobs d.job).start
  pub entry : ℕ
  pub is : EndOf d.job (job_at jobs d.job).run (event_at events entry)
  pub penalised : Bool
  pub time : (event_at events entry).time ≡ Life.completion_at (job_at jobs d.job) (job_at jobs d.job).start (Life.multiplier_of options penalised)

-- it stays so where the job and the entries in use stay
fixed_kept : (options : Options) (jobs after : List Job) (events wider : List Event) (d : Decision) → job_at after d.job ≡ job_at jobs d.job →
    Wider events wider → Fixed options jobs events d → Fixed options after wider d
fixed_kept options jobs after events wider d e w f =
    let s : event_at wider f.entry ≡ event_at events f.entry =
    w.stays f.entry (end_used d.job (job_at jobs d.job).run (event_at events f.entry) f.is) in
    record {
      runs_now = rw e f.runs_now;
      at = rw e f.at;
      entry = f.entry;
      is = rw (e, s) f.is;
      penalised = f.penalised;
      time = rw (e, s) f.time;
    }

module _ (options : Options) (clock : Float) where
  begun_fixed : (b : Begun) (p : Placing) → p.job < length b.jobs → length b.ahead.events ≡ 1152 → in_use b.ahead.events < 1152 →
      Fixed options (Begin.begun options clock b p).jobs (Begin.begun options clock b p).ahead.events (start_told options clock b p)
  unfolding Life.started
  begun_fixed b p inside size room =
      let i : ℕ = first_free b.ahead.events in
      let e : event_at (Begin.begun options clock b p).ahead.events i ≡ completion_of options clock b p =
      rw (begun_events options clock b p) (added_there b.ahead.events size room (completion_of options clock b p)) in
      record {
        runs_now = begun_runs options clock b p inside;
        at = begun_time options clock b p inside;
        entry = i;
        is = record {
          kind = ap (λ (x : Event). x.kind) e;
          job = ap (λ (x : Event). x.job) e;
          generation = ap (λ (x : Event). x.generation) e
              ∙ begun_generation options clock b p inside;
        };
        penalised = p.penalised;
        time = ap (λ (x : Event). x.time) e ∙ rw (begun_started options clock b p inside);
      }

  -- each start that is told
  starts_fixed : (b : Begun) (ps : List Placing) → Distinct (jobs_of ps) → All (Fresh options clock b.jobs) (jobs_of ps) →
      length b.ahead.events ≡ 1152 → in_use (begun_all options clock b ps).ahead.events < 1152 →
      All (Fixed options (begun_all options clock b ps).jobs (begun_all options clock b ps).ahead.events) (starts_told options clock b ps)
  unfolding begun_all starts_told
  starts_fixed b [] d l s r = tt
  starts_fixed b (p ∷ ps) d l s r =
      let c : Begun = Begin.begun options clock b p in
      let w : Wider b.ahead.events c.ahead.events = starts_wider options clock b (p ∷ []) s in
      let v : Wider c.ahead.events (begun_all options clock c ps).ahead.events = starts_wider options clock c ps w.size in
      let f : Fixed options c.jobs c.ahead.events (start_told options clock b p) = begun_fixed b p l.0.0 s (omega (arith, w.more, v.more, r)) in (
        fixed_kept options c.jobs (begun_all options clock c ps).jobs c.ahead.events (begun_all options clock c ps).ahead.events
            (start_told options clock b p) (all_other options clock c ps p.job d.0) v f,
        starts_fixed c ps d.1 (still_fresh options clock b p (jobs_of ps) d.0 l.1) w.size r,
      )

-- ---- a step

-- what a plan says of a decision, if it tells a start
abbrev pub FixedIn : Plan → Decision → Type 0
FixedIn q d = is_started d.kind ≡ true → Fixed q.setting.options q.jobs q.events d

abbrev Unstarted : Decision → Type 0
Unstarted d = is_started d.kind ≡ false

unstarted_fixed : (q : Plan) (ds : List Decision) → All Unstarted ds → All (FixedIn q) ds
unstarted_fixed q ds u = all_weaken Unstarted (FixedIn q) ds (λ d n t. absurd (never_both t n)) u

same_options : (m : Moment) → (settled m).plan.setting ≡ m.plan.setting
unfolding settled with_pass
same_options m = refl

settled_fixed : (jobs₀ : List Job) (k : ℕ) (h : List Decision) (m : Moment) (a : Amid jobs₀ k h m) → 1 ≤ k → All Unstarted (decisions m.log) →
    All (FixedIn (settled m).plan) (decisions (settled m).log)
settled_fixed jobs₀ k h m a one u =
    let es : List Decision = (evictions_told jobs₀ k h m a).evictions in
    let ss : List Decision = starts_told m.plan.setting.options m.plan.clock (to_start m.plan (pass_of m)) (placings (pass_of m)) in
    let e : All Unstarted es = all_weaken (λ d. (d.time ≡ bits_of m.plan.clock) × (d.kind ≡ Kinds.Evicted)) Unstarted es
    (λ d x. ap is_started x.1) (evictions_told jobs₀ k h m a).each in
    let s : All (FixedIn (settled m).plan) ss =
    all_weaken
    (Fixed m.plan.setting.options (settled m).plan.jobs (settled m).plan.events)
    (FixedIn (settled m).plan)
    ss
    (λ d f t. rw (same_options m) f)
    (rw ((settled_is m).0, (settled_is m).1) (starts_fixed m.plan.setting.options m.plan.clock (to_start m.plan (pass_of m))
    (placings (pass_of m)) (placed_once jobs₀ k h m a) (placed_fresh jobs₀ k h m a) (timeouts_of jobs₀ k h m a).wider.size (room_of jobs₀ k h m a one))) in
    rw (settled_told jobs₀ k h m a)
    (all_append (FixedIn (settled m).plan) (decisions m.log) (es ++ ss) (unstarted_fixed (settled m).plan (decisions m.log) u)
    (all_append (FixedIn (settled m).plan) es ss (unstarted_fixed (settled m).plan es e) s))

-- no event's own decision is a start
stale_unstarted : (p : Plan) → All Unstarted (decisions (stale p).log)
unfolding stale empty_log
stale_unstarted p = tt

said_unstarted : (p : Plan) (ok : Bool) (kind : Kind) (job other : ℕ) → is_started kind ≡ false → All Unstarted (decisions (said p ok kind job other).log)
unfolding said told empty_log
said_unstarted p ok kind job other n = (n, tt)

arrives_unstarted : (p : Plan) (id : ℕ) → All Unstarted (decisions (arrives p id).log)
unfolding arrives
arrives_unstarted p id = said_unstarted _ _ Kinds.Arrived id 0 refl

completes_unstarted : (p : Plan) (id : ℕ) → All Unstarted (decisions (completes p id).log)
unfolding completes
completes_unstarted p id = said_unstarted _ _ Kinds.Completed id _ refl

fails_unstarted : (p : Plan) (id : ℕ) → All Unstarted (decisions (times_out p id).log)
unfolding times_out
fails_unstarted p id = said_unstarted _ _ Kinds.Failed id 0 refl

kind_unstarted : (kind : EventKind) (p : Plan) (e : Event) → All Unstarted (decisions (by_kind kind p e).log)
unfolding completed timed_out
kind_unstarted Empty p e = stale_unstarted p
kind_unstarted Arrival p e = arrives_unstarted p e.job
kind_unstarted Completion p e = pick_either (λ (m : Moment). All Unstarted (decisions m.log)) (of_run (Happen.job_of p e.job) e.generation)
    (completes p e.job) (stale p) (completes_unstarted p e.job) (stale_unstarted p)
kind_unstarted Timeout p e = pick_either (λ (m : Moment). All Unstarted (decisions m.log)) (of_timeout (Happen.job_of p e.job) e.generation)
    (times_out p e.job) (stale p) (fails_unstarted p e.job) (stale_unstarted p)

-- every start that a step tells
pub step_fixed : (jobs₀ : List Job) (k : ℕ) (h : List Decision) (p : Plan) → Between jobs₀ k h p → has_event p ≡ true →
    All (FixedIn (advanced p).plan) (decisions (advanced p).log)
unfolding advanced
step_fixed jobs₀ k h p b event =
    let m : Moment = happened (with_event p) (next_event p) in
    let u : All Unstarted (decisions m.log) = kind_unstarted (next_event p).kind (with_event p) (next_event p) in
    pick_either (λ (x : Moment). All (FixedIn x.plan) (decisions x.log)) m.goes (settled m) m
    (settled_fixed jobs₀ (k + 1) h m (happened_amid jobs₀ k h p b event) (omega arith) u) (unstarted_fixed m.plan (decisions m.log) u)
