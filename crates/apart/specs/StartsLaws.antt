-- What timeouts and starts change, and what they keep.
use Rattle.std.specs.Prelude.{◌≡◌, Bool, true, false, get_or, set, Float}
use Rattle.std.proofs.Math.Path.{refl, sym, ap}
use Rattle.std.proofs.Common.{◌∙◌}
use mathlib.Core.List.{List, [], ◌∷◌, ◌++◌, map, append-nil, append_assoc}
use Prim.Native.Nat.{ℕ, zero, suc, ◌+◌, ◌%◌, ◌^◌, ◌≤◌, ◌<◌}
use native.Mathlib.Omega.{arith}
use Rattle.std.proofs.Math.ListN.{length, length-set}
use Rattle.std.proofs.Math.Seq.{get_or-set_same, get_or-set_other}
use Rattle.laws.specs.Choice.{pick_either}
use Rattle.laws.specs.Tests.{and_both, fails, never_both}
use Rattle.laws.specs.Lists.{All, Apart, Distinct, set_kept, all_unmap, all_at}
use Rattle.model.specs.Job.{no_job}
use Rattle.model.specs.Number.{permitted, bits_of}
use Rattle.model.specs.declared.event.Event.{Event}
use Rattle.model.specs.declared.event.EventKind.{EventKind}
use Rattle.model.specs.declared.event.EventKind.TheVariants.{Completion}
use Rattle.model.specs.declared.job.Job.{Job}
use Rattle.model.specs.declared.job.JobState.TheVariants.{Running}
use Rattle.model.specs.declared.setting.Options.{Options}
use Rattle.small.specs.Small.{onward, onward_room}
use Rattle.decision_log.specs.Log.{no_decision, told, decisions, most, told_behind}
use Rattle.decision_log.specs.declared.Decision.{Decision}
use Rattle.decision_log.specs.declared.Kind.TheVariants.{Started}
use Rattle.life.specs.Life as Life
use Rattle.life.specs.Life.{timed}
use Rattle.noted.specs.Noted as Noted
use Rattle.room.specs.Room.{added, first_free}
use Rattle.room.specs.Ahead.{queued}
use Rattle.room.specs.declared.ahead.Ahead.{Ahead}
use Rattle.starts.specs.Turns.{folded_keeps, folded_among}
use Rattle.starts.specs.Timeout.{timeout_queued, timeouts_queued, victim_queued, timeouts_folded}
use Rattle.starts.specs.Begin.{no_placing, amount, begun, begun_all, begun_folded}
use Rattle.starts.specs.declared.begin.Placing.{Placing}
use Rattle.starts.specs.declared.begin.Begun.{Begun}

-- a test that held before wherever it holds after stays failed once it fails
stays_failed : (before after : Bool) → (after ≡ true → before ≡ true) → before ≡ false → after ≡ false
stays_failed before after f e = fails after (λ t. never_both (f t) e)

-- ---- an event that is queued

module _ (a : Ahead) (time : Float) (kind : EventKind) (job generation : ℕ) where
  -- as many entries as before
  pub queued_length : length (queued a time kind job generation).events ≡ length a.events
  unfolding queued added
  queued_length = length-set a.events (first_free a.events) (record { time = time; number = a.next; kind = kind; job = job; generation = generation })

  -- all is permitted after only if it was before and the time is
  pub queued_ok : (queued a time kind job generation).ok ≡ true → (a.ok ≡ true) × (permitted time ≡ true)
  unfolding queued
  queued_ok h = and_both a.ok (permitted time) h

-- ---- timeouts

-- as many entries as before
pub timeout_length : (a : Ahead) (id : ℕ) (j : Job) (from : Float) → length (timeout_queued a id j from).events ≡ length a.events
unfolding timeout_queued
timeout_length a id j from = pick_either (λ x. length x.events ≡ length a.events) (timed j.ask) _ a (queued_length a _ _ _ _) refl

-- all is permitted after only if it was before
pub timeout_ok : (a : Ahead) (id : ℕ) (j : Job) (from : Float) → (timeout_queued a id j from).ok ≡ true → a.ok ≡ true
unfolding timeout_queued
timeout_ok a id j from = pick_either (λ x. x.ok ≡ true → a.ok ≡ true) (timed j.ask) _ a (λ h. (queued_ok a _ _ _ _ h).0) (λ h. h)

module _ (clock : Float) (jobs : List Job) where
  -- what each victim's timeout keeps, all keep
  pub timeouts_keep : (P : Ahead → Type 0) → ((a : Ahead) (v : ℕ) → P a → P (victim_queued clock jobs a v)) → (a : Ahead) (victims : List ℕ) → P a →
      P (timeouts_queued clock jobs a victims)
  timeouts_keep P k a victims h = rw (timeouts_folded clock jobs a victims) (folded_keeps (victim_queued clock jobs) P k a victims h)

  -- as many entries as before
  pub timeouts_length : (a : Ahead) (victims : List ℕ) → length (timeouts_queued clock jobs a victims).events ≡ length a.events
  timeouts_length a victims = timeouts_keep (λ x. length x.events ≡ length a.events) (λ x v e. timeout_length x v (get_or jobs v no_job) clock ∙ e) a victims refl

  -- all is permitted after only if it was before
  pub timeouts_ok : (a : Ahead) (victims : List ℕ) → (timeouts_queued clock jobs a victims).ok ≡ true → a.ok ≡ true
  timeouts_ok a victims = timeouts_keep (λ x. x.ok ≡ true → a.ok ≡ true) (λ x v f h. f (timeout_ok x v (get_or jobs v no_job) clock h)) a victims (λ h. h)

  -- what was not permitted before is not after
  pub timeouts_not_ok : (a : Ahead) (victims : List ℕ) → a.ok ≡ false → (timeouts_queued clock jobs a victims).ok ≡ false
  timeouts_not_ok a victims = stays_failed a.ok (timeouts_queued clock jobs a victims).ok (timeouts_ok a victims)

-- ---- one start

-- the job that starts, as it was
abbrev pub job_of : Begun → Placing → Job
job_of b p = get_or b.jobs p.job no_job

-- its start
abbrev pub start_of : Options → Float → Begun → Placing → Float
start_of options clock b p = Life.start_at (job_of b p) clock options p.cut

-- its completion: the next insertion number, the run generation raised by one
abbrev pub completion_of : Options → Float → Begun → Placing → Event
completion_of options clock b p = record {
  time = Life.completion_at (job_of b p) (start_of options clock b p) (Life.multiplier_of options p.penalised);
  number = b.ahead.next;
  kind = Completion;
  job = p.job;
  generation = ((job_of b p).run + 1) % 2 ^ 32;
}

-- the decision that tells it
abbrev pub start_told : Options → Float → Begun → Placing → Decision
start_told options clock b p = record { time = bits_of (start_of options clock b p); kind = Started; job = p.job; other = amount (job_of b p).ask }

module _ (options : Options) (clock : Float) (b : Begun) (p : Placing) where
  -- the job has started
  pub begun_started : p.job < length b.jobs → get_or (begun options clock b p).jobs p.job no_job ≡ Life.started (job_of b p) (start_of options clock b p)
  unfolding begun
  begun_started h = get_or-set_same b.jobs p.job (Life.started (job_of b p) (start_of options clock b p)) no_job h

  -- every other job stays as it is
  pub begun_other : (k : ℕ) → (k ≡ p.job → ⊥) → get_or (begun options clock b p).jobs k no_job ≡ get_or b.jobs k no_job
  unfolding begun
  begun_other k h = get_or-set_other b.jobs p.job k (Life.started (job_of b p) (start_of options clock b p)) no_job h

  -- as many jobs as before
  pub begun_length : length (begun options clock b p).jobs ≡ length b.jobs
  unfolding begun
  begun_length = length-set b.jobs p.job (Life.started (job_of b p) (start_of options clock b p))

  -- what a start keeps of the job it keeps of each
  pub begun_kept : {B : Type 0} (g : Job → B) → ((j : Job) (at : Float) → g (Life.started j at) ≡ g j) → (k : ℕ) →
      g (get_or (begun options clock b p).jobs k no_job) ≡ g (get_or b.jobs k no_job)
  unfolding begun
  begun_kept g e k = set_kept b.jobs p.job (Life.started (job_of b p) (start_of options clock b p)) no_job g (e (job_of b p) (start_of options clock b p)) k

  -- the trace's words stay
  pub begun_ask : (k : ℕ) → (get_or (begun options clock b p).jobs k no_job).ask ≡ (get_or b.jobs k no_job).ask
  unfolding Life.started
  begun_ask k = begun_kept (λ j. j.ask) (λ j at. refl) k

  -- no start evicts
  pub begun_evictions : (k : ℕ) → (get_or (begun options clock b p).jobs k no_job).evictions ≡ (get_or b.jobs k no_job).evictions
  unfolding Life.started
  begun_evictions k = begun_kept (λ j. j.evictions) (λ j at. refl) k

  -- the job runs
  pub begun_runs : p.job < length b.jobs → (get_or (begun options clock b p).jobs p.job no_job).state ≡ Running
  unfolding Life.started
  begun_runs h = ap (λ (j : Job). j.state) (begun_started h)

  -- one generation on
  pub begun_run : p.job < length b.jobs → (get_or (begun options clock b p).jobs p.job no_job).run ≡ ((job_of b p).run + 1) % 2 ^ 32
  unfolding Life.started
  begun_run h = ap (λ (j : Job). j.run) (begun_started h)

  -- it stores its start
  pub begun_start : p.job < length b.jobs → (get_or (begun options clock b p).jobs p.job no_job).start ≡ start_of options clock b p
  unfolding Life.started
  begun_start h = ap (λ (j : Job). j.start) (begun_started h)

  -- the log tells the start
  pub begun_log : (begun options clock b p).log ≡ told b.log (bits_of (start_of options clock b p)) Started p.job (amount (job_of b p).ask)
  unfolding begun
  begun_log = refl

  pub begun_count : (begun options clock b p).log.count ≡ onward b.log.count most
  unfolding begun told
  begun_count = refl

  pub begun_table : (begun options clock b p).log.table ≡ set b.log.table b.log.count (start_told options clock b p)
  unfolding begun told
  begun_table = refl

  -- with room left behind the decisions before it
  pub begun_decisions : length b.log.table ≡ most → b.log.count < most →
      decisions (begun options clock b p).log ≡ decisions b.log ++ (start_told options clock b p ∷ [])
  begun_decisions e h = rw begun_log (told_behind b.log (bits_of (start_of options clock b p)) Started p.job (amount (job_of b p).ask) e h)

  -- the time that is told is the start that the job stores
  pub begun_time : p.job < length b.jobs → (start_told options clock b p).time ≡ bits_of (get_or (begun options clock b p).jobs p.job no_job).start
  begun_time h = rw (begun_start h)

  -- its completion is queued
  pub begun_events : (begun options clock b p).ahead.events ≡ added b.ahead.events (completion_of options clock b p)
  unfolding begun queued Life.started
  begun_events = refl

  pub begun_next : (begun options clock b p).ahead.next ≡ (b.ahead.next + 1) % 2 ^ 64
  unfolding begun queued
  begun_next = refl

  -- under the generation that the job stores
  pub begun_generation : p.job < length b.jobs → (completion_of options clock b p).generation ≡ (get_or (begun options clock b p).jobs p.job no_job).run
  begun_generation h = rw (begun_run h)

  -- as many entries as before
  pub begun_room : length (begun options clock b p).ahead.events ≡ length b.ahead.events
  unfolding added
  begun_room = rw begun_events (length-set b.ahead.events (first_free b.ahead.events) (completion_of options clock b p))

  -- the totals count the start, and only that
  pub begun_totals : (begun options clock b p).totals ≡ Noted.started b.totals p.cut p.penalised (job_of b p).remaining (Life.multiplier_of options p.penalised)
  unfolding begun
  begun_totals = refl

  -- all is permitted after only if it was before, and the start's own numbers are
  pub begun_permitted : (begun options clock b p).ahead.ok ≡ true →
      (b.ahead.ok ≡ true) × (permitted (completion_of options clock b p).time ≡ true) × (permitted (start_of options clock b p) ≡ true) ×
      (permitted (Life.started (job_of b p) (start_of options clock b p)).waited ≡ true) × (permitted (begun options clock b p).totals.added ≡ true)
  unfolding begun queued
  begun_permitted h =
      let o = and_both _ _ h in
      let q = and_both _ _ o.0 in
      let n = and_both _ _ o.1 in
      let m = and_both _ _ n.0 in (q.0, q.1, m.0, m.1, n.1)

  pub begun_ok : (begun options clock b p).ahead.ok ≡ true → b.ahead.ok ≡ true
  begun_ok h = (begun_permitted h).0

  -- what was not permitted before is not after
  pub begun_not_ok : b.ahead.ok ≡ false → (begun options clock b p).ahead.ok ≡ false
  begun_not_ok = stays_failed b.ahead.ok (begun options clock b p).ahead.ok begun_ok

-- ---- all starts

-- the numbers of the placed jobs
abbrev pub jobs_of : List Placing → List ℕ
jobs_of placed = map (λ p. p.job) placed

-- the decisions that tell the starts
unfoldable pub starts_told : Options → Float → Begun → List Placing → List Decision
starts_told options clock b [] = []
starts_told options clock b (p ∷ ps) = start_told options clock b p ∷ starts_told options clock (begun options clock b p) ps

module _ (options : Options) (clock : Float) where
  -- what each start keeps, all keep
  pub all_keep : (P : Begun → Type 0) → ((b : Begun) (p : Placing) → P b → P (begun options clock b p)) → (b : Begun) (placed : List Placing) → P b →
      P (begun_all options clock b placed)
  all_keep P k b placed h = rw (begun_folded options clock b placed) (folded_keeps (begun options clock) P k b placed h)

  -- the same where only placings with a property keep it
  pub all_among : (P : Begun → Type 0) (Q : Placing → Type 0) → ((b : Begun) (p : Placing) → Q p → P b → P (begun options clock b p)) →
      (b : Begun) (placed : List Placing) → All Q placed → P b → P (begun_all options clock b placed)
  all_among P Q k b placed q h = rw (begun_folded options clock b placed) (folded_among (begun options clock) P Q k b placed q h)

  -- as many jobs as before
  pub all_length : (b : Begun) (placed : List Placing) → length (begun_all options clock b placed).jobs ≡ length b.jobs
  all_length b placed = all_keep (λ x. length x.jobs ≡ length b.jobs) (λ x p e. begun_length options clock x p ∙ e) b placed refl

  -- the trace's words stay
  pub all_ask : (b : Begun) (placed : List Placing) (k : ℕ) → (get_or (begun_all options clock b placed).jobs k no_job).ask ≡ (get_or b.jobs k no_job).ask
  all_ask b placed k = all_keep (λ x. (get_or x.jobs k no_job).ask ≡ (get_or b.jobs k no_job).ask) (λ x p e. begun_ask options clock x p k ∙ e) b placed refl

  -- no start evicts
  pub all_evictions : (b : Begun) (placed : List Placing) (k : ℕ) → (get_or (begun_all options clock b placed).jobs k no_job).evictions ≡ (get_or b.jobs k no_job).evictions
  all_evictions b placed k = all_keep (λ x. (get_or x.jobs k no_job).evictions ≡ (get_or b.jobs k no_job).evictions)
      (λ x p e. begun_evictions options clock x p k ∙ e) b placed refl

  -- a job that was not placed stays as it is
  pub all_other : (b : Begun) (placed : List Placing) (k : ℕ) → Apart k (jobs_of placed) → get_or (begun_all options clock b placed).jobs k no_job ≡ get_or b.jobs k no_job
  all_other b placed k h = all_among (λ x. get_or x.jobs k no_job ≡ get_or b.jobs k no_job) (λ p. k ≡ p.job → ⊥)
      (λ x p a e. begun_other options clock x p k a ∙ e) b placed (all_unmap (λ i. k ≡ i → ⊥) (λ p. p.job) placed h) refl

  -- the later placings of a list without repeats see the jobs as they were
  later : (b : Begun) (p : Placing) (ps : List Placing) (i : ℕ) → i < length ps → Apart p.job (jobs_of ps) →
      job_of (begun options clock b p) (get_or ps i no_placing) ≡ job_of b (get_or ps i no_placing)
  later b p ps i h d =
      begun_other options clock b p (get_or ps i no_placing).job
      (λ e. all_at (λ x. p.job ≡ x.job → ⊥) ps i no_placing (all_unmap (λ x. p.job ≡ x → ⊥) (λ x. x.job) ps d) h (sym e))

  -- a job placed once has started from what it was
  pub all_started_lem : (b : Begun) (placed : List Placing) (i : ℕ) → i < length placed → Distinct (jobs_of placed) →
      (get_or placed i no_placing).job < length b.jobs →
      get_or (begun_all options clock b placed).jobs (get_or placed i no_placing).job no_job ≡ Life.started (job_of b (get_or placed i no_placing))
      (start_of options clock b (get_or placed i no_placing))
  unfolding begun_all
  all_started_lem b [] i h d r = absurd (omega arith)
  all_started_lem b (p ∷ ps) zero h d r = all_other (begun options clock b p) ps p.job d.0 ∙ begun_started options clock b p r
  all_started_lem b (p ∷ ps) (suc i) h d r =
      rw (later b p ps i (omega arith) d.0) at (all_started_lem (begun options clock b p) ps i (omega arith) d.1 (rw (begun_length options clock b p) r))

  -- it runs
  pub all_runs : (b : Begun) (placed : List Placing) (i : ℕ) → i < length placed → Distinct (jobs_of placed) →
      (get_or placed i no_placing).job < length b.jobs → (get_or (begun_all options clock b placed).jobs (get_or placed i no_placing).job no_job).state ≡ Running
  unfolding Life.started
  all_runs b placed i h d r = ap (λ (j : Job). j.state) (all_started_lem b placed i h d r)

  -- one generation on
  pub all_run : (b : Begun) (placed : List Placing) (i : ℕ) → i < length placed → Distinct (jobs_of placed) →
      (get_or placed i no_placing).job < length b.jobs →
      (get_or (begun_all options clock b placed).jobs (get_or placed i no_placing).job no_job).run ≡ ((job_of b (get_or placed i no_placing)).run + 1) % 2 ^ 32
  unfolding Life.started
  all_run b placed i h d r = ap (λ (j : Job). j.run) (all_started_lem b placed i h d r)

  -- as many entries in the room as before
  pub all_room : (b : Begun) (placed : List Placing) → length (begun_all options clock b placed).ahead.events ≡ length b.ahead.events
  all_room b placed = all_keep (λ x. length x.ahead.events ≡ length b.ahead.events) (λ x p e. begun_room options clock x p ∙ e) b placed refl

  -- all is permitted after only if it was before
  pub all_ok : (b : Begun) (placed : List Placing) → (begun_all options clock b placed).ahead.ok ≡ true → b.ahead.ok ≡ true
  all_ok b placed = all_keep (λ x. x.ahead.ok ≡ true → b.ahead.ok ≡ true) (λ x p f h. f (begun_ok options clock x p h)) b placed (λ h. h)

  -- what was not permitted before is not after
  pub all_not_ok : (b : Begun) (placed : List Placing) → b.ahead.ok ≡ false → (begun_all options clock b placed).ahead.ok ≡ false
  all_not_ok b placed = stays_failed b.ahead.ok (begun_all options clock b placed).ahead.ok (all_ok b placed)

  -- as many places in the log as before
  pub all_table : (b : Begun) (placed : List Placing) → length (begun_all options clock b placed).log.table ≡ length b.log.table
  all_table b placed = all_keep (λ x. length x.log.table ≡ length b.log.table) (λ x p e. begun_table_length x p ∙ e) b placed refl
    where
      begun_table_length : (x : Begun) (p : Placing) → length (begun options clock x p).log.table ≡ length x.log.table
      begun_table_length x p = rw (begun_table options clock x p) (length-set x.log.table x.log.count (start_told options clock x p))

  -- with room left each start counts
  pub all_count : (b : Begun) (placed : List Placing) → b.log.count + length placed ≤ most → (begun_all options clock b placed).log.count ≡ b.log.count + length placed
  unfolding begun_all
  all_count b [] h = omega arith
  all_count b (p ∷ ps) h =
      let e : (begun options clock b p).log.count ≡ b.log.count + 1 = begun_count options clock b p ∙ onward_room b.log.count most (omega arith) in
      omega (arith, e, all_count (begun options clock b p) ps (omega (arith, e)))

  -- and is told behind the decisions before it, in the order of placing
  pub all_decisions : (b : Begun) (placed : List Placing) → length b.log.table ≡ most → b.log.count + length placed ≤ most →
      decisions (begun_all options clock b placed).log ≡ decisions b.log ++ starts_told options clock b placed
  unfolding begun_all starts_told
  all_decisions b [] l h = sym (append-nil (decisions b.log))
  all_decisions b (p ∷ ps) l h =
      let e : (begun options clock b p).log.count ≡ b.log.count + 1 = begun_count options clock b p ∙ onward_room b.log.count most (omega arith) in
      let s : length (begun options clock b p).log.table ≡ most = all_table b (p ∷ []) ∙ l in
      all_decisions (begun options clock b p) ps s (omega (arith, e))
      ∙ ap (λ (r : List Decision). r ++ starts_told options clock (begun options clock b p) ps)
      (begun_decisions options clock b p l (omega arith))
      ∙ append_assoc (decisions b.log) (start_told options clock b p ∷ []) (starts_told options clock (begun options clock b p) ps)

  -- as many decisions as starts
  pub told_length : (b : Begun) (placed : List Placing) → length (starts_told options clock b placed) ≡ length placed
  unfolding starts_told
  told_length b [] = refl
  told_length b (p ∷ ps) = ap suc (told_length (begun options clock b p) ps)

  -- each tells the job as it was
  pub told_at : (b : Begun) (placed : List Placing) (i : ℕ) → i < length placed → Distinct (jobs_of placed) →
      get_or (starts_told options clock b placed) i no_decision ≡ start_told options clock b (get_or placed i no_placing)
  unfolding starts_told
  told_at b [] i h d = absurd (omega arith)
  told_at b (p ∷ ps) zero h d = refl
  told_at b (p ∷ ps) (suc i) h d =
      rw (later b p ps i (omega arith) d.0) at (told_at (begun options clock b p) ps i (omega arith) d.1)

  -- at the start that the job stores
  pub told_time : (b : Begun) (placed : List Placing) (i : ℕ) → i < length placed → Distinct (jobs_of placed) →
      (get_or placed i no_placing).job < length b.jobs →
      (get_or (starts_told options clock b placed) i no_decision).time ≡ bits_of (get_or (begun_all options clock b placed).jobs (get_or placed i no_placing).job no_job).start
  unfolding Life.started
  told_time b placed i h d r = rw (told_at b placed i h d, all_started_lem b placed i h d r)
