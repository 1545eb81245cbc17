-- No event ahead is before the clock: the least event, and what queueing, evicting and starting keep of it.
use Rattle.std.specs.Prelude.{◌≡◌, Bool, false, List, [], ◌∷◌, ltb, eqb, length, set}
use Rattle.std.proofs.Math.Path.{refl}
use Rattle.std.proofs.Common.{◌∙◌, arith, leb-true, le-leb, ltb-true, ltb-false}
use Rattle.std.proofs.Math.Logic.{⊎_elim}
use Rattle.std.proofs.Math.Bool.{true}
use Prim.Native.Nat.{ℕ, zero, suc, ◌+◌, ◌≤◌, ◌<◌}
use Rattle.std.proofs.Math.Nat.{le_trans}
use Rattle.std.specs.Float.Ieee.{Float, binary64, add, sub, mul, lt}
use Rattle.laws.specs.Choice.{pick, pick_cases, pick_either}
use Rattle.laws.specs.Tests.{split, never_both, and_both, eq_or_ne}
use Rattle.laws.specs.Lists.{set_related}
use Rattle.laws.specs.Greatest.{best}
use Rattle.model.specs.Sizes.{permitted_bits}
use Rattle.model.specs.Number.{bits_of, permitted, zero·0, one·0}
use Rattle.model.specs.Event.{empty_event}
use Rattle.model.specs.Job.{no_job}
use Rattle.model.specs.declared.event.Event.{Event}
use Rattle.model.specs.declared.event.EventKind.{EventKind}
use Rattle.model.specs.declared.event.EventKind.TheVariants.{Timeout}
use Rattle.model.specs.declared.job.Ask.{Ask}
use Rattle.model.specs.declared.job.Job.{Job}
use Rattle.model.specs.declared.setting.Options.{Options}
use Rattle.model.specs.declared.setting.Setting.{Setting}
use Rattle.life.specs.Life as Life
use Rattle.room.specs.Room.{used, earlier, ahead, event_at, ahead_at, least, first_free, added, taken}
use Rattle.room.specs.Ahead.{queued}
use Rattle.room.specs.declared.ahead.Ahead.{Ahead}
use Rattle.starts.specs.Timeout.{timeout_queued, timeouts_queued}
use Rattle.starts.specs.Begin as Begin
use Rattle.starts.specs.Begin.{begun_all}
use Rattle.starts.specs.declared.begin.Placing.{Placing}
use Rattle.starts.specs.declared.begin.Begun.{Begun}
use Rattle.preemptive.specs.Prefix.{evicted_all}
use Rattle.pass.specs.Visit.{placed_as}
use Rattle.apart.specs.Standing.{cleared}
use Rattle.apart.specs.Keeps.{Kept}
use Rattle.apart.specs.StartsLaws.{job_of, start_of, completion_of, timeouts_keep, begun_events, begun_permitted, begun_kept, all_keep}
use Rattle.history.specs.Entries.{is_arrival, used_inside}
use Rattle.history.specs.Good.{job_at}
use Rattle.history.specs.SumLaws.{plus}
use Rattle.history.proofs.SumLaws.{permitted_plus, sum_up, sum_plus, product_plus, above_plus, bits_plus}
use Rattle.history.specs.TimesLaws.{OnTime, AllOnTime, RoomOnTime, Remains, Fair, BegunOnTime}

-- ---- the least event

-- where the second is an event the first is one too, and not later
abbrev NoLater : Event → Event → Type 0
NoLater x y = used y ≡ true → (used x ≡ true) × (bits_of x.time ≤ bits_of y.time)

no_later : (x y z : Event) → NoLater x y → NoLater y z → NoLater x z
no_later x y z f g u = let a : _ = g u in let b : _ = f a.0 in (b.0, le_trans b.1 a.1)

earlier_le : (x y : Event) → earlier x y ≡ true → bits_of x.time ≤ bits_of y.time
unfolding earlier
earlier_le x y h =
    split (ltb (bits_of x.time) (bits_of y.time))
    (λ t. let l : bits_of x.time < bits_of y.time = ltb-true _ _ t in omega (arith, l))
    (λ t. split (ltb (bits_of y.time) (bits_of x.time))
    (λ u. absurd (never_both h (rw (t, u))))
    (λ u. ltb-false _ _ u))

earlier_not : (x y : Event) → earlier x y ≡ false → bits_of y.time ≤ bits_of x.time
unfolding earlier
earlier_not x y h =
    split (ltb (bits_of x.time) (bits_of y.time))
    (λ t. absurd (never_both (rw t) h))
    (λ t. ltb-false _ _ t)

ahead_true : (x y : Event) → ahead x y ≡ true → (used x ≡ true) × (used y ≡ true → bits_of x.time ≤ bits_of y.time)
unfolding ahead
ahead_true x y h =
    split (used x)
    (λ u. (u, λ w. earlier_le x y (rw (u, w) at h)))
    (λ u. absurd (never_both h (rw u)))

ahead_false : (x y : Event) → ahead x y ≡ false → used x ≡ true → (used y ≡ true) × (bits_of y.time ≤ bits_of x.time)
unfolding ahead
ahead_false x y h u =
    split (used y)
    (λ w. (w, earlier_not x y (rw (u, w) at h)))
    (λ w. absurd (never_both (rw (u, w)) h))

module _ (events : List Event) where
  -- of two entries the one that is ahead
  ahead_two : (i b : ℕ) → NoLater (event_at events (pick (ahead_at events i b) i b)) (event_at events i) ×
      NoLater (event_at events (pick (ahead_at events i b) i b)) (event_at events b)
  ahead_two i b =
      let x : Event = event_at events i in
      let y : Event = event_at events b in
      pick_cases (λ (z : ℕ). NoLater (event_at events z) x × NoLater (event_at events z) y) (ahead_at events i b) i b
      (λ t. (λ u. (u, omega arith), λ u. ((ahead_true x y t).0, (ahead_true x y t).1 u)))
      (λ f. (ahead_false x y f, λ u. (u, omega arith)))

  best_no_later : (m i b : ℕ) → NoLater (event_at events (best (ahead_at events) m i b)) (event_at events b) ×
      ((k : ℕ) → i ≤ k → k < i + m → NoLater (event_at events (best (ahead_at events) m i b)) (event_at events k))
  unfolding best
  best_no_later zero i b = (λ u. (u, omega arith), λ k l h. absurd (omega (arith, l, h)))
  best_no_later (suc m) i b =
      let c : ℕ = pick (ahead_at events i b) i b in
      let r : Event = event_at events (best (ahead_at events) m (i + 1) c) in
      let two : _ = ahead_two i b in
      let rest : NoLater r (event_at events c) × ((k : ℕ) → i + 1 ≤ k → k < i + 1 + m → NoLater r (event_at events k)) = best_no_later m (i + 1) c in (
        no_later r (event_at events c) (event_at events b) rest.0 two.1,
        λ k l h. ⊎_elim
            (λ e. let e : k ≡ i = e in rw e (no_later r (event_at events c) (event_at events i) rest.0 two.0))
            (λ n. rest.1 k (omega (arith, l, n)) (omega (arith, h)))
            (eq_or_ne k i),
      )

  -- No event is before the least one.
  pub least_no_later : length events ≡ 1152 → (k : ℕ) → used (event_at events k) ≡ true →
      bits_of (event_at events (least events)).time ≤ bits_of (event_at events k).time
  unfolding least
  least_no_later size k u =
      let l : k < 1152 = used_inside events size k u in
      let both : _ = best_no_later 1151 1 0 in
      ⊎_elim
      (λ e. let e : k ≡ 0 = e in rw e (both.0 (rw e at u)).1)
      (λ n. (both.1 k (omega (arith, n)) (omega (arith, l)) u).1)
      (eq_or_ne k 0)

-- ---- the room

module _ (jobs₀ : List Job) (clock : Float) where
  added_on_time : (events : List Event) (e : Event) → AllOnTime jobs₀ clock events → OnTime jobs₀ clock e → AllOnTime jobs₀ clock (added events e)
  unfolding added
  added_on_time events e h t i =
      set_related events (first_free events) e empty_event (λ x y. (used x ≡ true → OnTime jobs₀ clock x) → used y ≡ true → OnTime jobs₀ clock y) (λ x f. f) (λ f u. t) i (h i)

  queued_on_time : (a : Ahead) (time : Float) (kind : EventKind) (job generation : ℕ) → is_arrival kind ≡ false →
      (permitted time ≡ true → bits_of clock ≤ bits_of time) → RoomOnTime jobs₀ clock a → RoomOnTime jobs₀ clock (queued a time kind job generation)
  unfolding queued
  queued_on_time a time kind job generation n l h o =
      let both : (a.ok ≡ true) × (permitted time ≡ true) = and_both a.ok (permitted time) o in
      added_on_time a.events (record { time = time; number = a.next; kind = kind; job = job; generation = generation }) (h both.0)
      (record { fine = both.1; after = l both.1; arrival = λ t. absurd (never_both t n) })

  -- ---- timeouts

  timed_above : (ask : Ask) → Life.timed ask ≡ true → plus ask.timeout ≡ true
  timed_above ask h = split ask.gang (λ g. above_plus ask.timeout (rw g at h)) (λ g. absurd (never_both h (rw g)))

  -- a timeout from a time that is not before the clock
  pub timeout_on_time : (a : Ahead) (id : ℕ) (j : Job) (from : Float) → plus from ≡ true → bits_of clock ≤ bits_of from → RoomOnTime jobs₀ clock a →
      RoomOnTime jobs₀ clock (timeout_queued a id j from)
  unfolding timeout_queued
  timeout_on_time a id j from p l h =
      pick_cases (RoomOnTime jobs₀ clock) (Life.timed j.ask) (queued a (add binary64 from j.ask.timeout) Timeout id j.timeouts) a
      (λ t. queued_on_time a (add binary64 from j.ask.timeout) Timeout id j.timeouts refl
      (λ f. le_trans l (sum_up from j.ask.timeout p (timed_above j.ask t) f)) h)
      (λ t. h)

  pub timeouts_on_time : (jobs : List Job) (a : Ahead) (vs : List ℕ) → plus clock ≡ true → RoomOnTime jobs₀ clock a → RoomOnTime jobs₀ clock (timeouts_queued clock jobs a vs)
  timeouts_on_time jobs a vs p h = timeouts_keep clock jobs (RoomOnTime jobs₀ clock) (λ x v g. timeout_on_time x v (job_at jobs v) clock p (omega arith) g) a vs h

-- ---- what remains of each job

pub set_remains : (jobs : List Job) (id : ℕ) (j : Job) → plus j.remaining ≡ true → Remains jobs → Remains (set jobs id j)
set_remains jobs id j p h i =
    set_related jobs id j no_job (λ x y. plus x.remaining ≡ true → plus y.remaining ≡ true) (λ x f. f) (λ f. p) i (h i)

left_plus : (j : Job) (clock : Float) → plus (Life.evicted j clock).remaining ≡ true
unfolding Life.evicted
left_plus j clock =
    let left : Float = sub binary64 j.remaining (Life.run_seconds j clock) in
    pick_cases (λ (z : Float). plus z ≡ true) (lt zero·0 left) left zero·0 (above_plus left) (λ f. bits_plus 0 (omega arith))

evicted_remains : (clock : Float) (jobs : List Job) (vs : List ℕ) → Remains jobs → Remains (evicted_all clock jobs vs)
unfolding evicted_all
evicted_remains clock jobs [] h = h
evicted_remains clock jobs (v ∷ vs) h =
    evicted_remains clock (set jobs v (Life.evicted (job_at jobs v) clock)) vs
    (set_remains jobs v (Life.evicted (job_at jobs v) clock) (left_plus (job_at jobs v) clock) h)

-- a pass
pub pass_remains : (s : Setting) (clock : Float) → Kept s clock (λ q. Remains q.jobs)
unfolding placed_as cleared Life.placed
pass_remains s clock =
    record {
      place = λ p id so l t h. set_remains p.jobs id (Life.placed (job_at p.jobs id)) (h id) h;
      clear = λ p id vs so l m d h. evicted_remains clock p.jobs vs h;
    }

-- ---- the starts

module _ (options : Options) (fair : Fair options) (clock : Float) (forward : plus clock ≡ true) where
  delayed_plus : (cut : Bool) → plus (Life.delayed clock options cut) ≡ true
  delayed_plus cut =
      pick_either (λ (z : Float). plus z ≡ true) cut (add binary64 clock options.seconds) clock
      (sum_plus clock options.seconds forward fair.seconds) forward

  -- a time that is not before the clock if it is permitted
  abbrev Later : Float → Type 0
  Later z = permitted z ≡ true → bits_of clock ≤ bits_of z

  delayed_later : (cut : Bool) → Later (Life.delayed clock options cut)
  delayed_later cut =
      pick_either Later cut (add binary64 clock options.seconds) clock
      (λ f. sum_up clock options.seconds forward fair.seconds f) (λ f. omega arith)

  -- a permitted sum with a first part that is later
  sum_later : (x y : Float) → plus x ≡ true → plus y ≡ true → Later x → Later (add binary64 x y)
  sum_later x y p q h f =
      let l : bits_of x ≤ bits_of (add binary64 x y) = sum_up x y p q f in
      le_trans (h (le-leb (bits_of x) permitted_bits (le_trans l (leb-true (bits_of (add binary64 x y)) permitted_bits f)))) l

  start_later : (j : Job) (cut : Bool) → Later (Life.start_at j clock options cut)
  start_later j cut =
      let d : Float = Life.delayed clock options cut in
      pick_either Later (eqb j.evictions 0) d (add binary64 d options.penalty) (delayed_later cut)
      (sum_later d options.penalty (delayed_plus cut) fair.penalty (delayed_later cut))

  multiplier_plus : (penalised : Bool) → plus (Life.multiplier_of options penalised) ≡ true
  multiplier_plus penalised =
      pick_either (λ (z : Float). plus z ≡ true) penalised options.multiplier one·0 fair.multiplier (bits_plus 0x3ff0000000000000 (omega arith))

  module _ (jobs₀ : List Job) where
    begun_on_time : (b : Begun) (p : Placing) → BegunOnTime options fair clock forward jobs₀ b → BegunOnTime options fair clock forward jobs₀ (Begin.begun options clock b p)
    unfolding Life.started
    begun_on_time b p h = (
      λ o.
          let q : _ = begun_permitted options clock b p o in
          let at : Float = start_of options clock b p in
          let left : Float = mul binary64 (job_of b p).remaining (Life.multiplier_of options p.penalised) in
          rw (begun_events options clock b p)
          (added_on_time jobs₀ clock b.ahead.events (completion_of options clock b p) (h.0 q.0)
          (record {
            fine = q.1;
            after = sum_later at left (permitted_plus at q.2)
                (product_plus (job_of b p).remaining (Life.multiplier_of options p.penalised) (h.1 p.job) (multiplier_plus p.penalised))
                (start_later (job_of b p) p.cut) q.1;
            arrival = λ t. absurd (never_both t refl);
          })),
      λ i. begun_kept options clock b p (λ j. plus j.remaining) (λ j at. refl) i ∙ h.1 i,
    )

    pub starts_on_time : (b : Begun) (ps : List Placing) → BegunOnTime options fair clock forward jobs₀ b → BegunOnTime options fair clock forward jobs₀ (begun_all options clock b ps)
    starts_on_time = all_keep options clock (BegunOnTime options fair clock forward jobs₀) begun_on_time

-- ---- an event is taken

-- at the least event's time, without it, no other is before the clock
pub taken_on_time : (jobs₀ : List Job) (clock : Float) (events : List Event) → length events ≡ 1152 → AllOnTime jobs₀ clock events →
    AllOnTime jobs₀ (event_at events (least events)).time (taken events (least events))
unfolding taken
taken_on_time jobs₀ clock events size h i =
    let now : Float = (event_at events (least events)).time in
    set_related events (least events) empty_event empty_event (λ x y. (used x ≡ true → OnTime jobs₀ now x) → used y ≡ true → OnTime jobs₀ now y) (λ x f. f)
    (λ f u. absurd (never_both u refl)) i
    (λ u. record { fine = (h i u).fine; after = least_no_later events size i u; arrival = (h i u).arrival })
