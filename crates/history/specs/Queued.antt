-- Queueing events counted: each takes a free entry and the next insertion number, and no arrival comes in.
use Rattle.std.specs.Prelude.{◌≡◌, refl, true, false, List, [], ◌∷◌, ℕ, ◌+◌, ◌≤◌, ◌<◌, ◌%◌, ◌^◌, length, Float}
use Rattle.std.proofs.Common.{◌∙◌, arith, length-set}
use Rattle.laws.specs.Tests.{split}
use Rattle.laws.specs.Sums.{sum_over, bit}
use Rattle.model.specs.declared.event.Event.{Event}
use Rattle.model.specs.declared.event.EventKind.{EventKind}
use Rattle.model.specs.declared.event.EventKind.TheVariants.{Completion, Timeout}
use Rattle.model.specs.declared.job.Job.{Job}
use Rattle.model.specs.declared.setting.Options.{Options}
use Rattle.life.specs.Life.{timed}
use Rattle.room.specs.Room.{holds, first_free, added}
use Rattle.room.specs.Ahead.{queued}
use Rattle.room.specs.declared.ahead.Ahead.{Ahead}
use Rattle.starts.specs.Timeout.{timeout_queued, timeouts_queued}
use Rattle.starts.specs.Begin as Begin
use Rattle.starts.specs.Begin.{begun_all}
use Rattle.starts.specs.declared.begin.Placing.{Placing}
use Rattle.starts.specs.declared.begin.Begun.{Begun}
use Rattle.history.specs.Entries.{in_use, is_arrival, arriving, added_use, added_arriving}
use Rattle.history.specs.Good.{job_at}

-- the room with k steps taken: entries in use and steps together are the insertion numbers given out
pub record Counted (k : ℕ) (a : Ahead) : Type 0 where
  pub size : length a.events ≡ 1152
  pub count : in_use a.events + k ≡ a.next

-- m events more
pub record Grown (k m : ℕ) (a b : Ahead) : Type 0 where
  pub counted : Counted k b
  pub next : b.next ≡ a.next + m
  pub arrivals : (i : ℕ) → arriving i b.events ≤ arriving i a.events

-- none
pub grown_none : (k : ℕ) (a : Ahead) → Counted k a → Grown k 0 a a
grown_none k a c = record { counted = c; next = omega arith; arrivals = λ i. omega arith }

-- some, then some more
pub grown_more : (k m n : ℕ) (a b c : Ahead) → Grown k m a b → Grown k n b c → Grown k (m + n) a c
grown_more k m n a b c g f =
    record { counted = f.counted; next = omega (arith, g.next, f.next); arrivals = λ i. omega (arith, g.arrivals i, f.arrivals i) }

-- one event is queued: with a step taken there is a free entry, and the number does not wrap
pub queued_grown : (k : ℕ) (a : Ahead) (time : Float) (kind : EventKind) (job generation : ℕ) → holds kind ≡ true → is_arrival kind ≡ false → 1 ≤ k →
    a.next < 1152 → Counted k a → Grown k 1 a (queued a time kind job generation)
unfolding queued added
queued_grown k a time kind job generation u n l b c =
    let e : Event = record { time = time; number = a.next; kind = kind; job = job; generation = generation } in
    let next : (a.next + 1) % 2 ^ 64 ≡ a.next + 1 = omega (arith, b) in
    record {
      counted = record {
        size = length-set a.events (first_free a.events) e ∙ c.size;
        count = omega (arith, next, c.count, added_use a.events c.size e u (omega (arith, c.count, b)));
      };
      next = next;
      arrivals = λ i. added_arriving a.events c.size e i n;
    }

-- ---- the victims' timeouts

-- one where a job gets timeouts
abbrev pub timed_one : List Job → ℕ → ℕ
timed_one jobs v = bit (timed (job_at jobs v).ask)

pub timeout_grown : (k : ℕ) (a : Ahead) (id : ℕ) (j : Job) (from : Float) → 1 ≤ k → a.next + bit (timed j.ask) ≤ 1152 → Counted k a →
    Grown k (bit (timed j.ask)) a (timeout_queued a id j from)
unfolding timeout_queued
timeout_grown k a id j from l b c =
    split
    (timed j.ask)
    (λ t. rw t (queued_grown k a _ Timeout id j.timeouts refl refl l (let q : a.next + 1 ≤ 1152 = rw t at b in omega (arith, q)) c))
    (λ f. rw f (grown_none k a c))

pub timeouts_grown : (k : ℕ) (clock : Float) (jobs : List Job) (a : Ahead) (vs : List ℕ) → 1 ≤ k → a.next + sum_over (timed_one jobs) vs ≤ 1152 →
    Counted k a → Grown k (sum_over (timed_one jobs) vs) a (timeouts_queued clock jobs a vs)
unfolding timeouts_queued sum_over
timeouts_grown k clock jobs a [] l b c = grown_none k a c
timeouts_grown k clock jobs a (v ∷ vs) l b c =
    let one : Grown k (timed_one jobs v) a (timeout_queued a v (job_at jobs v) clock) = timeout_grown k a v (job_at jobs v) clock l (omega (arith, b)) c in
    grown_more k (timed_one jobs v) (sum_over (timed_one jobs) vs) a (timeout_queued a v (job_at jobs v) clock) _ one
    (timeouts_grown k clock jobs (timeout_queued a v (job_at jobs v) clock) vs l (omega (arith, b, one.next)) one.counted)

-- ---- the completions of those that start

begun_grown : (k : ℕ) (options : Options) (clock : Float) (b : Begun) (p : Placing) → 1 ≤ k → b.ahead.next < 1152 → Counted k b.ahead →
    Grown k 1 b.ahead (Begin.begun options clock b p).ahead
unfolding Begin.begun
begun_grown k options clock b p l n c =
    let g : Grown k 1 b.ahead (queued b.ahead _ Completion p.job _) = queued_grown k b.ahead _ Completion p.job _ refl refl l n c in
    record { counted = record { size = g.counted.size; count = g.counted.count }; next = g.next; arrivals = g.arrivals }

pub starts_grown : (k : ℕ) (options : Options) (clock : Float) (b : Begun) (ps : List Placing) → 1 ≤ k → b.ahead.next + length ps ≤ 1152 →
    Counted k b.ahead → Grown k (length ps) b.ahead (begun_all options clock b ps).ahead
unfolding begun_all
starts_grown k options clock b [] l n c = grown_none k b.ahead c
starts_grown k options clock b (p ∷ ps) l n c =
    let one : Grown k 1 b.ahead (Begin.begun options clock b p).ahead = begun_grown k options clock b p l (omega (arith, n)) c in
    let all : Grown k (1 + length ps) b.ahead _ =
    grown_more k 1 (length ps) b.ahead (Begin.begun options clock b p).ahead _ one
    (starts_grown k options clock (Begin.begun options clock b p) ps l (omega (arith, n, one.next)) one.counted) in
    record { counted = all.counted; next = omega (arith, all.next); arrivals = all.arrivals }
