-- No event ahead is before the clock: the least event, and what queueing, evicting and starting keep of it.
use Rattle.std.specs.Prelude.{◌≡◌, List}
use Rattle.std.proofs.Math.Bool.{true}
use Prim.Native.Nat.{ℕ, ◌≤◌}
use Rattle.std.specs.Float.Ieee.{Float}
use Rattle.model.specs.Number.{bits_of, permitted}
use Rattle.model.specs.declared.event.Event.{Event}
use Rattle.model.specs.declared.job.Job.{Job}
use Rattle.model.specs.declared.setting.Options.{Options}
use Rattle.room.specs.Room.{used, event_at}
use Rattle.room.specs.declared.ahead.Ahead.{Ahead}
use Rattle.starts.specs.declared.begin.Begun.{Begun}
use Rattle.history.specs.Entries.{is_arrival}
use Rattle.history.specs.Good.{job_at}
use Rattle.history.specs.SumLaws.{plus}

-- ---- the room

module _ (jobs₀ : List Job) (clock : Float) where
  -- an event's time is permitted and not before the clock, and an arrival's is the one that its job was loaded with
  pub record OnTime (e : Event) : Type 0 where
    pub fine : permitted e.time ≡ true
    pub after : bits_of clock ≤ bits_of e.time
    pub arrival : is_arrival e.kind ≡ true → e.time ≡ (job_at jobs₀ e.job).ask.arrival

  abbrev pub AllOnTime : List Event → Type 0
  AllOnTime events = (i : ℕ) → used (event_at events i) ≡ true → OnTime (event_at events i)

  -- so far as every number that was stored is permitted
  abbrev pub RoomOnTime : Ahead → Type 0
  RoomOnTime a = a.ok ≡ true → AllOnTime a.events

-- ---- what remains of each job

abbrev pub Remains : List Job → Type 0
Remains jobs = (i : ℕ) → plus (job_at jobs i).remaining ≡ true

-- ---- the starts

-- the options' numbers
pub record Fair (options : Options) : Type 0 where
  pub seconds : plus options.seconds ≡ true
  pub penalty : plus options.penalty ≡ true
  pub multiplier : plus options.multiplier ≡ true

module _ (options : Options) (fair : Fair options) (clock : Float) (forward : plus clock ≡ true) where
  module _ (jobs₀ : List Job) where
    -- the events of those that start
    abbrev pub BegunOnTime : Begun → Type 0
    BegunOnTime b = RoomOnTime jobs₀ clock b.ahead × Remains b.jobs
