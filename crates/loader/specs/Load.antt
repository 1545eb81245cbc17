-- Loading: 9 first, then the records left to right, until the end record or the first refusal.
use Rattle.std.specs.Prelude.{Bool, true, false, List, ℕ, zero, suc, ◌+◌, ltb, eqb, length, drop, replicate, Option, Some, None, Result, Ok, Err}
use Rattle.laws.specs.Choice.{pick}
use Rattle.model.specs.Sizes as Sizes
use Rattle.model.specs.Number.{zero·0}
use Rattle.model.specs.Totals.{no_totals}
use Rattle.model.specs.Plan.{empty_plan}
use Rattle.model.specs.declared.plan.Plan.{Plan}
use Rattle.trace.specs.Answer.{Answer, Accepted, EndsEarly, AfterEnd, TooLong, shifted, ◌>>=◌}
use Rattle.trace.specs.Record.{record_read}
use Rattle.trace.specs.declared.answer.Refusal.{Refusal}
use Rattle.trace.specs.declared.record.Record.{Record}
use Rattle.trace.specs.declared.record.Record.TheVariants as R
use Rattle.loader.specs.Fault.{fault_of}
use Rattle.loader.specs.Tables.{empty_tables, put_record}
use Rattle.loader.specs.Arrivals.{arrivals, arrivals_over}
use Rattle.loader.specs.declared.loading.Tables.{Tables}
use Rattle.loader.specs.declared.load.Loaded.{Loaded}

-- The plan of the loaded tables: nobody waits, the arrivals are queued in job order, the clock is 0.0.
unfoldable pub plan_of : Tables → Plan
plan_of t = record {
  setting = t.setting;
  gpus = t.gpus;
  jobs = t.jobs;
  queue = replicate Sizes.jobs 0;
  waiting = 0;
  events = arrivals t.jobs t.setting.jobs;
  next = t.setting.jobs;
  clock = zero·0;
  totals = no_totals;
}

abbrev pub is_end : Record → Bool
is_end R.End = true
is_end (R.Node site) = false
is_end (R.Gpu card) = false
is_end (R.Quota tenant quota) = false
is_end (R.Profile profile most) = false
is_end (R.Job ask) = false
is_end (R.Options options) = false

-- after one more record: over, or on at a place of the trace
pub data Turn : Type 0 where
  over : Tables → Turn
  on : ℕ → Tables → Turn

-- A whole record from a place to its end. The end record ends the load, and 8 where bytes follow; another record is put into the tables, unless it has a fault.
unfoldable pub follow : ℕ → ℕ → ℕ → Record → Tables → Result Turn Refusal
follow length at end r t = pick (is_end r) (pick (eqb end length) (Ok (over t)) (AfterEnd end)) (do
  fine ← fault_of t.setting t.told at r
  Ok (on end (put_record t r)))

-- One turn: the record at a place of the trace, or its refusal.
unfoldable pub turn : List ℕ → ℕ → Tables → Result Turn Refusal
turn trace at t = do
  read ← shifted at (record_read (drop at trace))
  follow (length trace) at (at + read.used) read.found t

abbrev pub go_on : Turn → (ℕ → Tables → Result Tables Refusal) → Result Tables Refusal
go_on (over t) rest = Ok t
go_on (on at t) rest = rest at t

-- Turn after turn, at most m: a record takes a byte at least, so that as many turns as bytes are enough.
unfoldable pub turns : ℕ → List ℕ → ℕ → Tables → Result Tables Refusal
turns zero trace at t = EndsEarly (length trace)
turns (suc m) trace at t = do
  u ← turn trace at t
  go_on u (turns m trace)

-- The load of a trace into tables.
unfoldable pub load_into : List ℕ → Tables → Result Tables Refusal
load_into trace t = pick (ltb Sizes.trace_bytes (length trace)) (TooLong Sizes.trace_bytes) (turns (length trace) trace 0 t)

-- A refused load gives the empty plan.
unfoldable pub refused : Answer → Loaded
refused answer = record { answer = answer; plan = empty_plan }

unfoldable pub loaded : Result Tables Refusal → Loaded
loaded (Ok t) = record { answer = Accepted; plan = plan_of t }
loaded (Err e) = refused (Err e)

-- The load of a trace: into tables that hold nothing yet.
unfoldable pub load : List ℕ → Loaded
load trace = loaded (load_into trace empty_tables)

-- The tables over a plan: their arrivals are written over its room, and the rest of it stays.
unfoldable pub filled : Plan → Tables → Plan
filled p t = record {
  setting = t.setting;
  gpus = t.gpus;
  jobs = t.jobs;
  queue = p.queue;
  waiting = p.waiting;
  events = arrivals_over p.events t.jobs t.setting.jobs;
  next = t.setting.jobs;
  clock = p.clock;
  totals = p.totals;
}

-- ---- what is answered beside the tables, which are lent

abbrev pub turn_of : Result (Option ℕ) Refusal → Tables → Result Turn Refusal
turn_of (Ok None) t = Ok (over t)
turn_of (Ok (Some at)) t = Ok (on at t)
turn_of (Err e) t = Err e

abbrev pub tables_of : Answer → Tables → Result Tables Refusal
tables_of (Ok done) t = Ok t
tables_of (Err e) t = Err e
