-- Laws of a load by its tables: over an empty plan they make its plan, and their refusal is its answer.
use Rattle.std.specs.Prelude.{◌≡◌, List, ℕ, length, Ok, Err}
use Rattle.model.specs.Sizes as Sizes
use Rattle.model.specs.Plan.{empty_plan}
use Rattle.trace.specs.Answer.{Accepted}
use Rattle.trace.specs.declared.answer.Refusal.{Refusal}
use Rattle.loader.specs.Tables.{empty_tables}
use Rattle.loader.specs.ArrivalLaws.{over_empty}
use Rattle.loader.specs.Load.{plan_of, filled, load_into, refused, loaded, load}
use Rattle.loader.specs.declared.loading.Tables.{Tables}

pub filled_empty : (t : Tables) → length t.jobs ≡ Sizes.jobs → filled empty_plan t ≡ plan_of t
unfolding filled plan_of empty_plan
filled_empty t full = rw (over_empty t.jobs t.setting.jobs full)

-- a trace that is loaded into tables
pub load_ok : (trace : List ℕ) (t : Tables) → Ok t ≡ load_into trace empty_tables → load trace ≡ record { answer = Accepted; plan = plan_of t }
unfolding load loaded
load_ok trace t h = rw (← h)

-- a trace that is refused
pub load_err : (trace : List ℕ) (e : Refusal) → Err e ≡ load_into trace empty_tables → (load trace).answer ≡ Err e
unfolding load loaded refused
load_err trace e h = rw (← h)
