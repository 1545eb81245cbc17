-- The event room after a load.
use Rattle.std.specs.Prelude.{List, [], ◌∷◌, ℕ, ◌+◌, take}
use Rattle.std.proofs.lemmas.List.Edits.{sets}
use Rattle.laws.specs.Lists.{pad}
use Rattle.model.specs.Sizes as Sizes
use Rattle.model.specs.Event.{empty_event}
use Rattle.model.specs.declared.job.Job.{Job}
use Rattle.model.specs.declared.event.Event.{Event}
use Rattle.model.specs.declared.event.EventKind.TheVariants.{Arrival}

-- a job's arrival: job i has insertion number i
abbrev pub arrival_of : ℕ → Job → Event
arrival_of i j = record { time = j.ask.arrival; number = i; kind = Arrival; job = i; generation = 0 }

-- the arrivals of these jobs, the first of them numbered i
unfoldable pub arrivals_from : ℕ → List Job → List Event
arrivals_from i [] = []
arrivals_from i (j ∷ js) = arrival_of i j ∷ arrivals_from (i + 1) js

-- The room holds the arrivals of the first n jobs, in job order, and nothing else.
unfoldable pub arrivals : List Job → ℕ → List Event
arrivals jobs n = pad Sizes.events empty_event (arrivals_from 0 (take n jobs))

-- The arrivals of the first n jobs written over a room, each at its job's number.
unfoldable pub arrivals_over : List Event → List Job → ℕ → List Event
arrivals_over room jobs n = sets room 0 (arrivals_from 0 (take n jobs))
