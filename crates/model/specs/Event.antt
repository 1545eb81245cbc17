-- The event room's entries.
use Rattle.model.specs.Number.{zero·0}
use Rattle.model.specs.declared.event.EventKind.TheVariants.{Empty}
use Rattle.model.specs.declared.event.Event.{Event}

-- An entry that holds no event.
abbrev pub empty_event : Event
empty_event = record { time = zero·0; number = 0; kind = Empty; job = 0; generation = 0 }
