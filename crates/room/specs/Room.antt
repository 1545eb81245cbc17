-- The event room: the least event is taken first, and a free entry is used again.
use Rattle.std.specs.Prelude.{ℕ, Bool, true, false, not, List, nat_lt, slice_index_or, slice_set}
use Rattle.laws.specs.Choice.{pick}
use Rattle.laws.specs.Search.{first}
use Rattle.laws.specs.Greatest.{best}
use Rattle.model.specs.Sizes as Sizes
use Rattle.model.specs.Number.{bits_of}
use Rattle.model.specs.Event.{empty_event}
use Rattle.model.specs.declared.event.Event.{Event}
use Rattle.model.specs.declared.event.EventKind.{EventKind}
use Rattle.model.specs.declared.event.EventKind.TheVariants.{Empty, Arrival, Completion, Timeout}

abbrev pub holds : EventKind → Bool
holds Empty = false
holds Arrival = true
holds Completion = true
holds Timeout = true

-- an entry that holds an event
abbrev pub used : Event → Bool
used e = holds e.kind

-- less by time, then by insertion number
unfoldable pub earlier : Event → Event → Bool
earlier a b = pick (nat_lt (bits_of a.time) (bits_of b.time)) true (pick (nat_lt (bits_of b.time) (bits_of a.time)) false (nat_lt a.number b.number))

-- an event is ahead of an empty entry, and of an event that it is earlier than
unfoldable pub ahead : Event → Event → Bool
ahead a b = pick (used a) (pick (used b) (earlier a b) true) false

abbrev pub event_at : List Event → ℕ → Event
event_at events i = slice_index_or events i empty_event

abbrev pub ahead_at : List Event → ℕ → ℕ → Bool
ahead_at events i j = ahead (event_at events i) (event_at events j)

-- The entry of the least event by time, then by insertion number.
unfoldable pub least : List Event → ℕ
least events = best (ahead_at events) 1151 1 0

abbrev pub free_at : List Event → ℕ → Bool
free_at events i = not (used (event_at events i))

-- the first entry that holds no event, or as many as there are entries
unfoldable pub first_free : List Event → ℕ
first_free events = first (free_at events) Sizes.events 0

-- An event is added in the first free entry; with none free the room stays as it is.
unfoldable pub added : List Event → Event → List Event
added events e = slice_set events (first_free events) e

-- The entry of an event that is taken is free again.
unfoldable pub taken : List Event → ℕ → List Event
taken events i = slice_set events i empty_event
