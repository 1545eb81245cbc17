-- An event is queued: it gets the next insertion number, and its time has to be permitted.
use Rattle.std.specs.Prelude.{ℕ, ◌+◌, ◌%◌, ◌^◌, ◌&&◌, List, Float}
use Rattle.model.specs.Number.{permitted}
use Rattle.model.specs.declared.event.EventKind.{EventKind}
use Rattle.model.specs.declared.event.Event.{Event}
use Rattle.room.specs.Room.{added}
use Rattle.room.specs.declared.ahead.Ahead.{Ahead}
use Rattle.room.specs.declared.ahead.Next.{Next}

-- the events ahead, with the room that was lent
abbrev pub whole_ahead : Next → List Event → Ahead
whole_ahead a room = record { events = room; next = a.next; ok = a.ok }

-- One counter gives all insertion numbers, also to an event in an entry that was used before.
unfoldable pub queued : Ahead → Float → EventKind → ℕ → ℕ → Ahead
queued a time kind job generation =
    record {
      events = added a.events (record { time = time; number = a.next; kind = kind; job = job; generation = generation });
      next = (a.next + 1) % 2 ^ 64;
      ok = a.ok && permitted time;
    }
