-- The top of the event room: from it on no entry holds an event, so the least event stands below it.
use Rattle.std.specs.Prelude.{◌≡◌, ℕ, ◌-◌, ◌<◌, ◌≤◌, min, false, List}
use Rattle.laws.specs.Search.{first}
use Rattle.laws.specs.Greatest.{best}
use Rattle.model.specs.Sizes as Sizes
use Rattle.model.specs.declared.event.Event.{Event}
use Rattle.room.specs.Room.{used, event_at, ahead_at, free_at}

-- every entry of the room from the top on is free
abbrev pub free_from : ℕ → List Event → Type 0
free_from top events = (i : ℕ) → top ≤ i → i < Sizes.events → used (event_at events i) ≡ false

-- The least event of the entries below the top.
unfoldable pub least_under : ℕ → List Event → ℕ
least_under top events = best (ahead_at events) (min top Sizes.events - 1) 1 0

-- The first free entry from the top on; as many as there are entries for none.
unfoldable pub top_after : List Event → ℕ → ℕ
top_after events top = first (free_at events) (Sizes.events - top) top

-- events that were added since stand from the top on without a gap: behind a free entry all are free
abbrev pub Grown : ℕ → List Event → Type 0
Grown top events = (i j : ℕ) → top ≤ i → i ≤ j → j < Sizes.events → used (event_at events i) ≡ false → used (event_at events j) ≡ false
