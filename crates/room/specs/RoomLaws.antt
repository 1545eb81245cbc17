-- Laws of the room: what a free entry is.
use Rattle.std.specs.Prelude.{◌≡◌, ℕ, true, false, List}
use Rattle.model.specs.declared.event.Event.{Event}
use Rattle.room.specs.Room.{used, ahead, event_at, ahead_at, free_at}

-- an entry is free exactly if it holds no event
pub free_not : (events : List Event) (i : ℕ) → used (event_at events i) ≡ true → free_at events i ≡ false
free_not events i e = rw e

pub free_is : (events : List Event) (i : ℕ) → used (event_at events i) ≡ false → free_at events i ≡ true
free_is events i e = rw e

-- an empty entry is ahead of none
pub empty_behind : (events : List Event) (i j : ℕ) → used (event_at events i) ≡ false → ahead_at events i j ≡ false
unfolding ahead
empty_behind events i j e = rw e
