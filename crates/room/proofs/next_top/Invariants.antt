-- What the loop of `next_top` keeps true.
use Rattle.std.proofs.Common.{◌≡◌, ◌-◌, ◌≤◌, max}
use Rattle.laws.specs.Search.{first}
use Rattle.model.specs.Sizes as Sizes
use Rattle.room.specs.Room.{free_at}
use Rattle.room.specs.Top.{top_after}
use Rattle.room.proofs.next_top.Given as goal

abbrev pub invariant-loop-i : goal.invariant-loop-i
invariant-loop-i l = (l.i ≤ max l.top Sizes.events) × (first (free_at l.room) (Sizes.events - l.i) l.i ≡ top_after l.room l.top)
