-- What the loop of `least_under` keeps true.
use Rattle.std.proofs.Common.{◌≡◌, ◌-◌}
use Rattle.laws.specs.Greatest.{best}
use Rattle.room.specs.Room.{ahead_at}
use Rattle.room.specs.Top.{least_under}
use Rattle.room.proofs.least_under.Given as goal

abbrev pub invariant-loop-i : goal.invariant-loop-i
invariant-loop-i l = best (ahead_at l.room) (l.i-end - l.i) l.i l.best ≡ least_under l.top l.room
