-- What the loop of `queue_timeouts` keeps true.
use Rattle.std.proofs.Common.{◌≡◌, take, drop}
use Rattle.room.specs.Ahead.{whole_ahead}
use Rattle.starts.specs.Turns.{folded}
use Rattle.starts.specs.Timeout.{victim_queued}
use Rattle.starts.proofs.timeout.queue_timeouts.Given as goal

abbrev pub invariant-loop-v : goal.invariant-loop-v
invariant-loop-v l =
    folded (victim_queued l.clock l.jobs) (whole_ahead l.ahead l.room) (drop l.v-index l.v-items)
    ≡ folded (victim_queued l.clock l.jobs) (whole_ahead l.initial.ahead l.initial.room) (take l.count l.fn.victims)
