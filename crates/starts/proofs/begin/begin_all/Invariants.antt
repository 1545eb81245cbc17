-- What the loop of `begin_all` keeps true.
use Rattle.std.proofs.Common.{◌≡◌, take, drop}
use Rattle.starts.specs.Turns.{folded}
use Rattle.starts.specs.Begin.{whole_begun, begun}
use Rattle.starts.proofs.begin.begin_all.Given as goal

abbrev pub invariant-loop-p : goal.invariant-loop-p
invariant-loop-p l =
    folded (begun l.options l.clock) (whole_begun l.work l.jobs l.room) (drop l.p-index l.p-items)
    ≡ folded (begun l.options l.clock) (whole_begun l.initial.work l.initial.jobs l.initial.room) (take l.count l.fn.placed)
