-- What the loops of `give_slices` keep true.
use Rattle.mig.specs.More.{put}
use Rattle.std.proofs.Common.{◌≡◌}
use Rattle.mig.proofs.slices.give_slices.Given as goal

abbrev pub invariant-loop-i : goal.invariant-loop-i
invariant-loop-i l =
    (goal.iterator-loop-i).can_next l.i-iterator × (goal.iterator-loop-i).is_finite l.i-iterator
    × (l.owners ≡ put l.initial.owners l.yielded l.owner)
