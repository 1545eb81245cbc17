-- What the loops of `free_all` keep true.
use Rattle.std.proofs.Common.{◌≡◌, ◌++◌, length, map, take, drop}
use Rattle.mig.specs.Owner.{freed}
use Rattle.cluster.proofs.gpus.free_all.Given as goal

abbrev pub invariant-loop-g : goal.invariant-loop-g
invariant-loop-g l =
    (length l.gpus ≡ 128) × (take l.g-index l.gpus ++ map (freed l.owner) (drop l.g-index l.gpus) ≡ map (freed l.owner) l.initial.gpus)
