-- What the loops of `give_gpus` keep true.
use Rattle.std.proofs.Common.{◌≡◌, drop}
use Rattle.cluster.specs.Gpus.{given}
use Rattle.cluster.proofs.gpus.give_gpus.Given as goal

abbrev pub invariant-loop-id : goal.invariant-loop-id
invariant-loop-id l = given l.owner l.gpus (drop l.id-index l.id-items) ≡ given l.owner l.initial.gpus l.id-items
