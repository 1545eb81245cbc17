-- What is left to show of `allocate_mig`.
use Rattle.resource.specs.AllocateCases.{slices_given}
use Rattle.resource.proofs.allocate.allocate_mig.Goals as goal

pub returns-in-Some : goal.returns-in-Some
returns-in-Some c =
    let start = c.args in
    slices_given start.setting start.gpus.now start.j start.owner _ c.from-n.result c.from.result c.read-most.result c.from-n.ensures
    (cc) c.read-most.ensures c.in-Some.ensures

pub returns-in-None : goal.returns-in-None
returns-in-None c =
    let start = c.args in
    slices_given start.setting start.gpus.now start.j start.owner _ c.from-n.result c.from.result c.read-most.result c.from-n.ensures
    (cc) c.read-most.ensures c.in-None.ensures
