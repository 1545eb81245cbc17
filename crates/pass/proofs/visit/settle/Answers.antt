-- What is left to show of `settle`.
use Rattle.std.proofs.Common.{◌∙◌, None, Some, refl}
use Rattle.resource.specs.Allocate.{whole_allocation}
use Rattle.pass.specs.Visit.{settled_given, settled_none}
use Rattle.pass.proofs.visit.settle.Goals as goal

pub returns-in-Some : goal.returns-in-Some
returns-in-Some c =
    let rows = c.allocate.new.gpus in
    settled_given _ _ _ _ (whole_allocation (Some c.in-Some.got) rows) (c.in-Some.ensures ∙ rw c.plus_one.ensures) _ _ refl (c.place_as.ensures rows)

pub returns-in-None : goal.returns-in-None
returns-in-None c =
    settled_none _ _ _ _ (whole_allocation None c.allocate.new.gpus) (c.in-None.ensures ∙ rw c.plus_one.ensures) refl
