-- What is left to show of `consider`.
use Rattle.std.proofs.Common.{◌∙◌, None, Some, refl}
use Rattle.resource.specs.Allocate.{whole_allocation}
use Rattle.pass.specs.Visit.{considered_given, considered_then, considered_none}
use Rattle.pass.proofs.visit.consider.Goals as goal

pub returns-in-Some : goal.returns-in-Some
returns-in-Some c =
    let rows = c.allocate.new.gpus in
    considered_given _ _ _ _ (whole_allocation (Some c.in-Some.got) rows) (c.in-Some.ensures ∙ rw c.plus_one.ensures) _ _ _ refl
    (c.place_as.ensures rows)

pub returns-in-None : goal.returns-in-None
returns-in-None c =
    considered_then _ _ _ _ (whole_allocation None c.allocate.new.gpus) (c.in-None.ensures ∙ rw c.plus_one.ensures) _ _ refl c.if-j-eq0.true
    c.preempt_for.ensures

pub returns-in-None-2 : goal.returns-in-None-2
returns-in-None-2 c =
    considered_none _ _ _ _ (whole_allocation None c.allocate.new.gpus) (c.in-None-2.ensures ∙ rw c.plus_one.ensures) _ refl c.if-j-eq0.false
