-- What is left to show of `plan_of`.
use Rattle.loader.proofs.load.plan_of.Goals as goal

pub returns : goal.returns
returns c = c.fill.ensures.over_empty c.empty_plan-plan.ensures
