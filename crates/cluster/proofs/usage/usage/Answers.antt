-- What is left to show of `usage`.
use Rattle.std.proofs.Common.{◌∙◌, take, length-take, arith, rules, tests}
use Rattle.std.proofs.lemmas.Iterator.{YieldsList-from_slice, YieldsList-from_map}
use Rattle.std.proofs.lemmas.Iterator.Adapters.{at_most_from_yields_List, fits_from_length}
use Rattle.std.proofs.lemmas.Iterator.Consumers.{YieldsList-at, sum_by_from_yields_List}
use Rattle.cluster.specs.Usage.{charge_to}
use Rattle.cluster.specs.UsageLaws.{usage_sum}
use Rattle.cluster.proofs.usage.usage.Goals as goal

pub sum-requires-clause-fits : goal.sum-requires-clause-fits
sum-requires-clause-fits c =
    fits_from_length _ _ 128 _
    (at_most_from_yields_List (YieldsList-at c.map.ensures.source (YieldsList-from_slice (take c.min.result c.args.jobs.now) (cc)))
    (omega (arith, length-take c.min.result c.args.jobs.now)))
    c.map.ensures.closure (omega arith) (λ x r q k. search (rules, tests))

pub returns : goal.returns
returns c =
    sum_by_from_yields_List (charge_to c.args.tenant) (take c.min.result c.args.jobs.now) c.map.result _ c.sum.ensures.ran
    (YieldsList-from_map _ (charge_to c.args.tenant)
    (YieldsList-at c.map.ensures.source (YieldsList-from_slice (take c.min.result c.args.jobs.now) (cc)))
    c.map.ensures.closure (λ x r q k. search (rules, tests)))
    ∙ rw c.min.ensures (usage_sum c.args.jobs.now c.args.n c.args.tenant c.told-jobs)
