-- What is left to show of `free_in_all`.
use Rattle.std.proofs.Common.{◌≡◌, ◌∙◌, take, length-take, arith, rules, tests}
use Rattle.std.proofs.lemmas.Iterator.{YieldsList-from_slice, YieldsList-from_map}
use Rattle.std.proofs.lemmas.Iterator.Adapters.{at_most_from_yields_List, fits_from_length}
use Rattle.std.proofs.lemmas.Iterator.Consumers.{YieldsList-at, sum_by_from_yields_List}
use Rattle.mig.specs.Slices.{free_slices}
use Rattle.mig.specs.TableSteps.{free_most, free_sum}
use Rattle.mig.proofs.table.free_in_all.Goals as goal

pub sum-requires-clause-fits : goal.sum-requires-clause-fits
sum-requires-clause-fits c =
    fits_from_length _ _ 128 _
    (at_most_from_yields_List (YieldsList-at c.map.ensures.source (YieldsList-from_slice (take c.min.result c.args.gpus.now) (cc)))
    (omega (arith, length-take c.min.result c.args.gpus.now)))
    c.map.ensures.closure (omega arith)
    (λ x r q k. let told : r ≡ free_slices x.now c.args.profile = search (rules, tests) in
    (search (rules, tests), omega (arith, free_most x.now c.args.profile)))

pub returns : goal.returns
returns c =
    sum_by_from_yields_List (λ g. free_slices g c.args.profile) (take c.min.result c.args.gpus.now) c.map.result _ c.sum.ensures.ran
    (YieldsList-from_map _ (λ g. free_slices g c.args.profile)
    (YieldsList-at c.map.ensures.source (YieldsList-from_slice (take c.min.result c.args.gpus.now) (cc)))
    c.map.ensures.closure (λ x r q k. search (rules, tests)))
    ∙ rw c.min.ensures (free_sum c.args.gpus.now c.args.n c.args.profile c.told-gpus)
