-- What is left to show of `free_slices`.
use Rattle.std.proofs.Common.{◌∙◌, sym, ap, length, arith, rules, tests}
use Rattle.std.proofs.lemmas.Iterator.{YieldsList-from_range}
use Rattle.std.proofs.lemmas.Iterator.Consumers.{YieldsList-at, YieldsList-from_filter, count_from_yields_List}
use Rattle.mig.specs.More.{those_filter}
use Rattle.mig.specs.Slices.{free_slice, free_on, slice_count}
use Rattle.mig.proofs.slices.free_slices.Goals as goal

pub returns : goal.returns
unfolding free_on
returns c =
    let free = free_slice c.args.g c.args.profile in
    let n = slice_count c.args.g in
    count_from_yields_List c.filter.result _ c.count.ensures.ran
    (YieldsList-from_filter _ free (YieldsList-at c.filter.ensures.source (YieldsList-from_range 0 n n (cc) (omega arith)))
    c.filter.ensures.closure (λ x b q k. search (rules, tests)))
    ∙ ap length (sym (those_filter free n 0))
