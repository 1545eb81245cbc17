-- What is left to show of `give_slices`.
use Rattle.std.proofs.Common.{refl, sym, ap, ◌∙◌, set, arith, rules, tests}
use Rattle.std.proofs.lemmas.Iterator.{YieldsList-from_range, YieldsList-from_take}
use Rattle.std.proofs.lemmas.Iterator.Consumers.{YieldsList-at, YieldsList-from_filter, YieldsList-end}
use Rattle.mig.specs.More.{put, put_snoc}
use Rattle.mig.specs.Slices.{free_slice, slice_count, given_filtered}
use Rattle.mig.proofs.slices.give_slices.Goals as goal

pub loop-i-init : goal.loop-i-init
unfolding put
loop-i-init c = (search rules, search rules, refl)

pub loop-i-preserved : goal.loop-i-preserved
loop-i-preserved c = (
  search rules,
  search rules,
  c.write.ensures ∙ ap (λ l. set l c.in-Some.i c.args.owner) c.loop-i.invariant.2
      ∙ sym (put_snoc c.args.g.owners c.loop-i.yielded c.in-Some.i c.args.owner),
)

pub returns : goal.returns
returns c =
    let free = free_slice c.args.g c.args.profile in
    let n = slice_count c.args.g in
    given_filtered c.args.g c.args.profile c.args.most c.args.owner c.loop-i.owners c.loop-i.yielded c.loop-i.invariant.2
    (YieldsList-end (YieldsList-at c.into_iter-i-iterator.ensures.into_iter_gives
    (YieldsList-from_take c.args.most (YieldsList-at c.take-i-items.ensures.source
    (YieldsList-from_filter _ free (YieldsList-at c.filter-free.ensures.source (YieldsList-from_range 0 n n (cc) (omega arith)))
    c.filter-free.ensures.closure (λ x b q k. search (rules, tests)))) c.take-i-items.ensures.count))
    c.loop-i.yielded c.loop-i.i-iterator c.loop-i.yielded_by _ _ c.in-None.is c.next.ensures.steps).0
