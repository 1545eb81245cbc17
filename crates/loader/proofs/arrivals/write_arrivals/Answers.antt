-- What is left to show of `write_arrivals`.
use Rattle.std.proofs.Common.{◌≡◌, ◌∙◌, arith}
use Rattle.loader.specs.ArrivalLaws.{over_none, over_more, over_least}
use Rattle.loader.proofs.arrivals.write_arrivals.Goals as goal

pub loop-i-init : goal.loop-i-init
loop-i-init c = over_none c.args.room.now c.args.jobs.now

pub loop-i-preserved : goal.loop-i-preserved
loop-i-preserved c =
    rw (c.arrival_of.ensures, c.loop-i.invariant) (over_more c.args.room.now c.args.jobs.now c.loop-i.i _ (omega arith))

pub returns : goal.returns
returns c =
    let e : c.loop-i.i ≡ c.min-i-end.result = omega arith in
    c.loop-i.invariant ∙ rw (e, c.min-i-end.ensures) (over_least c.args.room.now c.args.jobs.now c.args.n c.told-jobs)
