-- What is left to show of `used_at_least`.
use Rattle.std.proofs.Common.{◌≤◌, refl, ◌∙◌, length, take, arith, length-take, take_all}
use Rattle.laws.specs.Sums.{sum_over}
use Rattle.laws.specs.Tables.{take_least}
use Rattle.pass.specs.Stay.{used_at_least, used_turn}
use Rattle.pass.proofs.stay.used_at_least.Goals as goal

pub loop-j-init : goal.loop-j-init
unfolding sum_over
loop-j-init c = (rw c.min.ensures (take_least c.args.n 128 c.args.jobs.now (omega arith)), omega arith, refl)

pub overflow_add-sum : goal.overflow_add-sum
overflow_add-sum c =
    let few : length (take c.min.result c.args.jobs.now) ≤ 128 = omega (arith, length-take c.min.result c.args.jobs.now) in
    record { fits = omega arith }

pub loop-j-preserved : goal.loop-j-preserved
loop-j-preserved c =
    let here = c.loop-j in (
      here.invariant.0,
      omega arith,
      used_turn c.args.aware (take c.min.result c.args.jobs.now) c.args.ask here.j-index here.sum _ _
          c.loop-j-test.true here.invariant.2 (c.from-sum.ensures ∙ c.kept_charge.ensures),
    )

pub returns : goal.returns
unfolding used_at_least
returns c =
    let here = c.loop-j in
    here.invariant.2 ∙ rw (take_all here.j-index (take c.min.result c.args.jobs.now) (omega arith), here.invariant.0)
