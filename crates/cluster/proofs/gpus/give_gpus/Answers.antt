-- What is left to show of `give_gpus`.
use Rattle.std.proofs.Common.{refl, ap, ◌∙◌, take, arith}
use Rattle.laws.specs.Tables.{take_least}
use Rattle.cluster.specs.Gpus.{given}
use Rattle.cluster.specs.GpusLaws.{given_turn, given_done}
use Rattle.cluster.proofs.gpus.give_gpus.Goals as goal

pub loop-id-init : goal.loop-id-init
loop-id-init c = refl

pub loop-id-preserved : goal.loop-id-preserved
loop-id-preserved c =
    rw (c.write.ensures, c.with_owner-g.ensures, c.read.ensures, c.from-i.ensures)
    (given_turn c.args.owner c.loop-id.gpus (take c.min.result c.args.ids) c.loop-id.id-index c.loop-id-test.true ∙ c.loop-id.invariant)

pub returns : goal.returns
returns c =
    given_done c.args.owner c.loop-id.gpus (take c.min.result c.args.ids) c.loop-id.id-index c.loop-id-test.false
    ∙ c.loop-id.invariant
    ∙ rw c.min.ensures (ap (given c.args.owner c.args.gpus.now) (take_least c.args.k 128 c.args.ids (omega arith)))
