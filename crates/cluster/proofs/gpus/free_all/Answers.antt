-- What is left to show of `free_all`.
use Rattle.std.proofs.Common.{refl, sym, ◌∙◌, arith, length-set}
use Rattle.mig.specs.Owner.{freed}
use Rattle.cluster.specs.GpusLaws.{free_turn, free_end, unheld_kept}
use Rattle.cluster.proofs.gpus.free_all.Goals as goal
use Rattle.cluster.proofs.gpus.free_all.Goals.{then-may_hold, else-may_hold}

pub loop-g-init : goal.loop-g-init
loop-g-init c = (c.told-gpus, refl)

pub loop-g-preserved : goal.loop-g-preserved
loop-g-preserved c =
    let here = c.loop-g in
    elim c.if-may_hold.branch [
      | then-may_hold w ↦ rw w.gpus-is (
        simp length-set here.invariant.0,
        free_turn here.gpus here.g-index c.args.owner _ _ (omega arith) w.free_gpu.ensures ∙ here.invariant.1,
      )
      | else-may_hold w ↦ rw w.gpus-is (
        simp length-set here.invariant.0,
        free_turn here.gpus here.g-index c.args.owner _ _ (omega arith)
            (sym (unheld_kept c.args.owner _ (sym c.may_hold.ensures ∙ w.if-may_hold.false)))
            ∙ here.invariant.1,
      )
    ]

pub returns : goal.returns
returns c = free_end (freed c.args.owner) c.loop-g.gpus c.loop-g.g-index (omega arith) ∙ c.loop-g.invariant.1
