-- What is left to show of `visit_all`.
use Rattle.std.proofs.Common.{◌≡◌, ◌-◌, ◌<◌, sym, ◌∙◌, min, get_or, take, arith, length-take, get_or-take}
use Rattle.laws.specs.Loop.{through_step, through_end}
use Rattle.pass.specs.Visit.{whole_pass}
use Rattle.pass.specs.Walk.{visit_at}
use Rattle.pass.specs.StayLaws.{skip_step}
use Rattle.pass.proofs.walk.visit_all.Goals as goal
use Rattle.pass.proofs.walk.visit_all.Goals.{then-not-stays, else-not-stays}

pub loop-id-init : goal.loop-id-init
loop-id-init c =
    let n = min c.args.turn.line.waiting 128 in
    let e : n - 0 ≡ n = omega arith in
    record { ranked = rw c.from-n.ensures at c.ranks_of-ranks.ensures; walked = rw e }

pub loop-id-preserved : goal.loop-id-preserved
loop-id-preserved c =
    let here = c.loop-id in
    let start = c.args in
    let queue = start.turn.line.queue in
    let n = min start.turn.line.waiting 128 in
    let within : here.id-index < n = omega (arith, length-take c.min.result queue) in
    let same : get_or (take c.min.result queue) here.id-index 0 ≡ get_or queue here.id-index 0 = get_or-take c.min.result queue here.id-index 0 (omega arith) in
    elim c.if-not-stays.branch [
      | then-not-stays w ↦ rw (w.gpus-is, w.jobs-is, w.work-is, w.ranks-is) record {
        ranked = rw c.from-n.ensures at w.ranks_of-ranks-then-not-stays.ensures;
        walked = rw (w.visit-work.ensures, same)
            (through_step (visit_at start.setting start.clock queue) (whole_pass here.work here.gpus here.jobs) n here.id-index within ∙ here.invariant.walked);
      }
      | else-not-stays w ↦ rw (w.gpus-is, w.jobs-is, w.work-is, w.ranks-is) record {
        ranked = here.invariant.ranked;
        walked = skip_step start.setting start.clock queue (whole_pass here.work here.gpus here.jobs) n here.id-index within
            (sym (rw same at c.stays.ensures) ∙ w.if-not-stays.false) ∙ here.invariant.walked;
      }
    ]

pub returns : goal.returns
returns c =
    let here = c.loop-id in
    let start = c.args in
    let queue = start.turn.line.queue in
    through_end (visit_at start.setting start.clock queue) (whole_pass here.work here.gpus here.jobs)
    (min start.turn.line.waiting 128) here.id-index (omega (arith, length-take c.min.result queue)) ∙ here.invariant.walked
