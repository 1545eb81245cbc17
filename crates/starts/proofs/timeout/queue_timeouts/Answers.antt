-- What is left to show of `queue_timeouts`.
use Rattle.std.proofs.Common.{take, sym, ◌∙◌, arith}
use Rattle.laws.specs.Tables.{take_least}
use Rattle.model.specs.Sizes as Sizes
use Rattle.room.specs.Ahead.{whole_ahead}
use Rattle.starts.specs.Turns.{folded_next, folded_over}
use Rattle.starts.specs.Timeout.{victim_queued, timeouts_folded}
use Rattle.starts.proofs.timeout.queue_timeouts.Goals as goal

pub loop-v-init : goal.loop-v-init
loop-v-init c = rw (c.min.ensures, take_least c.args.count Sizes.jobs c.args.victims (omega arith))

pub loop-v-preserved : goal.loop-v-preserved
loop-v-preserved c =
    let here = c.loop-v in
    let a = c.args in
    rw (c.queue_timeout-ahead.ensures, c.read.ensures, c.from.ensures)
    (folded_next (victim_queued a.clock a.jobs.now) (whole_ahead here.ahead here.room) (take c.min.result a.victims) here.v-index _ (omega arith)
    ∙ here.invariant)

pub returns : goal.returns
returns c =
    let here = c.loop-v in
    let a = c.args in
    folded_over (victim_queued a.clock a.jobs.now) (whole_ahead here.ahead here.room) (take c.min.result a.victims) here.v-index (omega arith)
    ∙ here.invariant
    ∙ sym (timeouts_folded a.clock a.jobs.now (whole_ahead a.a a.room.now) (take a.count a.victims))
