-- What is left to show of `begin_all`.
use Rattle.std.proofs.Common.{take, sym, ◌∙◌, arith}
use Rattle.laws.specs.Tables.{take_least}
use Rattle.model.specs.Sizes as Sizes
use Rattle.starts.specs.Turns.{folded_next, folded_over}
use Rattle.starts.specs.Begin.{whole_begun, begun, begun_folded}
use Rattle.starts.proofs.begin.begin_all.Goals as goal

pub loop-p-init : goal.loop-p-init
loop-p-init c = rw (c.min.ensures, take_least c.args.count Sizes.jobs c.args.placed (omega arith))

pub loop-p-preserved : goal.loop-p-preserved
loop-p-preserved c =
    let here = c.loop-p in
    let a = c.args in
    rw c.begin-work.ensures
    (folded_next (begun a.options a.clock) (whole_begun here.work here.jobs here.room) (take c.min.result a.placed) here.p-index _ (omega arith)
    ∙ here.invariant)

pub returns : goal.returns
returns c =
    let here = c.loop-p in
    let a = c.args in
    folded_over (begun a.options a.clock) (whole_begun here.work here.jobs here.room) (take c.min.result a.placed) here.p-index (omega arith)
    ∙ here.invariant
    ∙ sym (begun_folded a.options a.clock (whole_begun a.b a.jobs.now a.room.now) (take a.count a.placed))
