-- What is left to show of `is_over`.
use Rattle.pass.specs.Stay.{over_no_tenant, over_no_entry, over_left}
use Rattle.pass.proofs.stay.is_over.Goals as goal

pub returns-then-ask-eq0 : goal.returns-then-ask-eq0
returns-then-ask-eq0 c = over_no_tenant c.args.setting c.args.jobs.now c.args.ask c.if-ask-eq0.true

pub returns-then-kept-ne0 : goal.returns-then-kept-ne0
returns-then-kept-ne0 c =
    let used = c.used_at_least-used in
    rw (c.saturating_sub.ensures, c.read-kept.ensures)
    (over_left c.args.setting c.args.jobs.now c.args.ask c.if-ask-eq0.false (rw c.read-kept.ensures at c.if-kept-ne0.true) used.result used.ensures)

pub returns-else-kept-ne0 : goal.returns-else-kept-ne0
returns-else-kept-ne0 c =
    rw c.if-kept-ne0.false
    (over_no_entry c.args.setting c.args.jobs.now c.args.ask c.if-ask-eq0.false (rw c.read-kept.ensures at c.if-kept-ne0.false))
