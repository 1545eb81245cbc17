-- What is left to show of `make_room`.
use Rattle.std.proofs.Common.{refl, ap, ◌∙◌, arith, take}
use Rattle.laws.specs.Tables.{take_least}
use Rattle.preemptive.specs.Prefix.{made}
use Rattle.preemptive.specs.PrefixSteps.{tried_none, tried_next, tried_found, tried_end}
use Rattle.preemptive.proofs.prefix.make_room.Goals as goal

pub loop-k-init : goal.loop-k-init
loop-k-init c =
    let found = c.args.found in
    record {
      all = rw c.min.ensures (take_least found.count 128 found.ids (omega arith));
      gpus_same = refl;
      jobs_same = refl;
      tried = tried_none _ _ _ _ _ _;
    }

pub loop-k-preserved : goal.loop-k-preserved
loop-k-preserved c =
    let here = c.loop-k in
    let start = c.args in
    record {
      all = here.invariant.all;
      gpus_same = here.invariant.gpus_same;
      jobs_same = here.invariant.jobs_same;
      tried = tried_next start.setting start.clock start.gpus.now start.jobs.now start.j (take c.min.result start.found.ids) here.k _ here.free here.left _ _
          c.loop-k-test.true refl here.invariant.tried (rw (← c.plus_one.ensures) c.free_all.ensures)
          (c.write.ensures ∙ rw (c.evict-victim.ensures, c.read.ensures, c.from-i.ensures)) _ c.is_placeable.ensures c.if-is_placeable.false;
    }

pub returns-then-is_placeable : goal.returns-then-is_placeable
returns-then-is_placeable c =
    let here = c.loop-k in
    let start = c.args in
    tried_found start.setting start.clock start.gpus.now start.jobs.now start.j (take c.min.result start.found.ids) here.k _ here.free here.left _ _
    c.loop-k-test.true refl here.invariant.tried (rw (← c.plus_one.ensures) c.free_all.ensures)
    (c.write.ensures ∙ rw (c.evict-victim.ensures, c.read.ensures, c.from-i.ensures)) start.found.ids _ c.is_placeable.ensures c.if-is_placeable.true
    ∙ ap (made start.setting start.clock start.gpus.now start.jobs.now start.j start.found.ids) here.invariant.all

pub returns : goal.returns
returns c =
    let here = c.loop-k in
    let start = c.args in
    rw (here.invariant.gpus_same, here.invariant.jobs_same)
    (tried_end start.setting start.clock start.gpus.now start.jobs.now start.j (take c.min.result start.found.ids) here.k _ _ start.found.ids (omega arith)
    here.invariant.tried ∙ ap (made start.setting start.clock start.gpus.now start.jobs.now start.j start.found.ids) here.invariant.all)
