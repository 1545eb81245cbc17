-- What is left to show of `ranks_of`.
use Rattle.std.proofs.Common.{◌≤◌, sym, ◌∙◌, length, take, arith, length-take, take_all}
use Rattle.laws.specs.Lists.{pad_none}
use Rattle.eligible.specs.Turns.{map_turn}
use Rattle.pass.specs.Rank.{gpu_rank, ranks_of}
use Rattle.pass.proofs.rank.ranks_of.Goals as goal

pub loop-i-init : goal.loop-i-init
loop-i-init c = (rw c.min.ensures, sym (pad_none 128 0))

pub loop-i-preserved : goal.loop-i-preserved
loop-i-preserved c =
    let here = c.loop-i in
    let items = take c.min.result c.args.gpus.now in
    let few : length items ≤ 128 = omega (arith, length-take c.min.result c.args.gpus.now) in
    (here.invariant.0, rw c.rank_of.ensures (map_turn (gpu_rank c.args.jobs.now) here.ranks items here.i _ (omega arith) (omega arith) here.invariant.1))

pub returns : goal.returns
unfolding ranks_of
returns c =
    let here = c.loop-i in
    here.invariant.1 ∙ rw (take_all here.i (take c.min.result c.args.gpus.now) (omega arith), here.invariant.0)
