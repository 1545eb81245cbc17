-- What is left to show of `gang_choice`.
use Rattle.std.proofs.Common.{rules, length}
use mathlib.Core.Path.{◌≡◌, refl}
use Rattle.eligible.specs.Chosen.{list_of}
use Rattle.eligible.specs.Turns.{held_length}
use Rattle.choice.specs.Gang.{shares, any_parted}
use Rattle.choice.specs.Cases.{share_turn, parted_turn, gang_done}
use Rattle.choice.proofs.gang.gang_choice.Goals as goal

pub loop-k-init : goal.loop-k-init
unfolding shares any_parted
loop-k-init c = (c.new-all.ensures, refl)

pub loop-k-preserved : goal.loop-k-preserved
loop-k-preserved c =
    let start = c.args in
    let here = c.loop-k in (
      share_turn start.nodes start.groups (list_of start.e) start.per c.numbers-k-items.result.now here.k-index c.loop-k-test.true
          c.with_key.result c.node_share-share.result c.with_key.ensures c.node_share-share.ensures _ _ c.numbers.ensures
          (c.extend.ensures _ here.invariant.0),
      parted_turn start.nodes start.groups (list_of start.e) start.per c.numbers-k-items.result.now here.k-index c.loop-k-test.true
          c.with_key.result c.node_share-share.result c.with_key.ensures c.node_share-share.ensures here.penalised _ here.invariant.1 refl,
    )

pub returns : goal.returns
returns c =
    let start = c.args in
    let here = c.loop-k in
    let y : length start.e.ids ≡ 128 = search rules in
    gang_done start.nodes start.groups (list_of start.e) start.per start.g here.k-index c.numbers-k-items.result.now c.gang_nodes-taken.result
    here.all here.penalised c.take_these.result c.gang_nodes-taken.ensures c.numbers-k-items.ensures c.loop-k-test.false (held_length start.e y)
    here.invariant.0 here.invariant.1 c.take_these.ensures
