-- What is left to show of `next_top`.
use Rattle.std.proofs.Common.{◌≡◌, true, false, refl, sym, ap, ◌∙◌, arith}
use Rattle.std.proofs.lemmas.List.{get_or_default}
use Rattle.laws.specs.Search.{first_next, first_found, first_end}
use Rattle.model.specs.Event.{empty_event}
use Rattle.model.specs.Sizes as Sizes
use Rattle.room.specs.RoomLaws.{free_not, free_is}
use Rattle.room.specs.Room.{used, event_at, free_at}
use Rattle.room.specs.Top.{top_after}
use Rattle.room.proofs.next_top.Goals as goal

pub loop-i-init : goal.loop-i-init
unfolding top_after
loop-i-init c = (omega arith, refl)

pub loop-i-preserved : goal.loop-i-preserved
loop-i-preserved c =
    let room = c.args.room.now in
    let i = c.loop-i.i in
    let u : used (event_at room i) ≡ true = ap used (get_or_default room i empty_event _ (omega arith)) ∙ sym c.is_used.ensures ∙ c.if-not-is_used.false in
    (omega arith, rw (← first_next (free_at room) Sizes.events i (omega arith) (free_not room i u)) c.loop-i.invariant.1)

pub returns-then-not-is_used : goal.returns-then-not-is_used
returns-then-not-is_used c =
    let room = c.args.room.now in
    let i = c.loop-i.i in
    let u : used (event_at room i) ≡ false = ap used (get_or_default room i empty_event _ (omega arith)) ∙ sym c.is_used.ensures ∙ c.if-not-is_used.true in
    sym (first_found (free_at room) Sizes.events i (omega arith) (free_is room i u)) ∙ c.loop-i.invariant.1

pub returns : goal.returns
returns c =
    let e : c.max.result ≡ c.loop-i.i = omega arith in
    e ∙ sym (first_end (free_at c.args.room.now) Sizes.events c.loop-i.i (omega arith)) ∙ c.loop-i.invariant.1
