-- What the loop of `take_turns` keeps true.
use Rattle.std.proofs.Common.{◌≡◌, ◌≤◌, ◌-◌, length}
use Rattle.loader.specs.Load.{turns}
use Rattle.loader.proofs.load.take_turns.Given as goal

abbrev pub invariant-loop-turn : goal.invariant-loop-turn
invariant-loop-turn l =
    (l.at ≤ length l.trace) × (turns (length l.trace - l._turn) l.trace l.at l.tables ≡ turns (length l.trace) l.trace 0 l.initial.tables)
