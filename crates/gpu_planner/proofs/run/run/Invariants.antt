-- What the loop of `run` keeps true.
use Rattle.std.specs.Prelude.{◌≡◌, ◌≤◌, ◌-◌, length}
use Rattle.room.specs.Top.{free_from}
use Rattle.gpu_planner.specs.Run.{run_to, behind, turns}
use Rattle.gpu_planner.proofs.run.run.Given as goal

abbrev pub invariant-loop-steps : goal.invariant-loop-steps
invariant-loop-steps l =
    (behind l.count ≤ length l.words) × (length l.words ≡ length l.initial.words) ×
    (run_to (turns - l.steps) l.plan l.steps l.count l.words ≡ run_to turns l.initial.plan 0 0 l.initial.words) × free_from l.top l.plan.events
