-- What is left to show of `candidates`.
use Rattle.std.proofs.Common.{refl}
use Rattle.preemptive.specs.CandidateSteps.{candidates_sorted}
use Rattle.preemptive.proofs.candidate.candidates.Goals as goal

pub returns : goal.returns
returns c =
    let found = c.candidates_by_number-found in
    candidates_sorted c.args.setting _ _ found.result _ _ _ (rw c.from.ensures at found.ensures) c.priorities.ensures refl c.sort_front-ids.ensures
