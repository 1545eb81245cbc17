-- What is left to show of `held_plan`.
use Rattle.std.proofs.Common.{◌≡◌, map, rules, tests}
use Rattle.laws.specs.Tables.{get_d_any}
use Rattle.model.specs.Event.{empty_event}
use Rattle.model.specs.Job.{no_job}
use Rattle.mig.specs.More.{filled_map}
use Rattle.gpu_planner.specs.Held.{held_job, held_event, held_plan}
use Rattle.gpu_planner.proofs.held.held_plan.Goals as goal

pub returns : goal.returns
unfolding held_plan
returns c =
    let j : c.from_fn-jobs.result ≡ map held_job c.args.p.jobs =
    filled_map _ held_job c.args.p.jobs no_job _ _ (λ i y q h k. (search (rules, tests), search (rules, tests, get_d_any)))
    128 (search rules) c.from_fn-jobs.ensures.items in
    let e : c.from_fn-events.result ≡ map held_event c.args.p.events =
    filled_map _ held_event c.args.p.events empty_event _ _ (λ i y q h k. (search (rules, tests), search (rules, tests, get_d_any)))
    1152 (search rules) c.from_fn-events.ensures.items in
    rw (j, e)
