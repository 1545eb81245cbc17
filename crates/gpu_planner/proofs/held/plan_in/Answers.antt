-- What is left to show of `plan_in`.
use Rattle.std.proofs.Common.{◌≡◌, map, rules, tests}
use Rattle.laws.specs.Tables.{get_d_any}
use Rattle.model.specs.Event.{empty_event}
use Rattle.model.specs.Job.{no_job}
use Rattle.mig.specs.More.{filled_map}
use Rattle.gpu_planner.specs.Held.{held_job, job_in, held_event, event_in, plan_in}
use Rattle.gpu_planner.proofs.held.plan_in.Goals as goal

pub returns : goal.returns
unfolding plan_in
returns c =
    let j : c.from_fn-jobs.result ≡ map job_in c.args.h.jobs =
    filled_map _ job_in c.args.h.jobs (held_job no_job) _ _ (λ i y q h k. (search (rules, tests), search (rules, tests, get_d_any)))
    128 (search rules) c.from_fn-jobs.ensures.items in
    let e : c.from_fn-events.result ≡ map event_in c.args.h.events =
    filled_map _ event_in c.args.h.events (held_event empty_event) _ _ (λ i y q h k. (search (rules, tests), search (rules, tests, get_d_any)))
    1152 (search rules) c.from_fn-events.ensures.items in
    rw (j, e)
