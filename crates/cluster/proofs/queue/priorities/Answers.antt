-- What is left to show of `priorities`.
use Rattle.std.proofs.Common.{rules, tests}
use Rattle.laws.specs.Tables.{get_d_any}
use Rattle.model.specs.Job.{no_job}
use Rattle.mig.specs.More.{filled_map}
use Rattle.cluster.specs.Queue.{priority_of}
use Rattle.cluster.proofs.queue.priorities.Goals as goal

pub returns : goal.returns
returns c =
    filled_map _ priority_of c.args.jobs.now no_job _ _ (λ j y q h k. (search (rules, tests), search (rules, tests, get_d_any)))
    128 c.told-jobs c.from_fn.ensures.items
