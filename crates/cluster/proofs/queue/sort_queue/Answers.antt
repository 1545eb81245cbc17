-- What is left to show of `sort_queue`.
use Rattle.std.proofs.Common.{◌≡◌, ◌∙◌, map, rules, tests}
use Rattle.laws.specs.Tables.{get_d_any}
use Rattle.model.specs.Job.{no_job}
use Rattle.mig.specs.More.{filled_map}
use Rattle.cluster.specs.Queue.{arrival_of}
use Rattle.cluster.specs.QueueLaws.{queue_numbers, queue_few}
use Rattle.cluster.proofs.queue.sort_queue.Goals as goal

pub returns-then-n-lt2 : goal.returns-then-n-lt2
returns-then-n-lt2 c = queue_few c.args.jobs.now c.args.queue c.args.n c.if-n-lt2.true

pub returns-else-n-lt2 : goal.returns-else-n-lt2
returns-else-n-lt2 c =
    let arrivals : c.from_fn-arrivals.result ≡ map arrival_of c.args.jobs.now =
    filled_map _ arrival_of c.args.jobs.now no_job _ _ (λ j y q h k. (search (rules, tests), search (rules, tests, get_d_any)))
    128 c.told-jobs c.from_fn-arrivals.ensures.items in
    c.sort_front.ensures ∙ rw (arrivals, c.priorities.ensures) (queue_numbers c.args.jobs.now c.args.queue c.args.n)
