-- What is left to show of `candidates_by_number`.
use Rattle.std.proofs.Common.{rules}
use Rattle.preemptive.specs.Candidate.{candidate_at, candidates_by_number}
use Rattle.preemptive.proofs.candidate.candidates_by_number.Goals as goal

pub returns : goal.returns
unfolding candidates_by_number
returns c = c.those.ensures (candidate_at c.args.aware c.args.jobs.now c.args.ask) (λ i b h k. search rules)
