-- What the loop of `make_room` keeps true.
use Rattle.std.proofs.Common.{◌≡◌}
use Rattle.eligible.specs.Chosen.{list_of}
use Rattle.preemptive.specs.PrefixSteps.{Tried}
use Rattle.preemptive.proofs.prefix.make_room.Given as goal

abbrev pub invariant-loop-k : goal.invariant-loop-k
invariant-loop-k l = record {
  all : l.v-items ≡ list_of l.fn.found;
  gpus_same : l.gpus ≡ l.initial.gpus;
  jobs_same : l.jobs ≡ l.initial.jobs;
  tried : Tried l.setting l.clock l.initial.gpus l.initial.jobs l.j l.v-items l.k l.free l.left;
}
