-- Document 01's examples on preemption, as statements about the definitions.
use Rattle.std.specs.Prelude.{◌≡◌, refl, false, List, [], ◌∷◌, ℕ, take}
use Rattle.model.specs.Number.{zero·0, one·0}
use Rattle.model.specs.Setting.{default_options}
use Rattle.model.specs.declared.gpu.Gpu.{Gpu}
use Rattle.model.specs.declared.job.Job.{Job}
use Rattle.model.specs.declared.job.JobState.{JobState}
use Rattle.model.specs.declared.job.JobState.TheVariants.{Waiting, Running}
use Rattle.model.specs.declared.setting.Setting.{Setting}
use Rattle.std.specs.Float.Ieee.{eq, of_bits}
use Rattle.laws.specs.Lists.{pad}
use Rattle.laws.specs.Sums.{sum_over}
use Rattle.laws.specs.Search.{those, first}
use Rattle.laws.specs.Sort.{sort, insert}
use Rattle.mig.specs.Owner.{freed}
use Rattle.cluster.specs.Usage.{usage, charge_to, charge_of, holding}
use Rattle.eligible.specs.Rule.{eligible}
use Rattle.eligible.specs.Eligible.{eligibles}
use Rattle.choice.specs.Choose.{why_not_here}
use Rattle.choice.specs.Why.{why_not}
use Rattle.resource.specs.Quota.{within_quota}
use Rattle.resource.specs.Cause.{placeable, first_cause, resource_cause}
use Rattle.preemptive.specs.Candidate.{candidate, candidates, candidates_by_number}
use Rattle.preemptive.specs.Prefix.{freed_all, evicted_all, shortest, made, preempted}
use Rattle.preemptive.specs.declared.prefix.Preempted.{Preempted}

-- a job that wants so many GPUs, evicted so often
abbrev asks : ℕ → ℕ → ℕ → JobState → Job
asks priority count evictions state =
    record {
      ask = record {
        arrival = zero·0;
        duration = one·0;
        priority = priority;
        count = count;
        memory = zero·0;
        kind = 0;
        site = 0;
        tenant = 0;
        gang = false;
        nodes = 0;
        network = false;
        timeout = zero·0;
        profile = 0;
        slices = 0;
      };
      state = state;
      since = zero·0;
      start = zero·0;
      remaining = one·0;
      waited = zero·0;
      evictions = evictions;
      run = 1;
      timeouts = 0;
    }

-- a GPU of node 0, owned by a job (its number plus 1)
abbrev card : ℕ → Gpu
card owner = record { node = 0; kind = 0; memory = zero·0; group = 0; mig = false; owner = owner; profile = 0; slices = 0; owners = 0 ∷ 0 ∷ 0 ∷ 0 ∷ 0 ∷ 0 ∷ 0 ∷ [] }

-- one node, 4 GPUs, 4 jobs
abbrev house : Setting
house = record { sites = []; nodes = 1; gpus = 4; jobs = 4; quotas = []; mosts = []; options = default_options }

-- job 0 holds the first GPU, job 1 the next two, job 2 the last
abbrev cards : List Gpu
cards = card 1 ∷ card 2 ∷ card 2 ∷ card 3 ∷ []

-- running 0 (priority 1, 1 GPU), 1 (priority 2, 2 GPUs), 2 (priority 3, 1 GPU); and the job that asks, of priority 5. Job 0 was evicted so often.
abbrev table : ℕ → Job → List Job
table evictions j = asks 1 1 evictions Running ∷ asks 2 2 0 Running ∷ asks 3 1 0 Running ∷ j ∷ []

-- the job of priority 5 that wants so many
abbrev wants : ℕ → Job
wants count = asks 5 count 0 Waiting

-- what preemption does for it
abbrev done : ℕ → ℕ → Preempted
done evictions count = preempted house one·0 cards (table evictions (wants count)) (wants count)

abbrev victims : Preempted → List ℕ
victims r = take r.count r.victims

-- E: the candidates, and who leaves. F, G: who leaves. H: the candidates. G: the GPUs and the jobs.
abbrev pub Outcomes : Type 0
Outcomes = List (List ℕ) × List Gpu × List Job

abbrev pub results : Outcomes
results = (
  candidates house (table 0 (wants 3)) (wants 3).ask ∷ victims (done 0 3) ∷ victims (done 0 2) ∷ victims (done 0 5) ∷ candidates house
      (table 3 (wants 3)) (wants 3).ask ∷ [],
  (done 0 5).gpus,
  (done 0 5).jobs,
)

-- E: wanting 3 evicts 0 and 1. F: wanting 2: still 0 and 1. G: wanting 5: none; all as before. H: a job evicted 3 times is no candidate.
abbrev pub expected : Outcomes
expected =
    ((0 ∷ 1 ∷ 2 ∷ []) ∷ (0 ∷ 1 ∷ []) ∷ (0 ∷ 1 ∷ []) ∷ [] ∷ (1 ∷ 2 ∷ []) ∷ [], cards, table 0 (wants 5))

pub examples : results ≡ expected
unfolding candidates candidates_by_number those candidate sort insert preempted made shortest first freed_all evicted_all freed placeable first_cause
    within_quota usage sum_over charge_to charge_of holding resource_cause why_not_here why_not eligibles eligible eq of_bits pad
examples = refl
