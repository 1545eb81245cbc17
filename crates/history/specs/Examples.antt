-- Document 01's table of proved examples, A to C and E to I, as one statement about the definitions: A, B, C and I say whether a job is placeable, E, F and G who leaves for a job, H who may have to.
use Rattle.std.specs.Prelude.{◌≡◌, refl, Bool, true, false, List, [], ◌∷◌, ℕ, take}
use Rattle.std.specs.Float.Ieee.{eq, of_bits}
use Rattle.laws.specs.Lists.{pad}
use Rattle.laws.specs.Sums.{sum_over}
use Rattle.laws.specs.Search.{those, first}
use Rattle.laws.specs.Sort.{sort, insert}
use Rattle.model.specs.Number.{zero·0, one·0}
use Rattle.model.specs.Setting.{default_options}
use Rattle.model.specs.declared.gpu.Gpu.{Gpu}
use Rattle.model.specs.declared.job.Job.{Job}
use Rattle.model.specs.declared.job.JobState.{JobState}
use Rattle.model.specs.declared.job.JobState.TheVariants.{Waiting, Running}
use Rattle.model.specs.declared.setting.Setting.{Setting}
use Rattle.mig.specs.Owner.{freed}
use Rattle.cluster.specs.Usage.{usage, charge_to, charge_of, holding}
use Rattle.eligible.specs.Rule.{eligible}
use Rattle.eligible.specs.Eligible.{eligibles}
use Rattle.choice.specs.Choose.{why_not_here}
use Rattle.choice.specs.Why.{why_not, why_not_gang}
use Rattle.resource.specs.Quota.{within_quota}
use Rattle.resource.specs.Cause.{placeable, first_cause, resource_cause}
use Rattle.preemptive.specs.Candidate.{candidate, candidates, candidates_by_number}
use Rattle.preemptive.specs.Prefix.{freed_all, evicted_all, shortest, made, preempted}
use Rattle.preemptive.specs.declared.prefix.Preempted.{Preempted}

-- ---- the tables

-- a job: its tenant (the number plus 1, 0 for none), priority, GPU count, gang nodes where it is a gang, evictions so far and state
abbrev job : ℕ → ℕ → ℕ → Bool → ℕ → ℕ → JobState → Job
job tenant priority count gang nodes evictions state =
    record {
      ask = record {
        arrival = zero·0;
        duration = one·0;
        priority = priority;
        count = count;
        memory = zero·0;
        kind = 0;
        site = 0;
        tenant = tenant;
        gang = gang;
        nodes = nodes;
        network = false;
        timeout = zero·0;
        profile = 0;
        slices = 0;
      };
      state = state;
      since = zero·0;
      start = zero·0;
      remaining = one·0;
      waited = zero·0;
      evictions = evictions;
      run = evictions;
      timeouts = 0;
    }

-- a GPU on a node, owned by a job (its number plus 1, 0 for nobody)
abbrev card : ℕ → ℕ → Gpu
card node owner = record {
  node = node;
  kind = 0;
  memory = zero·0;
  group = 0;
  mig = false;
  owner = owner;
  profile = 0;
  slices = 0;
  owners = 0 ∷ 0 ∷ 0 ∷ 0 ∷ 0 ∷ 0 ∷ 0 ∷ [];
}

-- so many nodes, GPUs and jobs; tenant 0's quota is kept plus 1, 0 for none
abbrev house : ℕ → ℕ → ℕ → ℕ → Setting
house nodes gpus jobs quota = record { sites = []; nodes = nodes; gpus = gpus; jobs = jobs; quotas = quota ∷ []; mosts = []; options = default_options }

-- ---- A, B, C: a running job of tenant 0 holds three of six GPUs, and one of the same tenant asks for so many

abbrev held : List Gpu
held = card 0 1 ∷ card 0 1 ∷ card 0 1 ∷ card 0 0 ∷ card 0 0 ∷ card 0 0 ∷ []

abbrev more : ℕ → Job
more count = job 1 0 count false 0 0 Waiting

abbrev room : ℕ → ℕ → Bool
room quota count = placeable (house 1 6 2 quota) held (job 1 0 3 false 0 0 Running ∷ more count ∷ []) (more count)

-- ---- I: three free GPUs on one node and two on another; a gang of 3 GPUs on 2 nodes

abbrev gang : Job
gang = job 0 0 3 true 2 0 Waiting

abbrev free : List Gpu
free = card 0 0 ∷ card 0 0 ∷ card 0 0 ∷ card 1 0 ∷ card 1 0 ∷ []

-- ---- E to H: one node, 4 GPUs, and a job of priority 5 that wants so many

abbrev cards : List Gpu
cards = card 0 1 ∷ card 0 2 ∷ card 0 2 ∷ card 0 3 ∷ []

abbrev urgent : ℕ → Job
urgent count = job 0 5 count false 0 0 Waiting

-- running 0 (priority 1, 1 GPU, evicted so often), 1 (priority 2, 2 GPUs) and 2 (priority 3, 1 GPU)
abbrev jobs : ℕ → ℕ → List Job
jobs evictions count = job 0 1 1 false 0 evictions Running ∷ job 0 2 2 false 0 0 Running ∷ job 0 3 1 false 0 0 Running ∷ urgent count ∷ []

abbrev way : ℕ → Preempted
way count = preempted (house 1 4 4 0) one·0 cards (jobs 0 count) (urgent count)

abbrev leave : ℕ → List ℕ
leave count = take (way count).count (way count).victims

-- ---- the table

pub record Table : Type 0 where
  pub A : Bool
  pub B : Bool
  pub C : Bool
  pub E : List ℕ
  pub F : List ℕ
  pub G : List ℕ × List Gpu × List Job
  pub H : List ℕ
  pub I : Bool

-- A: usage 3, quota 4, count 1. B: count 2. C: no quota entry. E: wanting 3. F: wanting 2. G: wanting 5. H: job 0 evicted 3 times.
abbrev pub results : Table
results =
    record {
      A = room 5 1;
      B = room 5 2;
      C = room 0 2;
      E = leave 3;
      F = leave 2;
      G = (leave 5, (way 5).gpus, (way 5).jobs);
      H = candidates (house 1 4 4 0) (jobs 3 3) (urgent 3).ask;
      I = placeable (house 2 5 1 0) free (gang ∷ []) gang;
    }

-- A: yes. B: no. C: yes. E: 0 and 1. F: still 0 and 1. G: none; all as before. H: 0 is no candidate. I: no.
abbrev pub expected : Table
expected =
    record {
      A = true;
      B = false;
      C = true;
      E = 0 ∷ 1 ∷ [];
      F = 0 ∷ 1 ∷ [];
      G = ([], cards, jobs 0 5);
      H = 1 ∷ 2 ∷ [];
      I = false;
    }

pub table : results ≡ expected
unfolding candidates candidates_by_number those candidate sort insert preempted made shortest first freed_all evicted_all freed placeable first_cause
    within_quota usage sum_over charge_to charge_of holding resource_cause why_not_here why_not why_not_gang eligibles eligible eq of_bits pad
table = refl
