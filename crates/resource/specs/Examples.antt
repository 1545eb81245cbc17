-- Document 01's examples on placing, as statements about the definitions.
use Rattle.std.specs.Prelude.{◌≡◌, refl, Bool, true, false, List, [], ◌∷◌, ℕ}
use Rattle.model.specs.Number.{zero·0, one·0}
use Rattle.model.specs.Setting.{default_options}
use Rattle.model.specs.declared.gpu.Gpu.{Gpu}
use Rattle.model.specs.declared.job.Job.{Job}
use Rattle.model.specs.declared.job.JobState.{JobState}
use Rattle.model.specs.declared.job.JobState.TheVariants.{Waiting, Running}
use Rattle.model.specs.declared.setting.Setting.{Setting}
use Rattle.std.specs.Float.Ieee.{eq, of_bits}
use Rattle.laws.specs.Sums.{sum_over}
use Rattle.laws.specs.Search.{those, first}
use Rattle.mig.specs.More.{put}
use Rattle.mig.specs.Owner.{idle}
use Rattle.mig.specs.Slices.{free_on, given_slices, cut_anew}
use Rattle.mig.specs.Table.{free_in_all, first_idle, given_in_order, in_order, gives}
use Rattle.mig.specs.Allocate.{slices_placeable, slices_allocated, enough_free, cut_helps, cut_for, new_slices, free_elsewhere}
use Rattle.cluster.specs.Usage.{usage, charge_to, charge_of, holding}
use Rattle.eligible.specs.Rule.{eligible}
use Rattle.eligible.specs.Eligible.{eligibles}
use Rattle.choice.specs.Choose.{why_not_here}
use Rattle.choice.specs.Why.{why_not, why_not_gang}
use Rattle.resource.specs.Quota.{within_quota}
use Rattle.resource.specs.Cause.{placeable, first_cause, resource_cause}

-- a job of a tenant (its number plus 1, 0 for none) that wants so many GPUs; gang is its nodes, 0 for no gang
abbrev asks : ℕ → ℕ → Bool → ℕ → JobState → Job
asks tenant count gang nodes state =
    record {
      ask = record {
        arrival = zero·0;
        duration = one·0;
        priority = 0;
        count = count;
        memory = zero·0;
        kind = 0;
        site = 0;
        tenant = tenant;
        gang = gang;
        nodes = nodes;
        network = false;
        timeout = zero·0;
        profile = 0;
        slices = 0;
      };
      state = state;
      since = zero·0;
      start = zero·0;
      remaining = one·0;
      waited = zero·0;
      evictions = 0;
      run = 0;
      timeouts = 0;
    }

-- a GPU on a node, owned by a job (its number plus 1, 0 for nobody)
abbrev card : ℕ → ℕ → Gpu
card node owner = record {
  node = node;
  kind = 0;
  memory = zero·0;
  group = 0;
  mig = false;
  owner = owner;
  profile = 0;
  slices = 0;
  owners = 0 ∷ 0 ∷ 0 ∷ 0 ∷ 0 ∷ 0 ∷ 0 ∷ [];
}

-- so many nodes, GPUs and jobs; tenant 0 has this quota, kept plus 1
abbrev house : ℕ → ℕ → ℕ → ℕ → Setting
house nodes gpus jobs kept = record { sites = []; nodes = nodes; gpus = gpus; jobs = jobs; quotas = kept ∷ []; mosts = []; options = default_options }

-- three GPUs are held by a running job of tenant 0, and three are free
abbrev held : List Gpu
held = card 0 1 ∷ card 0 1 ∷ card 0 1 ∷ card 0 0 ∷ card 0 0 ∷ card 0 0 ∷ []

-- the running job, and the one that asks
abbrev with_asking : Job → List Job
with_asking j = asks 1 3 false 0 Running ∷ j ∷ []

abbrev one : Job
one = asks 1 1 false 0 Waiting

abbrev two : Job
two = asks 1 2 false 0 Waiting

-- three free GPUs on one node and two on another
abbrev free : List Gpu
free = card 0 0 ∷ card 0 0 ∷ card 0 0 ∷ card 1 0 ∷ card 1 0 ∷ []

abbrev gang : Job
gang = asks 0 3 true 2 Waiting

-- A: usage 3, quota 4, count 1, room for it: yes. B: count 2: no. C: no quota entry: yes. I: a gang of 3 GPUs on 2 nodes: no.
pub examples : (placeable (house 1 6 2 5) held (with_asking one) one ∷ placeable (house 1 6 2 5) held (with_asking two) two ∷ placeable
    (house 1 6 2 0) held (with_asking two) two ∷ placeable (house 2 5 1 0) free (gang ∷ []) gang ∷ []) ≡ (true ∷ false ∷ true ∷ false ∷ [])
unfolding placeable first_cause resource_cause within_quota usage sum_over charge_to charge_of holding why_not_here why_not why_not_gang eligibles those eligible eq of_bits
examples = refl

-- ---- slices: profile 0, kept as 1, has most 4

-- a MIG-capable GPU cut into so many free slices of profile 0; 0 for uncut
abbrev cuttable : ℕ → ℕ → List ℕ → Gpu
cuttable profile slices owners = record { node = 0; kind = 0; memory = zero·0; group = 0; mig = true; owner = 0; profile = profile; slices = slices; owners = owners }

abbrev nobodys : List ℕ
nobodys = 0 ∷ 0 ∷ 0 ∷ 0 ∷ 0 ∷ 0 ∷ 0 ∷ []

-- the first is cut into one free slice, the second is uncut
abbrev half_cut : List Gpu
half_cut = cuttable 1 1 nobodys ∷ cuttable 0 0 nobodys ∷ []

-- J: two idle GPUs, most 4, 5 slices wanted: no. K: 2 wanted: yes, with the second GPU and without it.
pub slices_examples : (slices_placeable (cuttable 0 0 nobodys ∷ cuttable 0 0 nobodys ∷ []) 2 1 4 5 ∷ slices_placeable half_cut 2 1 4 2 ∷
    slices_placeable half_cut 1 1 4 2 ∷ []) ≡ (false ∷ true ∷ true ∷ [])
unfolding enough_free free_in_all sum_over free_on those cut_helps first_idle first idle
slices_examples = refl

-- K: the first is cut anew, and its two new slices are given to the job, here number 8
pub slices_given : slices_allocated half_cut 2 1 4 2 9 ≡ record
    { gpus = cuttable 1 2 (9 ∷ 9 ∷ 0 ∷ 0 ∷ 0 ∷ 0 ∷ 0 ∷ []) ∷ cuttable 0 0 nobodys ∷ []; placed = true; cut = true }
unfolding slices_allocated enough_free free_in_all sum_over free_on those cut_helps first_idle first idle cut_for given_in_order in_order new_slices given_slices
    cut_anew of_bits put free_elsewhere gives
slices_given = refl
