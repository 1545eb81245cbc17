-- The records, each a kind and its fields in order.
use Rattle.std.specs.Prelude.{List, ℕ, ◌+◌, ◌-◌, ◌/◌, ◌%◌, eqb, ltb, Float, Result, Ok}
use Rattle.std.specs.Float.{binary64}
use Rattle.std.specs.Float.Ieee.{of_bits}
use Rattle.laws.specs.Choice.{pick}
use Rattle.model.specs.Sizes.{permitted_bits}
use Rattle.trace.specs.Ranges as Ranges
use Rattle.trace.specs.Answer.{UnknownKind, ◌>>=◌}
use Rattle.trace.specs.Field.{Field, field}
use Rattle.trace.specs.declared.answer.Refusal.{Refusal}
use Rattle.trace.specs.declared.record.Read.{Read}
use Rattle.trace.specs.declared.record.Record.{Record}
use Rattle.trace.specs.declared.record.Record.TheVariants.{End, Node, Gpu, Quota, Profile, Job, Options}

-- a record and the bytes that it takes
abbrev pub read_as : Record → ℕ → Read
read_as found used = record { found = found; used = used }

-- a float is its bits as a number
abbrev pub float_of : Field → Float
float_of f = of_bits binary64 f.value

-- a priority p is stored as 2p, or as -2p-1 when negative, and kept as p + 2^31
abbrev pub priority_of : ℕ → ℕ
priority_of stored = pick (eqb (stored % 2) 0) (0x80000000 + stored / 2) (0x7fffffff - stored / 2)

-- slices are 0 without a profile, 1 to 64 with one
abbrev pub least_slices : ℕ → ℕ
least_slices profile = pick (eqb profile 0) 0 1

abbrev pub most_slices : ℕ → ℕ
most_slices profile = pick (eqb profile 0) 0 Ranges.slices_asked

-- 1 node: site? (0 to 64).
unfoldable pub node_read : List ℕ → Result Read Refusal
node_read s = do
  site ← field s 1 0 Ranges.sites
  Ok (read_as (Node site.value) site.end)

-- 2 GPU: type 0 to 255, memory, NVLink group? (0 to 256), MIG-capable 0/1.
unfoldable pub gpu_read : List ℕ → Result Read Refusal
gpu_read s = do
  kind ← field s 1 0 Ranges.types
  memory ← field s kind.end 0 permitted_bits
  group ← field s memory.end 0 Ranges.groups
  mig ← field s group.end 0 Ranges.flag
  Ok (read_as (Gpu (record { kind = kind.value; memory = float_of memory; group = group.value; mig = eqb mig.value 1 })) mig.end)

-- 3 quota: tenant, quota 0 to 2^32-1.
unfoldable pub quota_read : List ℕ → Result Read Refusal
quota_read s = do
  tenant ← field s 1 0 Ranges.tenants
  quota ← field s tenant.end 0 Ranges.quotas
  Ok (read_as (Quota tenant.value quota.value) quota.end)

-- 4 profile: profile, most slices on a GPU 1 to 7.
unfoldable pub profile_read : List ℕ → Result Read Refusal
profile_read s = do
  profile ← field s 1 0 Ranges.profiles
  most ← field s profile.end 1 Ranges.mosts
  Ok (read_as (Profile profile.value most.value) most.end)

-- 5 job: arrival, duration, priority, GPU count 0 to 128, memory, type? (0 to 256), site? (0 to 64), tenant? (0 to 32), gang 0/1, gang nodes 0 to 32,
-- network demand 0/1, timeout, profile? (0 to 16), slices.
unfoldable pub job_read : List ℕ → Result Read Refusal
job_read s = do
  arrival ← field s 1 0 permitted_bits
  duration ← field s arrival.end 0 permitted_bits
  priority ← field s duration.end 0 Ranges.priorities
  count ← field s priority.end 0 Ranges.counts
  memory ← field s count.end 0 permitted_bits
  kind ← field s memory.end 0 Ranges.types_asked
  site ← field s kind.end 0 Ranges.sites
  tenant ← field s site.end 0 Ranges.tenants_asked
  gang ← field s tenant.end 0 Ranges.flag
  nodes ← field s gang.end 0 Ranges.gang_nodes
  network ← field s nodes.end 0 Ranges.flag
  timeout ← field s network.end 0 permitted_bits
  profile ← field s timeout.end 0 Ranges.profiles_asked
  slices ← field s profile.end (least_slices profile.value) (most_slices profile.value)
  Ok (read_as (Job (record {
    arrival = float_of arrival;
    duration = float_of duration;
    priority = priority_of priority.value;
    count = count.value;
    memory = float_of memory;
    kind = kind.value;
    site = site.value;
    tenant = tenant.value;
    gang = eqb gang.value 1;
    nodes = nodes.value;
    network = eqb network.value 1;
    timeout = float_of timeout;
    profile = profile.value;
    slices = slices.value;
  })) slices.end)

-- 6 options: reconfiguration seconds, restart penalty, penalty multiplier (1.0 to 1024.0), best fit 0/1, quota-aware 0/1.
unfoldable pub options_read : List ℕ → Result Read Refusal
options_read s = do
  seconds ← field s 1 0 permitted_bits
  penalty ← field s seconds.end 0 permitted_bits
  multiplier ← field s penalty.end Ranges.least_multiplier Ranges.multipliers
  best ← field s multiplier.end 0 Ranges.flag
  aware ← field s best.end 0 Ranges.flag
  Ok (read_as (Options (record {
    seconds = float_of seconds;
    penalty = float_of penalty;
    multiplier = float_of multiplier;
    best = eqb best.value 1;
    aware = eqb aware.value 1;
  })) aware.end)

-- The record's kind is a number like any other, refused as a kind where it is over 6.
unfoldable pub kind_read : List ℕ → Result ℕ Refusal
kind_read s = do
  kind ← field s 0 0 0xffffffffffffffff
  pick (ltb Ranges.last_kind kind.value) (UnknownKind 0) (Ok kind.value)

-- The record of a kind; 0 is the end, which has no fields.
unfoldable pub fields_read : List ℕ → ℕ → Result Read Refusal
fields_read s kind =
    pick (eqb kind 1) (node_read s)
    (pick (eqb kind 2) (gpu_read s)
    (pick (eqb kind 3) (quota_read s)
    (pick (eqb kind 4) (profile_read s)
    (pick (eqb kind 5) (job_read s)
    (pick (eqb kind 6) (options_read s)
    (Ok (read_as End 1)))))))

-- The record at the front of the bytes at hand.
unfoldable pub record_read : List ℕ → Result Read Refusal
record_read s = do
  kind ← kind_read s
  fields_read s kind
