-- The faults of a whole record, told after its last field, at its kind.
use Rattle.std.specs.Prelude.{Bool, not, ℕ, ltb, eqb, get_or}
use Rattle.laws.specs.Choice.{pick}
use Rattle.model.specs.Sizes as Sizes
use Rattle.model.specs.declared.setting.Setting.{Setting}
use Rattle.trace.specs.Answer.{Answer, Accepted, GpuBeforeNode, Repeated, TableFull}
use Rattle.trace.specs.declared.record.Record.{Record}
use Rattle.trace.specs.declared.record.Record.TheVariants.{End, Node, Gpu, Quota, Profile, Job, Options}

-- 7: the table is full
abbrev pub room_for : ℕ → ℕ → ℕ → Answer
room_for count size at = pick (ltb count size) Accepted (TableFull at)

-- 6: given before
abbrev pub once : Bool → ℕ → Answer
once told at = pick told (Repeated at) Accepted

-- 5: a GPU before any node; then 7
abbrev pub on_node : ℕ → ℕ → ℕ → Answer
on_node nodes gpus at = pick (eqb nodes 0) (GpuBeforeNode at) (room_for gpus Sizes.gpus at)

-- The fault of a record after those before it; told says whether options came before. A stored quota or most that is not 0 was given before.
abbrev pub fault_of : Setting → Bool → ℕ → Record → Answer
fault_of s told at End = Accepted
fault_of s told at (Node site) = room_for s.nodes Sizes.nodes at
fault_of s told at (Gpu card) = on_node s.nodes s.gpus at
fault_of s told at (Quota tenant quota) = once (not (eqb (get_or s.quotas tenant 0) 0)) at
fault_of s told at (Profile profile most) = once (not (eqb (get_or s.mosts profile 0) 0)) at
fault_of s told at (Job ask) = room_for s.jobs Sizes.jobs at
fault_of s told at (Options options) = once told at
