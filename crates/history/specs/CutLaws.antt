-- A GPU that was cut stays cut: whatever is freed, given or cut anew, and so all through a pass.
use Rattle.std.specs.Prelude.{List, get_or}
use Prim.Native.Nat.{ℕ, ◌<◌}
use Rattle.model.specs.Gpu.{no_gpu}
use Rattle.model.specs.declared.gpu.Gpu.{Gpu}

-- the GPU with this number
abbrev pub gpu_at : List Gpu → ℕ → Gpu
gpu_at gpus i = get_or gpus i no_gpu

-- A GPU is cut if it has slices.
abbrev pub Cut : Gpu → Type 0
Cut g = 0 < g.slices

-- the second is cut if the first is
abbrev pub CutStill : Gpu → Gpu → Type 0
CutStill g h = Cut g → Cut h

-- Each GPU that is cut in the first table is cut in the second.
abbrev pub StaysCut : List Gpu → List Gpu → Type 0
StaysCut before after = (i : ℕ) → CutStill (gpu_at before i) (gpu_at after i)
