-- What a record without fault has: room, and a node for a GPU.
use Rattle.std.specs.Prelude.{◌≡◌, refl, Bool, true, false, ℕ, ◌<◌, ltb, eqb}
use Rattle.std.proofs.Common.{arith, ltb-true}
use Rattle.std.proofs.lemmas.Bool.{eqb-false}
use Rattle.laws.specs.Choice.{pick}
use Rattle.model.specs.Sizes as Sizes
use Rattle.trace.specs.Answer.{Accepted, GpuBeforeNode, TableFull}
use Rattle.loader.specs.Fault.{room_for, on_node}

-- room means room
pub has_room : (count size at : ℕ) → room_for count size at ≡ Accepted → count < size
has_room count size at h = by_test (ltb count size) refl h
  where
    by_test : (b : Bool) → ltb count size ≡ b → pick b Accepted (TableFull at) ≡ Accepted → count < size
    by_test true e g = ltb-true count size e
    by_test false e g = let z : ◌≡◌ {A = ℕ} 0 1 = cc in omega arith

-- a GPU without fault has a node before it, and room
pub has_node : (nodes gpus at : ℕ) → on_node nodes gpus at ≡ Accepted → (0 < nodes) × (gpus < Sizes.gpus)
has_node nodes gpus at h = by_test (eqb nodes 0) refl h
  where
    by_test : (b : Bool) → eqb nodes 0 ≡ b → pick b (GpuBeforeNode at) (room_for gpus Sizes.gpus at) ≡ Accepted → (0 < nodes) × (gpus < Sizes.gpus)
    by_test true e g = let z : ◌≡◌ {A = ℕ} 0 1 = cc in absurd (omega arith)
    by_test false e g = let n : nodes ≡ 0 → ⊥ = eqb-false nodes 0 e in (omega (arith, n), has_room gpus Sizes.gpus at g)
