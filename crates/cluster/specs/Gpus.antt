-- Whole GPUs given to a job, and all that a job holds taken back.
use Rattle.std.specs.Prelude.{Bool, not, ◌||◌, List, [], ◌∷◌, ℕ, eqb, get_or, set}
use Rattle.model.specs.Gpu.{no_gpu}
use Rattle.model.specs.declared.gpu.Gpu.{Gpu}
use Rattle.mig.specs.Owner.{nobodys}

-- The GPU with this owner.
abbrev pub with_owner : ℕ → Gpu → Gpu
with_owner owner g = record {
  node = g.node;
  kind = g.kind;
  memory = g.memory;
  group = g.group;
  mig = g.mig;
  owner = owner;
  profile = g.profile;
  slices = g.slices;
  owners = g.owners;
}

-- The owner on each of the GPUs with these numbers; a number that no GPU has changes nothing.
unfoldable pub given : ℕ → List Gpu → List ℕ → List Gpu
given owner gpus [] = gpus
given owner gpus (i ∷ ids) = given owner (set gpus i (with_owner owner (get_or gpus i no_gpu))) ids

-- Some of a GPU may be the owner's, unless the GPU is another's or nobody's and no slice has an owner.
abbrev pub may_hold : Gpu → ℕ → Bool
may_hold g owner = eqb g.owner owner || not (nobodys g.owners)
