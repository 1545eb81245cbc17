-- Who owns a GPU or a slice of it.
use Rattle.std.specs.Prelude.{◌≡◌, refl, Bool, true, ◌&&◌, List, [], ◌∷◌, map, ℕ, eqb}
use Rattle.std.specs.List.{list_all}
use Rattle.laws.specs.Choice.{pick}
use Rattle.model.specs.declared.gpu.Gpu.{Gpu}

-- None of the slices is owned.
abbrev pub nobodys : List ℕ → Bool
nobodys [] = true
nobodys (x ∷ l) = eqb x 0 && nobodys l

-- A GPU is wholly idle if it has no owner and no owned slice, cut before or not.
unfoldable pub idle : Gpu → Bool
idle g = eqb g.owner 0 && nobodys g.owners

-- An owner, or nobody if it is this one.
abbrev pub without_owner : ℕ → ℕ → ℕ
without_owner owner x = pick (eqb x owner) 0 x

-- All that the owner holds on a GPU is nobody's; its cuts stay.
unfoldable pub freed : ℕ → Gpu → Gpu
freed owner g = record {
  node = g.node;
  kind = g.kind;
  memory = g.memory;
  group = g.group;
  mig = g.mig;
  owner = without_owner owner g.owner;
  profile = g.profile;
  slices = g.slices;
  owners = map (without_owner owner) g.owners;
}

-- none of the slices is owned where each of them is 0
pub all_nobodys : (l : List ℕ) → list_all (λ x. eqb x 0) l ≡ nobodys l
all_nobodys [] = refl
all_nobodys (x ∷ l) = rw (all_nobodys l)
