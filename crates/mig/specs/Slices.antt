-- The slices of one GPU. A profile is its number plus 1, as the GPU and the job hold it.
use Rattle.std.specs.Prelude.{◌≡◌, Bool, ◌&&◌, List, map, ℕ, min, eqb, ltb, length, get_or, take, replicate}
use Rattle.std.specs.List.{filter, range_with_len}
use Rattle.std.proofs.Common.{sym, ◌∙◌}
use Rattle.std.proofs.lemmas.List.{map-id}
use Rattle.laws.specs.Search.{those}
use Rattle.model.specs.Sizes as Sizes
use Rattle.model.specs.declared.gpu.Gpu.{Gpu}
use Rattle.mig.specs.More.{put, those_filter}

-- A GPU is cut if it has slices.
abbrev pub cut : Gpu → Bool
cut g = ltb 0 g.slices

-- A GPU has at most seven slices.
abbrev pub slice_count : Gpu → ℕ
slice_count g = min g.slices Sizes.slices

-- A slice is one of the profile and nobody's.
abbrev pub free_slice : Gpu → ℕ → ℕ → Bool
free_slice g profile i = eqb g.profile profile && eqb (get_or g.owners i 0) 0

-- The free slices of a profile on a GPU, by number.
unfoldable pub free_on : Gpu → ℕ → List ℕ
free_on g profile = those (free_slice g profile) (slice_count g) 0

-- How many they are.
abbrev pub free_slices : Gpu → ℕ → ℕ
free_slices g profile = length (free_on g profile)

-- The GPU cut anew: nobody's, and cut for the profile into so many free slices.
unfoldable pub cut_anew : Gpu → ℕ → ℕ → Gpu
cut_anew g profile slices = record {
  node = g.node;
  kind = g.kind;
  memory = g.memory;
  group = g.group;
  mig = g.mig;
  owner = 0;
  profile = profile;
  slices = slices;
  owners = replicate Sizes.slices 0;
}

-- The GPU with other slice owners.
abbrev pub with_owners : Gpu → List ℕ → Gpu
with_owners g owners = record {
  node = g.node;
  kind = g.kind;
  memory = g.memory;
  group = g.group;
  mig = g.mig;
  owner = g.owner;
  profile = g.profile;
  slices = g.slices;
  owners = owners;
}

-- The first so many free slices of the profile on the GPU go to the owner.
unfoldable pub given_slices : Gpu → ℕ → ℕ → ℕ → Gpu
given_slices g profile most owner = with_owners g (put g.owners (take most (free_on g profile)) owner)

-- the owner written to the first so many that a filter lets through has them all
pub given_filtered : (g : Gpu) (profile most owner : ℕ) (owners numbers : List ℕ) → owners ≡ put g.owners numbers owner →
    map (λ x. x) numbers ≡ take most (filter (free_slice g profile) (range_with_len 0 (slice_count g))) →
    with_owners g owners ≡ given_slices g profile most owner
unfolding free_on given_slices
given_filtered g profile most owner owners numbers e f =
    rw (e, sym (map-id numbers) ∙ f, those_filter (free_slice g profile) (slice_count g) 0)
