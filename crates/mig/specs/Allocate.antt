-- The slices that a MIG job gets.
use Rattle.std.specs.Prelude.{◌≡◌, Bool, true, false, ◌&&◌, ◌||◌, List, ℕ, ◌-◌, min, leb, ltb, get_or, set, Option, Some, None}
use Rattle.laws.specs.Choice.{pick}
use Rattle.model.specs.Sizes as Sizes
use Rattle.model.specs.Gpu.{no_gpu}
use Rattle.model.specs.declared.gpu.Gpu.{Gpu}
use Rattle.mig.specs.Slices.{free_slices, cut_anew, given_slices}
use Rattle.mig.specs.Table.{first_idle, free_in_all, given_in_order}
use Rattle.mig.specs.declared.allocate.Slices.{Slices}
use Rattle.mig.specs.declared.allocate.Given.{Given}

-- The answer with the lent table of GPUs.
abbrev pub whole_slices : Option Given → List Gpu → Slices
whole_slices None gpus = record { gpus = gpus; placed = false; cut = false }
whole_slices (Some given) gpus = record { gpus = gpus; placed = true; cut = given.cut }

-- There are enough free slices of the profile in all.
unfoldable pub enough_free : List Gpu → ℕ → ℕ → ℕ → Bool
enough_free gpus n profile want = leb want (free_in_all gpus n profile)

-- A cut helps: no more slices are wanted than the profile's most, and a MIG-capable, wholly idle GPU exists.
unfoldable pub cut_helps : List Gpu → ℕ → ℕ → ℕ → Bool
cut_helps gpus n most want = leb want most && ltb (first_idle gpus n) (min n Sizes.gpus)

-- A MIG job's slices can be had.
abbrev pub slices_placeable : List Gpu → ℕ → ℕ → ℕ → ℕ → Bool
slices_placeable gpus n profile most want = enough_free gpus n profile want || cut_helps gpus n most want

-- The free slices of the profile on the GPUs but one.
unfoldable pub free_elsewhere : List Gpu → ℕ → ℕ → ℕ → ℕ
free_elsewhere gpus n profile at = free_in_all gpus n profile - free_slices (get_or gpus at no_gpu) profile

-- The GPU cut anew into as many slices as are wanted, of which those are given that the other GPUs leave wanting.
unfoldable pub new_slices : Gpu → ℕ → ℕ → ℕ → ℕ → Gpu
new_slices g profile want elsewhere owner = given_slices (cut_anew g profile want) profile (want - elsewhere) owner

-- The first idle GPU is cut anew: the free slices on the others are given first, in table order, then new ones.
unfoldable pub cut_for : List Gpu → ℕ → ℕ → ℕ → ℕ → List Gpu
cut_for gpus n profile want owner =
    let at = first_idle gpus n in
    set
    (given_in_order gpus n profile want owner at)
    at
    (new_slices (get_or gpus at no_gpu) profile want (free_elsewhere gpus n profile at) owner)

-- With enough free slices the first of them in table order; otherwise a GPU is cut anew, if that helps; otherwise nothing changes.
unfoldable pub slices_allocated : List Gpu → ℕ → ℕ → ℕ → ℕ → ℕ → Slices
slices_allocated gpus n profile most want owner =
    pick
    (enough_free gpus n profile want)
    (record { gpus = given_in_order gpus n profile want owner Sizes.gpus; placed = true; cut = false })
    (pick
    (cut_helps gpus n most want)
    (record { gpus = cut_for gpus n profile want owner; placed = true; cut = true })
    (record { gpus = gpus; placed = false; cut = false }))

-- ---- the three cases

module _ (gpus : List Gpu) (n profile most want owner : ℕ) where
  -- free slices are enough
  pub allocated_free : (given : List Gpu) → enough_free gpus n profile want ≡ true → given ≡ given_in_order gpus n profile want owner Sizes.gpus →
      record { gpus = given; placed = true; cut = false } ≡ slices_allocated gpus n profile most want owner
  unfolding slices_allocated
  allocated_free given h e = rw (h, e)

  -- a GPU is cut
  pub allocated_cut : (given : List Gpu) → enough_free gpus n profile want ≡ false → cut_helps gpus n most want ≡ true →
      given ≡ cut_for gpus n profile want owner → record { gpus = given; placed = true; cut = true } ≡ slices_allocated gpus n profile most want owner
  unfolding slices_allocated
  allocated_cut given h k e = rw (h, k, e)

  -- neither
  pub allocated_none : enough_free gpus n profile want ≡ false → cut_helps gpus n most want ≡ false →
      record { gpus = gpus; placed = false; cut = false } ≡ slices_allocated gpus n profile most want owner
  unfolding slices_allocated
  allocated_none h k = rw (h, k)
