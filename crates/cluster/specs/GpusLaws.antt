-- What giving whole GPUs changes, and that freeing undoes it.
use Rattle.std.specs.Prelude.{◌≡◌, true, false, not, ◌++◌, ℕ, ◌+◌, ◌<◌, ◌≤◌, eqb, get_or, take, drop, set}
use Rattle.std.proofs.Math.Path.{refl}
use Rattle.std.proofs.Common.{ap, ◌∙◌, arith, eqb-true, append-nil, take_all, drop_of_length-le, get_or-set_same, ext_get_or}
use Rattle.std.proofs.Math.Logic.{⊎_elim}
use mathlib.Core.List.{List, [], ◌∷◌, map}
use Rattle.std.proofs.Math.ListN.{length, length-set, get_or-map}
use Rattle.std.proofs.lemmas.List.{length-map}
use Rattle.std.proofs.Math.Seq.{get_or-set_other}
use Rattle.std.proofs.lemmas.Bool.{eqb-false}
use Rattle.laws.specs.Tests.{split, and_both, never_both, or_none, eq_or_ne}
use Rattle.laws.specs.Lists.{All, all_at}
use Rattle.laws.specs.Search.{has, has_cases, has_all}
use Rattle.laws.specs.Tables.{get_d_any}
use Rattle.model.specs.Gpu.{no_gpu}
use Rattle.model.specs.declared.gpu.Gpu.{Gpu}
use Rattle.mig.specs.More.{turn_set, turn_rest, turn_drop}
use Rattle.mig.specs.Owner.{nobodys, without_owner, freed}
use Rattle.mig.specs.OwnerLaws.{without_same, without_other, without_kept, freed_kept}
use Rattle.cluster.specs.Gpus.{with_owner, given, may_hold}

-- ---- giving

module _ (owner : ℕ) (gpus : List Gpu) (ids : List ℕ) where
  -- the number at hand is given first
  pub given_turn : (i : ℕ) → i < length ids →
      given owner (set gpus (get_or ids i 0) (with_owner owner (get_or gpus (get_or ids i 0) no_gpu))) (drop (i + 1) ids)
      ≡ given owner gpus (drop i ids)
  unfolding given
  given_turn i h = rw (turn_drop ids i 0 h)

  -- past the last number all are given
  pub given_done : (i : ℕ) → length ids ≤ i → gpus ≡ given owner gpus (drop i ids)
  unfolding given
  given_done i h = rw (drop_of_length-le ids h)

module _ (owner : ℕ) where
  -- as many GPUs as before
  pub given_length : (gpus : List Gpu) (ids : List ℕ) → length (given owner gpus ids) ≡ length gpus
  unfolding given
  given_length gpus [] = refl
  given_length gpus (i ∷ ids) =
      given_length (set gpus i (with_owner owner (get_or gpus i no_gpu))) ids ∙ length-set gpus i (with_owner owner (get_or gpus i no_gpu))

  -- a GPU that is none of the chosen stays as it is
  pub given_other : (gpus : List Gpu) (ids : List ℕ) (k : ℕ) → has k ids ≡ false → get_or (given owner gpus ids) k no_gpu ≡ get_or gpus k no_gpu
  unfolding given
  given_other gpus [] k h = refl
  given_other gpus (i ∷ ids) k h =
      let r : (eqb k i ≡ false) × (has k ids ≡ false) = or_none (eqb k i) (has k ids) h in
      given_other (set gpus i (with_owner owner (get_or gpus i no_gpu))) ids k r.1
      ∙ get_or-set_other gpus i k (with_owner owner (get_or gpus i no_gpu)) no_gpu (eqb-false k i r.0)

  -- given once
  once : (gpus : List Gpu) (i k : ℕ) → k < length gpus → k ≡ i →
      get_or (set gpus i (with_owner owner (get_or gpus i no_gpu))) k no_gpu ≡ with_owner owner (get_or gpus k no_gpu)
  once gpus i k h s = rw (← s) (get_or-set_same gpus k (with_owner owner (get_or gpus k no_gpu)) no_gpu h)

  -- given twice is given once
  twice : (gpus : List Gpu) (i k : ℕ) → k < length gpus →
      with_owner owner (get_or (set gpus i (with_owner owner (get_or gpus i no_gpu))) k no_gpu) ≡ with_owner owner (get_or gpus k no_gpu)
  twice gpus i k h =
      ⊎_elim
      (λ s. ap (with_owner owner) (once gpus i k h s))
      (λ s. ap (with_owner owner) (get_or-set_other gpus i k (with_owner owner (get_or gpus i no_gpu)) no_gpu s))
      (eq_or_ne k i)

  -- a chosen one has the owner, and nothing else of it changes
  pub given_in : (gpus : List Gpu) (ids : List ℕ) (k : ℕ) → k < length gpus → has k ids ≡ true →
      get_or (given owner gpus ids) k no_gpu ≡ with_owner owner (get_or gpus k no_gpu)
  unfolding given
  given_in gpus [] k h e = absurd (never_both e refl)
  given_in gpus (i ∷ ids) k h e =
      let new : Gpu = with_owner owner (get_or gpus i no_gpu) in
      let l : k < length (set gpus i new) = rw (length-set gpus i new) h in
      split
      (has k ids)
      (λ a. given_in (set gpus i new) ids k l a ∙ twice gpus i k h)
      (λ a. ⊎_elim
      (λ b. let s : k ≡ i = b in given_other (set gpus i new) ids k a ∙ once gpus i k h s)
      (λ b. absurd (never_both b a))
      (has_cases k i ids e))

-- ---- freeing

-- what is nobody's stays so
without_nobody : (owner : ℕ) → without_owner owner 0 ≡ 0
without_nobody owner = split (eqb 0 owner) (λ e. rw e) (λ e. rw e)

-- slices that have no owner stay as they are
unowned_kept : (owner : ℕ) (l : List ℕ) → nobodys l ≡ true → map (without_owner owner) l ≡ l
unowned_kept owner [] h = refl
unowned_kept owner (x ∷ l) h =
    let b : (eqb x 0 ≡ true) × (nobodys l ≡ true) = and_both (eqb x 0) (nobodys l) h in
    let e : x ≡ 0 = eqb-true x 0 b.0 in
    rw (e, without_nobody owner, unowned_kept owner l b.1)

-- a GPU of which nothing may be the owner's stays as it is
pub unheld_kept : (owner : ℕ) (g : Gpu) → may_hold g owner ≡ false → freed owner g ≡ g
unfolding freed
unheld_kept owner g h =
    let r : (eqb g.owner owner ≡ false) × (not (nobodys g.owners) ≡ false) = or_none (eqb g.owner owner) (not (nobodys g.owners)) h in
    let z : nobodys g.owners ≡ true = split (nobodys g.owners) (λ e. e) (λ e. absurd (never_both (rw e) r.1)) in
    rw (without_other owner g.owner (eqb-false g.owner owner r.0), unowned_kept owner g.owners z)

-- a turn of freeing each GPU
pub free_turn : (t : List Gpu) (i owner : ℕ) (g d : Gpu) → i < length t → g ≡ freed owner (get_or t i d) →
    take (i + 1) (set t i g) ++ map (freed owner) (drop (i + 1) (set t i g)) ≡ take i t ++ map (freed owner) (drop i t)
free_turn t i owner g d h e =
    rw (turn_rest t i g, turn_set t (map (freed owner) (drop (i + 1) t)) i g h, turn_drop t i d h, e)

-- past the last GPU each was looked at
pub free_end : (f : Gpu → Gpu) (t : List Gpu) (i : ℕ) → length t ≤ i → t ≡ take i t ++ map f (drop i t)
free_end f t i h = rw (take_all i t h, drop_of_length-le t h, append-nil)

-- A GPU of which the owner holds nothing.
abbrev pub HoldsNone : ℕ → Gpu → Type 0
HoldsNone owner g = (g.owner ≡ owner → ⊥) × All (λ x. x ≡ owner → ⊥) g.owners

-- freed, a GPU that was nobody's is as it was before it was given
pub freed_given : (owner : ℕ) (g : Gpu) → g.owner ≡ 0 → HoldsNone owner g → freed owner (with_owner owner g) ≡ g
unfolding freed
freed_given owner g z h = rw (without_same owner, without_kept owner g.owners h.1, ← z)

-- freeing undoes giving, where the owner held nothing before and the chosen GPUs were nobody's
pub freed_undoes : (owner : ℕ) (gpus : List Gpu) (ids : List ℕ) → All (HoldsNone owner) gpus → All (λ i. (get_or gpus i no_gpu).owner ≡ 0) ids →
    map (freed owner) (given owner gpus ids) ≡ gpus
freed_undoes owner gpus ids h z =
    ext_get_or
    (freed owner no_gpu)
    (map (freed owner) (given owner gpus ids))
    gpus
    (length-map (given owner gpus ids) (freed owner) ∙ given_length owner gpus ids)
    (λ k l. let m : k < length gpus = omega (arith, length-map (given owner gpus ids) (freed owner), given_length owner gpus ids) in
    get_or-map (freed owner) (given owner gpus ids) k no_gpu ∙ each k m ∙ get_d_any gpus k no_gpu (freed owner no_gpu) m)
  where
    each : (k : ℕ) → k < length gpus → freed owner (get_or (given owner gpus ids) k no_gpu) ≡ get_or gpus k no_gpu
    each k m =
        split
        (has k ids)
        (λ e. ap (freed owner) (given_in owner gpus ids k m e)
        ∙ freed_given owner (get_or gpus k no_gpu) (has_all (λ i. (get_or gpus i no_gpu).owner ≡ 0) k ids z e)
        (all_at (HoldsNone owner) gpus k no_gpu h m))
        (λ e. ap (freed owner) (given_other owner gpus ids k e)
        ∙ freed_kept owner (get_or gpus k no_gpu) (all_at (HoldsNone owner) gpus k no_gpu h m).0 (all_at (HoldsNone owner) gpus k no_gpu h m).1)
