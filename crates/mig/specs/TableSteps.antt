-- What is counted, given and added up over the table, step by step.
use Rattle.std.specs.Prelude.{◌≡◌, refl, List, [], ◌∷◌, ◌++◌, eqb, length, get_or, take, drop, set}
use Rattle.std.proofs.Common.{ap, ◌∙◌, length-take-le, take-append-drop}
use Prim.Native.Nat.{ℕ, zero, suc, ◌+◌, ◌-◌, ◌<◌, ◌≤◌, min}
use native.Mathlib.Omega.{arith}
use Rattle.laws.specs.Search.{those_length}
use Rattle.std.specs.List.{sum_by}
use Rattle.laws.specs.Sums.{sum_over}
use Rattle.laws.specs.Choice.{pick_either}
use Rattle.laws.specs.Tables.{take_least}
use Rattle.model.specs.declared.gpu.Gpu.{Gpu}
use Rattle.mig.specs.More.{turn_set, turn_rest, turn_drop, sum_by_over}
use Rattle.mig.specs.Slices.{slice_count, free_slice, free_on, free_slices, given_slices}
use Rattle.mig.specs.Table.{free_in_all, gives, in_order, given_in_order}

-- a GPU has at most seven free slices
pub free_most : (g : Gpu) (profile : ℕ) → free_slices g profile ≤ 7
unfolding free_on
free_most g profile = omega (arith, those_length (free_slice g profile) (slice_count g) 0)

-- a GPU gives no more than is wanted
pub gives_wanted : (g : Gpu) (profile left i except : ℕ) → gives g profile left i except ≤ left
unfolding gives
gives_wanted g profile left i except =
    pick_either (λ k. k ≤ left) (eqb i except) 0 (min left (free_slices g profile)) (omega arith) (omega arith)

module _ (profile owner except left m i : ℕ) (t : List Gpu) where
  -- a turn of giving
  pub order_turn : (d : Gpu) → i < m → i < length t →
      take (i + 1) (set t i (given_slices (get_or t i d) profile (gives (get_or t i d) profile left i except) owner)) ++ in_order profile owner except
      (left - gives (get_or t i d) profile left i except) (m - (i + 1)) (i + 1)
      (drop (i + 1) (set t i (given_slices (get_or t i d) profile (gives (get_or t i d) profile left i except) owner)))
      ≡ take i t ++ in_order profile owner
      except left (m - i) i (drop i t)
  unfolding in_order
  order_turn d h k =
      let e : m - i ≡ suc (m - (i + 1)) = omega arith in
      let g : Gpu = given_slices (get_or t i d) profile (gives (get_or t i d) profile left i except) owner in
      rw (
        turn_rest t i g,
        turn_set t (in_order profile owner except (left - gives (get_or t i d) profile left i except) (m - (i + 1)) (i + 1)
            (drop (i + 1) t)) i g k,
        turn_drop t i d k,
        e,
      )

  -- past the last GPU all have given
  pub order_end : m ≤ i → t ≡ take i t ++ in_order profile owner except left (m - i) i (drop i t)
  unfolding in_order
  order_end h = let e : m - i ≡ 0 = omega arith in rw (e, take-append-drop)

-- the GPUs after those that give stay
order_part : (profile owner except left m i : ℕ) (t : List Gpu) →
    in_order profile owner except left m i (take m t) ++ drop m t ≡ in_order profile owner except left m i t
unfolding in_order
order_part profile owner except left zero i t = refl
order_part profile owner except left (suc m) i [] = refl
order_part profile owner except left (suc m) i (g ∷ t) =
    ap (λ u. given_slices g profile (gives g profile left i except) owner ∷ u)
    (order_part profile owner except (left - gives g profile left i except) m (i + 1) t)

-- where the first GPUs of the table have given, the table has
pub order_front : (profile owner except left n m : ℕ) (t front : List Gpu) → length t ≡ 128 → m ≡ min n 128 →
    front ≡ in_order profile owner except left (length (take m t)) 0 (take m t) → front ++ drop m t ≡ given_in_order t n profile left owner except
unfolding given_in_order
order_front profile owner except left n m t front l e f =
    rw (f, length-take-le m t (omega arith)) (order_part profile owner except left m 0 t) ∙ ap (λ k. in_order profile owner except left k 0 t) e

-- the free slices of the first GPUs, as many as a table holds, are all
pub free_sum : (gpus : List Gpu) (n profile : ℕ) → length gpus ≡ 128 →
    sum_by (λ g. free_slices g profile) (take (min n 128) gpus) ≡ free_in_all gpus n profile
unfolding free_in_all
free_sum gpus n profile l =
    sum_by_over (λ g. free_slices g profile) (take (min n 128) gpus)
    ∙ ap (sum_over (λ g. free_slices g profile)) (take_least n 128 gpus (omega arith))
