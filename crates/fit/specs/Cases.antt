-- The cases of the choices, one for each return of the code.
use Rattle.std.specs.Prelude.{◌≡◌, Bool, true, List, ℕ, ◌≤◌, ◌<◌, ◌-◌, leb, take, Option, Some, None}
use Rattle.std.specs.Option.{SomeIff, unwrap_or}
use Rattle.laws.specs.Choice.{pick}
use Rattle.std.proofs.Common.{◌∙◌, arith, le-leb}
use Rattle.std.proofs.Math.Bool.{false}
use Rattle.std.proofs.Math.ListN.{length}
use Rattle.std.proofs.lemmas.Bool.{lt-leb}
use Rattle.order.specs.Order.{by_numbers, sorted_front}
use Rattle.order.specs.OrderTurns.{sorted_front_lem}
use Rattle.eligible.specs.Chosen.{chosen, list_of, with_key, tally_of}
use Rattle.eligible.specs.Turns as Turns
use Rattle.eligible.specs.declared.chosen.Chosen.{Chosen}
use Rattle.fit.specs.declared.first.Choice.{Choice}
use Rattle.fit.specs.First.{held, took}
use Rattle.fit.specs.Group.{fullest, fullest_group, group_choice}
use Rattle.fit.specs.Best.{best_node, best_held, rank_keys, fullest_first, best_fit}

-- as many as a held list says
pub held_count : (c : Chosen) (l : List ℕ) → c ≡ chosen l → c.count ≡ length l
held_count c l e = rw e

-- the front of a held list, taken
pub take_held : (c d : Chosen) (l : List ℕ) (count : ℕ) (p : Bool) (r : Choice) → c ≡ chosen l → d ≡ chosen (take count (list_of c)) → r ≡ held d p →
    r ≡ took (take count l) p
take_held c d l count p r e f g = g ∙ rw (f, (Turns.held c l e).0)

module _ (groups l : List ℕ) (count key : ℕ) (same taken : Chosen) (r : Choice) (k : key ≡ fullest (tally_of groups l)) (s : same ≡ chosen (with_key groups key l)) where
  -- the fullest group has as many
  pub group_one : count ≤ same.count → taken ≡ chosen (take count (list_of same)) → r ≡ held taken false → r ≡ group_choice groups l count
  unfolding group_choice fullest_group
  group_one h t e =
      let s : same ≡ chosen (fullest_group groups l) = rw k at s in
      let n : same.count ≡ length (fullest_group groups l) = held_count same (fullest_group groups l) s in
      rw (le-leb count (length (fullest_group groups l)) (omega arith))
      (take_held same taken (fullest_group groups l) count false r s t e)

  -- it has not
  pub group_none : same.count < count → taken ≡ chosen (take count l) → r ≡ held taken true → r ≡ group_choice groups l count
  unfolding group_choice fullest_group
  group_none h t e =
      let s : same ≡ chosen (fullest_group groups l) = rw k at s in
      let n : same.count ≡ length (fullest_group groups l) = held_count same (fullest_group groups l) s in
      rw (lt-leb count (length (fullest_group groups l)) (omega arith)) (e ∙ rw t)

module _ (nodes l : List ℕ) (count node : ℕ) (same taken : Chosen) (r : Choice) (k : node ≡ best_node (tally_of nodes l) count)
    (s : same ≡ chosen (with_key nodes node l)) where
  -- the node with least left over holds all
  pub best_one : count ≤ same.count → taken ≡ chosen (take count (list_of same)) → r ≡ held taken false → r ≡ took (best_fit nodes l count) false
  unfolding best_fit best_held
  best_one h t e =
      let s : same ≡ chosen (best_held nodes l count) = rw k at s in
      let n : same.count ≡ length (best_held nodes l count) = held_count same (best_held nodes l count) s in
      rw (le-leb count (length (best_held nodes l count)) (omega arith))
      (take_held same taken (best_held nodes l count) count false r s t e)

  -- no node does
  pub best_none : same.count < count → taken ≡ chosen (take count (fullest_first nodes l)) → r ≡ held taken false → r ≡ took (best_fit nodes l count) false
  unfolding best_fit best_held
  best_none h t e =
      let s : same ≡ chosen (best_held nodes l count) = rw k at s in
      let n : same.count ≡ length (best_held nodes l count) = held_count same (best_held nodes l count) s in
      rw (lt-leb count (length (best_held nodes l count)) (omega arith)) (e ∙ rw t)

-- what is left of n, or another number where it is too small
pub less_or : (r : Option ℕ) (count n d : ℕ) → SomeIff r (count ≤ n) (n - count) → unwrap_or r d ≡ pick (leb count n) (n - count) d
less_or None count n d h = rw (lt-leb count n (omega arith))
less_or (Some x) count n d h = rw (le-leb count n h.0) h.1

-- the sorted table holds the eligible GPUs node by node
pub node_by_node : (nodes ids first second counts sorted : List ℕ) (n : ℕ) → counts ≡ tally_of nodes (take n ids) → first ≡ rank_keys counts nodes →
    second ≡ nodes → sorted ≡ sorted_front (by_numbers false first second) n ids → take n sorted ≡ fullest_first nodes (take n ids)
unfolding fullest_first
node_by_node nodes ids first second counts sorted n a b d e =
    rw (e, sorted_front_lem (by_numbers false first second) ids n, b, d, a)
