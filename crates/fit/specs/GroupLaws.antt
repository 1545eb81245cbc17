-- The group chosen over all nodes has most eligible GPUs, and is the first of those.
use Rattle.std.specs.Prelude.{◌≡◌, List, ℕ, ◌≤◌, ◌<◌, leb, length, get_or, take}
use Rattle.std.proofs.Math.Path.{sym}
use Rattle.std.proofs.Math.Bool.{true, false}
use Rattle.std.proofs.Common.{arith, leb-true, leb-false, le-leb, eqb-true}
use Rattle.std.proofs.lemmas.Bool.{lt-leb}
use Rattle.laws.specs.Choice.{pick_cases}
use Rattle.laws.specs.Tests.{split, never_both}
use Rattle.laws.specs.Lists.{All, Distinct, all_weaken}
use Rattle.laws.specs.Greatest.{argmax_below, argmax_whole, argmax_whole_first}
use Rattle.laws.specs.Sort.{only_all}
use Rattle.eligible.specs.Chosen.{keyed, with_key, count_of, tally_of}
use Rattle.eligible.specs.Turns.{tally_at}
use Rattle.fit.specs.First.{took, first_fit}
use Rattle.fit.specs.Group.{counted, fullest, fullest_group, group_choice}
use Rattle.fit.specs.Right.{Right, right_first, first_right, of_key, key_distinct}

-- those with a key have it
pub key_all : (keys l : List ℕ) (k : ℕ) → All (λ i. get_or keys i 0 ≡ k) (with_key keys k l)
unfolding with_key
key_all keys l k =
    all_weaken (λ i. keyed keys k i ≡ true) (λ i. get_or keys i 0 ≡ k) (with_key keys k l) (λ i e. eqb-true (get_or keys i 0) k e) (only_all (keyed keys k) l)

module _ (groups l : List ℕ) where
  -- it is one of the keys counted: none, or a group
  pub fullest_below : fullest (tally_of groups l) < 257
  unfolding fullest
  fullest_below = argmax_below (counted (tally_of groups l)) 257 257 0 0 (omega arith) (omega arith)

  fullest_count : length (fullest_group groups l) ≡ counted (tally_of groups l) (fullest (tally_of groups l))
  unfolding fullest_group count_of
  fullest_count = sym (tally_at groups l (fullest (tally_of groups l)) fullest_below)

  -- no group has more eligible GPUs
  pub fullest_most : (k : ℕ) → k < 257 → count_of groups l k ≤ length (fullest_group groups l)
  unfolding fullest
  fullest_most k h = omega (arith, fullest_count, tally_at groups l k h, argmax_whole (counted (tally_of groups l)) 257 k h)

  -- each group before it, in the order none, 0, 1, .., has fewer
  pub fullest_first_lem : (k : ℕ) → k < fullest (tally_of groups l) → count_of groups l k < length (fullest_group groups l)
  unfolding fullest
  fullest_first_lem k h =
      omega (arith, fullest_count, fullest_below, tally_at groups l k (omega (arith, fullest_below)), argmax_whole_first (counted (tally_of groups l)) 257 k h)

  -- its GPUs are those of one group
  pub fullest_same : All (λ i. get_or groups i 0 ≡ fullest (tally_of groups l)) (fullest_group groups l)
  unfolding fullest_group
  fullest_same = key_all groups l (fullest (tally_of groups l))

  module _ (count : ℕ) where
    -- with a group that has enough: the first count of the fullest group, without a penalty
    pub group_enough : count ≤ length (fullest_group groups l) → group_choice groups l count ≡ took (take count (fullest_group groups l)) false
    unfolding group_choice
    group_enough h = rw (le-leb count (length (fullest_group groups l)) h)

    -- without one: first fit, with a penalty
    pub group_few : length (fullest_group groups l) < count → group_choice groups l count ≡ took (first_fit l count) true
    unfolding group_choice
    group_few h = rw (lt-leb count (length (fullest_group groups l)) h)

    -- a group with enough spares the penalty
    pub group_unpenalised : (k : ℕ) → k < 257 → count ≤ count_of groups l k → (group_choice groups l count).penalised ≡ false
    group_unpenalised k h n = rw (group_enough (omega (arith, fullest_most k h)))

    -- a penalty says that no group has enough
    pub group_penalised : (group_choice groups l count).penalised ≡ true → (k : ℕ) → k < 257 → count_of groups l k < count
    group_penalised p k h =
        split
        (leb count (length (fullest_group groups l)))
        (λ e. absurd (never_both p (rw (group_enough (leb-true count (length (fullest_group groups l)) e)))))
        (λ e. omega (arith, leb-false count (length (fullest_group groups l)) e, fullest_most k h))

    -- it is a right choice
    pub group_right : Distinct l → count ≤ length l → Right l count (group_choice groups l count)
    unfolding group_choice fullest_group
    group_right d n =
        pick_cases
        (λ c. Right l count c)
        (leb count (length (fullest_group groups l)))
        (took (take count (fullest_group groups l)) false)
        (took (first_fit l count) true)
        (λ e. right_first l (fullest_group groups l) count false (leb-true count (length (fullest_group groups l)) e)
        (of_key groups l (fullest (tally_of groups l))) (key_distinct groups l (fullest (tally_of groups l)) d))
        (λ e. first_right l count true d n)
