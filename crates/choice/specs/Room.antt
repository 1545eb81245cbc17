-- The shares of different nodes have room in one table.
use Rattle.std.specs.Prelude.{◌≡◌, ℕ, ◌+◌, ◌≤◌, ◌<◌, eqb, length, get_or}
use Rattle.std.proofs.Math.Path.{refl}
use Rattle.std.proofs.Common.{sym, ◌∙◌, length-take, eqb-true, ne_eqb}
use Rattle.std.proofs.Math.Bool.{true, false, not}
use mathlib.Core.List.{List, [], ◌∷◌}
use native.Mathlib.Omega.{arith}
use Rattle.std.proofs.Math.ListN.{length-append}
use Rattle.laws.specs.Choice.{pick, pick_either}
use Rattle.laws.specs.Tests.{split, never_both, and_both}
use Rattle.laws.specs.Lists.{Apart, Distinct, all_weaken, all_every, distinct_take, distinct_append}
use Rattle.laws.specs.Search.{those_distinct, those_each}
use Rattle.laws.specs.Sort.{only}
use Rattle.laws.specs.Sums.{sum_over, bit, sum_none, sum_same, sum_add}
use Rattle.eligible.specs.Chosen.{keyed, with_key, count_of}
use Rattle.eligible.specs.More.{only_length}
use Rattle.choice.specs.Share.{share_group, parted, share}
use Rattle.choice.specs.Gang.{enough_on, parted_on, share_on, gang_node, whole_nodes, parted_nodes, gang_order, gang_nodes, shares}

-- of different keys one number has at most one
one_key : (a : ℕ) (ks : List ℕ) → Distinct ks → sum_over (λ k. bit (eqb a k)) ks ≤ 1
unfolding sum_over
one_key a [] h = omega arith
one_key a (k ∷ ks) h =
    split
    (eqb a k)
    (λ e. let s : a ≡ k = eqb-true a k e in
    let z : sum_over (λ k. bit (eqb a k)) ks ≡ 0 =
    sum_none (λ k. bit (eqb a k)) ks (all_weaken (λ j. k ≡ j → ⊥) (λ j. bit (eqb a j) ≡ 0) ks (λ j n. rw (ne_eqb a j (λ t. n (sym s ∙ t)))) h.0) in
    rw e (omega arith))
    (λ e. rw e (omega (arith, one_key a ks h.1)))

-- how often a key is counted, one number more
count_cons : (keys : List ℕ) (x : ℕ) (l : List ℕ) (k : ℕ) → count_of keys (x ∷ l) k ≡ bit (eqb (get_or keys x 0) k) + count_of keys l k
unfolding count_of with_key only
count_cons keys x l k = split (eqb (get_or keys x 0) k) (λ e. rw e (omega arith)) (λ e. rw e (omega arith))

count_nil : (keys : List ℕ) (k : ℕ) → count_of keys [] k ≡ 0
unfolding count_of with_key only
count_nil keys k = refl

-- different keys are counted at most as often as the list is long
pub counts_apart : (keys ks l : List ℕ) → Distinct ks → sum_over (count_of keys l) ks ≤ length l
counts_apart keys ks [] h =
    omega (arith, sum_none (count_of keys []) ks (all_every (λ k. count_of keys [] k ≡ 0) ks (λ k. count_nil keys k)))
counts_apart keys ks (x ∷ l) h =
    omega (
      arith,
      counts_apart keys ks l h,
      one_key (get_or keys x 0) ks h,
      sum_add (λ k. bit (eqb (get_or keys x 0) k)) (count_of keys l) ks,
      sum_same (count_of keys (x ∷ l)) (λ k. bit (eqb (get_or keys x 0) k) + count_of keys l k) ks
          (all_every (λ k. count_of keys (x ∷ l) k ≡ bit (eqb (get_or keys x 0) k) + count_of keys l k) ks (λ k. count_cons keys x l k)),
    )

-- a share is a part of the node's eligible GPUs
share_most : (groups here : List ℕ) (per : ℕ) → length (share groups per here) ≤ length here
unfolding share with_key
share_most groups here per =
    let e : length (pick (parted groups per here) here (only (keyed groups (share_group groups per here)) here)) ≤ length here =
    pick_either (λ l. length l ≤ length here) (parted groups per here) here (only (keyed groups (share_group groups per here)) here) (omega arith)
    (only_length (keyed groups (share_group groups per here)) here) in
    omega (arith, length-take per (pick (parted groups per here) here (only (keyed groups (share_group groups per here)) here)))

module _ (nodes groups l : List ℕ) (per : ℕ) where
  share_here : (k : ℕ) → length (share_on nodes groups l per k) ≤ count_of nodes l k
  unfolding count_of
  share_here k = share_most groups (with_key nodes k l) per

  shares_sum : (ks : List ℕ) → length (shares nodes groups l per ks) ≤ sum_over (count_of nodes l) ks
  unfolding shares sum_over
  shares_sum [] = omega arith
  shares_sum (k ∷ ks) =
      omega (arith, length-append (share_on nodes groups l per k) (shares nodes groups l per ks), share_here k, shares_sum ks)

  -- the shares of different nodes are no more than the eligible GPUs
  pub shares_most : (ks : List ℕ) → Distinct ks → length (shares nodes groups l per ks) ≤ length l
  shares_most ks h = omega (arith, shares_sum ks, counts_apart nodes ks l h)

  -- no node is both penalised and not
  gang_either : (k : ℕ) → gang_node nodes groups l per false k ≡ true → gang_node nodes groups l per true k ≡ true → ⊥
  unfolding gang_node
  gang_either k a b =
      let p : parted_on nodes groups l per k ≡ true = (and_both (enough_on nodes l per k) (parted_on nodes groups l per k) b).1 in
      let q : not (parted_on nodes groups l per k) ≡ true = (and_both (enough_on nodes l per k) (not (parted_on nodes groups l per k)) a).1 in
      let r : not true ≡ true = rw p at q in
      never_both r refl

  -- a gang's nodes are different
  pub order_distinct : Distinct (gang_order nodes groups l per)
  unfolding gang_order
  order_distinct =
      distinct_append
      (whole_nodes nodes groups l per)
      (parted_nodes nodes groups l per)
      (those_distinct (gang_node nodes groups l per false) 32 0)
      (those_distinct (gang_node nodes groups l per true) 32 0)
      (all_weaken
      (λ x. (0 ≤ x) × (x < 0 + 32) × (gang_node nodes groups l per false x ≡ true))
      (λ x. Apart x (parted_nodes nodes groups l per))
      (whole_nodes nodes groups l per)
      (λ x a. all_weaken
      (λ y. (0 ≤ y) × (y < 0 + 32) × (gang_node nodes groups l per true y ≡ true))
      (λ y. x ≡ y → ⊥)
      (parted_nodes nodes groups l per)
      (λ y b e. let b : gang_node nodes groups l per true x ≡ true = rw e b.2 in gang_either x a.2 b)
      (those_each (gang_node nodes groups l per true) 32 0))
      (those_each (gang_node nodes groups l per false) 32 0))

  pub nodes_distinct : (g : ℕ) → Distinct (gang_nodes nodes groups l per g)
  unfolding gang_nodes
  nodes_distinct g = distinct_take g (gang_order nodes groups l per) order_distinct
