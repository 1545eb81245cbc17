-- The gang takes g different nodes with enough on each, those without a penalty first, then by number.
use Rattle.std.specs.Prelude.{◌≡◌, Bool, true, false, not, ◌&&◌, ◌||◌, ltb, take}
use Rattle.std.proofs.Math.Path.{refl}
use Rattle.std.proofs.Common.{sym, ap, ◌∙◌}
use Rattle.std.proofs.Math.Logic.{⊎_elim}
use mathlib.Core.List.{List, [], ◌∷◌, ◌++◌}
use Prim.Native.Nat.{ℕ, zero, suc, ◌+◌, ◌*◌, ◌≤◌, ◌<◌}
use Rattle.std.proofs.Math.Nat.{mul-suc}
use native.Mathlib.Omega.{arith}
use Rattle.std.proofs.Math.ListN.{length, get_or, length-append}
use Rattle.std.proofs.Math.Seq.{length-take-le}
use borrow.Author.Tests.{leb-true, le-leb, lt-ltb, not-true}
use Rattle.laws.specs.Choice.{pick}
use Rattle.laws.specs.Tests.{split, and_both, both_and, or_left, or_right}
use Rattle.laws.specs.Lists.{All, Apart, Distinct, all_weaken, all_append, all_take, distinct_append}
use Rattle.laws.specs.Search.{has, has_cases, has_append, Rising, those, those_has, those_each, those_rising}
use Rattle.laws.specs.Sort.{Ordered}
use Rattle.eligible.specs.Chosen.{with_key, count_of}
use Rattle.fit.specs.Right.{Of, of_key, key_distinct, Right, right_took}
use Rattle.fit.specs.GroupLaws.{key_all}
use Rattle.choice.specs.ShareLaws.{share_size, share_all, share_distinct}
use Rattle.choice.specs.Gang.{enough_on, parted_on, share_on, gang_node, whole_nodes, parted_nodes, gang_order, gang_nodes, shares, any_parted, gang_choice}
use Rattle.choice.specs.Why.{candidates}
use Rattle.choice.specs.Room.{nodes_distinct}

-- ---- general

-- two tests beside a third: together they choose as many as the third alone
those_halves : (p q : ℕ → Bool) (m i : ℕ) → length (those (λ k. p k && not (q k)) m i) + length (those (λ k. p k && q k) m i) ≡ length (those p m i)
unfolding those
those_halves p q zero i = refl
those_halves p q (suc m) i =
    let r : length (those (λ k. p k && not (q k)) m (i + 1)) + length (those (λ k. p k && q k) m (i + 1)) ≡ length (those p m (i + 1)) = those_halves p q m (i + 1) in
    split
    (p i)
    (λ a. split (q i) (λ b. rw (a, b) (omega arith)) (λ b. rw (a, b) (omega arith)))
    (λ a. rw a r)

-- a rising list whose members compare by their number is in order
ordered_rising : (before : ℕ → ℕ → Bool) (P : ℕ → Type 0) → ((x y : ℕ) → P x → P y → x < y → before x y ≡ true) → (lo : ℕ) (l : List ℕ) →
    Rising lo l → All P l → Ordered before l
ordered_rising before P f lo [] r h = tt
ordered_rising before P f lo (x ∷ l) r h = (after (x + 1) l (omega arith) r.1 h.1, ordered_rising before P f (x + 1) l r.1 h.1)
  where
    after : (lo : ℕ) (l : List ℕ) → x < lo → Rising lo l → All P l → All (λ y. before x y ≡ true) l
    after lo [] b r h = tt
    after lo (y ∷ l) b r k = (f x y h.0 k.0 (omega (arith, r.0)), after (y + 1) l (omega (arith, r.0)) r.1 k.1)

-- two lists in order, each of the first before each of the second
ordered_append : (before : ℕ → ℕ → Bool) (l r : List ℕ) → Ordered before l → Ordered before r → All (λ x. All (λ y. before x y ≡ true) r) l → Ordered before (l ++ r)
ordered_append before [] r a b h = b
ordered_append before (x ∷ l) r a b h = (all_append (λ y. before x y ≡ true) l r a.0 h.0, ordered_append before l r a.1 b h.1)

-- a front in order
ordered_take : (before : ℕ → ℕ → Bool) (n : ℕ) (l : List ℕ) → Ordered before l → Ordered before (take n l)
ordered_take before zero l h = tt
ordered_take before (suc n) [] h = tt
ordered_take before (suc n) (x ∷ l) h = (all_take (λ y. before x y ≡ true) n l h.0, ordered_take before n l h.1)

-- ---- the nodes

module _ (nodes groups l : List ℕ) (per : ℕ) where
  -- x goes before y: without a penalty before one with it, else by number
  abbrev pub node_before : ℕ → ℕ → Bool
  node_before x y = pick (parted_on nodes groups l per x) (parted_on nodes groups l per y && ltb x y) (parted_on nodes groups l per y || ltb x y)

  whole_means : (k : ℕ) → gang_node nodes groups l per false k ≡ true → (per ≤ count_of nodes l k) × (parted_on nodes groups l per k ≡ false)
  unfolding gang_node
  whole_means k h =
      let r : (enough_on nodes l per k ≡ true) × (not (parted_on nodes groups l per k) ≡ true) =
      and_both (enough_on nodes l per k) (not (parted_on nodes groups l per k)) h in
      (leb-true per (count_of nodes l k) r.0, not-true (parted_on nodes groups l per k) r.1)

  parted_means : (k : ℕ) → gang_node nodes groups l per true k ≡ true → (per ≤ count_of nodes l k) × (parted_on nodes groups l per k ≡ true)
  unfolding gang_node
  parted_means k h =
      let r : (enough_on nodes l per k ≡ true) × (parted_on nodes groups l per k ≡ true) = and_both (enough_on nodes l per k) (parted_on nodes groups l per k) h in
      (leb-true per (count_of nodes l k) r.0, r.1)

  wholes : All (λ k. (k < 32) × (per ≤ count_of nodes l k) × (parted_on nodes groups l per k ≡ false)) (whole_nodes nodes groups l per)
  wholes =
      all_weaken
      (λ k. (0 ≤ k) × (k < 0 + 32) × (gang_node nodes groups l per false k ≡ true))
      (λ k. (k < 32) × (per ≤ count_of nodes l k) × (parted_on nodes groups l per k ≡ false))
      (whole_nodes nodes groups l per)
      (λ k r. (omega (arith, r.1), (whole_means k r.2).0, (whole_means k r.2).1))
      (those_each (gang_node nodes groups l per false) 32 0)

  parts : All (λ k. (k < 32) × (per ≤ count_of nodes l k) × (parted_on nodes groups l per k ≡ true)) (parted_nodes nodes groups l per)
  parts =
      all_weaken
      (λ k. (0 ≤ k) × (k < 0 + 32) × (gang_node nodes groups l per true k ≡ true))
      (λ k. (k < 32) × (per ≤ count_of nodes l k) × (parted_on nodes groups l per k ≡ true))
      (parted_nodes nodes groups l per)
      (λ k r. (omega (arith, r.1), (parted_means k r.2).0, (parted_means k r.2).1))
      (those_each (gang_node nodes groups l per true) 32 0)

  -- each is one of the 32 nodes and has enough
  pub order_each : All (λ k. (k < 32) × (per ≤ count_of nodes l k)) (gang_order nodes groups l per)
  unfolding gang_order
  order_each =
      all_append
      (λ k. (k < 32) × (per ≤ count_of nodes l k))
      (whole_nodes nodes groups l per)
      (parted_nodes nodes groups l per)
      (all_weaken (λ k. (k < 32) × (per ≤ count_of nodes l k) × (parted_on nodes groups l per k ≡ false)) (λ k. (k < 32) × (per ≤ count_of nodes l k))
      (whole_nodes nodes groups l per) (λ k r. (r.0, r.1)) wholes)
      (all_weaken (λ k. (k < 32) × (per ≤ count_of nodes l k) × (parted_on nodes groups l per k ≡ true)) (λ k. (k < 32) × (per ≤ count_of nodes l k))
      (parted_nodes nodes groups l per) (λ k r. (r.0, r.1)) parts)

  -- none that has enough is left out
  pub order_has : (k : ℕ) → k < 32 → per ≤ count_of nodes l k → has k (gang_order nodes groups l per) ≡ true
  unfolding gang_order gang_node
  order_has k h n =
      rw (has_append k (whole_nodes nodes groups l per) (parted_nodes nodes groups l per))
      (split
      (parted_on nodes groups l per k)
      (λ e. or_right
      (has k (whole_nodes nodes groups l per))
      (has k (parted_nodes nodes groups l per))
      (those_has (gang_node nodes groups l per true) 32 0 k (omega arith) (omega arith)
      (both_and (enough_on nodes l per k) (parted_on nodes groups l per k) (le-leb per (count_of nodes l k) n) e)))
      (λ e. or_left
      (has k (whole_nodes nodes groups l per))
      (has k (parted_nodes nodes groups l per))
      (those_has (gang_node nodes groups l per false) 32 0 k (omega arith) (omega arith)
      (both_and (enough_on nodes l per k) (not (parted_on nodes groups l per k)) (le-leb per (count_of nodes l k) n) (rw e)))))

  -- there are as many as candidates
  pub order_length : length (gang_order nodes groups l per) ≡ length (candidates nodes l per)
  unfolding gang_order gang_node candidates
  order_length =
      length-append (whole_nodes nodes groups l per) (parted_nodes nodes groups l per) ∙ those_halves (enough_on nodes l per) (parted_on nodes groups l per) 32 0

  -- those without a penalty first, then by number
  pub order_ordered : Ordered node_before (gang_order nodes groups l per)
  unfolding gang_order
  order_ordered =
      ordered_append
      node_before
      (whole_nodes nodes groups l per)
      (parted_nodes nodes groups l per)
      (ordered_rising
      node_before
      (λ k. (k < 32) × (per ≤ count_of nodes l k) × (parted_on nodes groups l per k ≡ false))
      (λ x y a b h. rw (a.2, b.2) (lt-ltb x y h))
      0
      (whole_nodes nodes groups l per)
      (those_rising (gang_node nodes groups l per false) 32 0)
      wholes)
      (ordered_rising
      node_before
      (λ k. (k < 32) × (per ≤ count_of nodes l k) × (parted_on nodes groups l per k ≡ true))
      (λ x y a b h. rw (a.2, b.2) (lt-ltb x y h))
      0
      (parted_nodes nodes groups l per)
      (those_rising (gang_node nodes groups l per true) 32 0)
      parts)
      (all_weaken
      (λ k. (k < 32) × (per ≤ count_of nodes l k) × (parted_on nodes groups l per k ≡ false))
      (λ x. All (λ y. node_before x y ≡ true) (parted_nodes nodes groups l per))
      (whole_nodes nodes groups l per)
      (λ x a. all_weaken
      (λ k. (k < 32) × (per ≤ count_of nodes l k) × (parted_on nodes groups l per k ≡ true))
      (λ y. node_before x y ≡ true)
      (parted_nodes nodes groups l per)
      (λ y b. rw (a.2, b.2))
      parts)
      wholes)

  -- the nodes taken are in that order too
  pub nodes_ordered : (g : ℕ) → Ordered node_before (gang_nodes nodes groups l per g)
  unfolding gang_nodes
  nodes_ordered g = ordered_take node_before g (gang_order nodes groups l per) order_ordered

  -- and have enough each
  pub nodes_each : (g : ℕ) → All (λ k. (k < 32) × (per ≤ count_of nodes l k)) (gang_nodes nodes groups l per g)
  unfolding gang_nodes
  nodes_each g = all_take (λ k. (k < 32) × (per ≤ count_of nodes l k)) g (gang_order nodes groups l per) order_each

  -- there are g if there are as many candidates
  pub nodes_length : (g : ℕ) → g ≤ length (candidates nodes l per) → length (gang_nodes nodes groups l per g) ≡ g
  unfolding gang_nodes
  nodes_length g h = length-take-le g (gang_order nodes groups l per) (rw order_length h)

  -- ---- the shares

  -- each GPU of a share stands on its node
  pub share_node : (k : ℕ) → All (λ x. get_or nodes x 0 ≡ k) (share_on nodes groups l per k)
  share_node k = share_all groups (with_key nodes k l) per (λ x. get_or nodes x 0 ≡ k) (key_all nodes l k)

  -- each node gives per
  pub shares_size : (ks : List ℕ) → All (λ k. (k < 32) × (per ≤ count_of nodes l k)) ks → length (shares nodes groups l per ks) ≡ per * length ks
  unfolding shares count_of
  shares_size [] h = omega arith
  shares_size (k ∷ ks) h =
      let e : per * suc (length ks) ≡ per * length ks + per = mul-suc per (length ks) in
      omega (
        arith,
        length-append (share_on nodes groups l per k) (shares nodes groups l per ks),
        share_size groups (with_key nodes k l) per h.0.1,
        shares_size ks h.1,
      )

  -- each is an eligible GPU
  pub shares_of : (ks : List ℕ) → Of l (shares nodes groups l per ks)
  unfolding shares
  shares_of [] = tt
  shares_of (k ∷ ks) =
      all_append (λ x. has x l ≡ true) (share_on nodes groups l per k) (shares nodes groups l per ks)
      (share_all groups (with_key nodes k l) per (λ x. has x l ≡ true) (of_key nodes l k)) (shares_of ks)

  shares_elsewhere : (k : ℕ) (ks : List ℕ) → Apart k ks → All (λ x. get_or nodes x 0 ≡ k → ⊥) (shares nodes groups l per ks)
  unfolding shares
  shares_elsewhere k [] h = tt
  shares_elsewhere k (j ∷ ks) h =
      all_append
      (λ x. get_or nodes x 0 ≡ k → ⊥)
      (share_on nodes groups l per j)
      (shares nodes groups l per ks)
      (all_weaken (λ x. get_or nodes x 0 ≡ j) (λ x. get_or nodes x 0 ≡ k → ⊥) (share_on nodes groups l per j) (λ x a b. h.0 (sym b ∙ a)) (share_node j))
      (shares_elsewhere k ks h.1)

  -- none is given twice
  pub shares_distinct : (ks : List ℕ) → Distinct l → Distinct ks → Distinct (shares nodes groups l per ks)
  unfolding shares
  shares_distinct [] d h = tt
  shares_distinct (k ∷ ks) d h =
      distinct_append
      (share_on nodes groups l per k)
      (shares nodes groups l per ks)
      (share_distinct groups (with_key nodes k l) per (key_distinct nodes l k d))
      (shares_distinct ks d h.1)
      (all_weaken
      (λ x. get_or nodes x 0 ≡ k)
      (λ x. Apart x (shares nodes groups l per ks))
      (share_on nodes groups l per k)
      (λ x a. all_weaken (λ y. get_or nodes y 0 ≡ k → ⊥) (λ y. x ≡ y → ⊥) (shares nodes groups l per ks)
      (λ y n e. n (sym (ap (λ (z : ℕ). get_or nodes z 0) e) ∙ a)) (shares_elsewhere k ks h.0))
      (share_node k))

  -- ---- the penalty

  -- one penalised node penalises the job
  pub parted_some : (ks : List ℕ) (k : ℕ) → has k ks ≡ true → parted_on nodes groups l per k ≡ true → any_parted nodes groups l per ks ≡ true
  unfolding any_parted
  parted_some [] k h p = h
  parted_some (j ∷ ks) k h p =
      ⊎_elim
      (λ e. or_left (parted_on nodes groups l per j) (any_parted nodes groups l per ks) (rw e at p))
      (λ e. or_right (parted_on nodes groups l per j) (any_parted nodes groups l per ks) (parted_some ks k e p))
      (has_cases k j ks h)

  -- without one there is no penalty
  pub parted_no : (ks : List ℕ) → All (λ k. parted_on nodes groups l per k ≡ false) ks → any_parted nodes groups l per ks ≡ false
  unfolding any_parted
  parted_no [] h = refl
  parted_no (k ∷ ks) h = rw h.0 (parted_no ks h.1)

  -- ---- all together

  -- the gang choice is a right choice
  pub gang_right : (g count : ℕ) → Distinct l → g ≤ length (candidates nodes l per) → per * g ≡ count → Right l count (gang_choice nodes groups l per g)
  unfolding gang_choice
  gang_right g count d h e =
      right_took
      l
      (shares nodes groups l per (gang_nodes nodes groups l per g))
      count
      (any_parted nodes groups l per (gang_nodes nodes groups l per g))
      (shares_size (gang_nodes nodes groups l per g) (nodes_each g) ∙ rw (nodes_length g h) e)
      (shares_of (gang_nodes nodes groups l per g))
      (shares_distinct (gang_nodes nodes groups l per g) d (nodes_distinct nodes groups l per g))
