-- Best fit: the node with least left over, the lowest on a tie; otherwise node by node, the fullest first.
use Rattle.std.specs.Prelude.{◌≡◌, ◌⊎◌, ◌&&◌, List, map, leb, take}
use Rattle.std.proofs.Math.Path.{refl, sym}
use Rattle.std.proofs.Common.{◌∙◌, arith}
use Rattle.std.proofs.Math.Logic.{inl, inr, ⊎_elim}
use Rattle.std.proofs.Math.Bool.{Bool, true, false}
use Prim.Native.Nat.{ℕ, ◌-◌, ◌≤◌, ◌<◌}
use Rattle.std.proofs.Math.Dec.{ltb}
use Rattle.std.proofs.Math.ListN.{length, get_or, get_or-map}
use Rattle.std.proofs.lemmas.List.{length-map}
use borrow.Author.Tests.{leb-true, ltb-true, le-leb, lt-leb, lt-ltb, eqb-true}
use Rattle.laws.specs.Choice.{pick_cases}
use Rattle.laws.specs.Tests.{and_both, le_or_lt}
use Rattle.laws.specs.Lists.{All, Distinct, all_at, all_weaken}
use Rattle.laws.specs.Tables.{get_d_any}
use Rattle.laws.specs.Greatest.{argmin_below, argmin_whole, argmin_whole_first}
use Rattle.laws.specs.Search.{has}
use Rattle.laws.specs.Sort.{sort, sort_all, sort_length, sort_distinct, sort_ordered, ordered_at, sort_stable}
use Rattle.order.specs.OrderLaws.{by_second, by_cases, by_order}
use Rattle.eligible.specs.Chosen.{keyed, with_key, count_of, tally_of}
use Rattle.eligible.specs.More.{only_same}
use Rattle.eligible.specs.Turns.{tally_at, tally_past, count_most}
use Rattle.fit.specs.First.{took}
use Rattle.fit.specs.Group.{counted}
use Rattle.fit.specs.Best.{left_over, best_node, best_held, rank, rank_keys, fuller, fullest_first, best_fit}
use Rattle.fit.specs.Right.{Right, of_self, of_key, key_distinct, right_first}

module _ (nodes l : List ℕ) (count : ℕ) (small : length l ≤ 128) where
  -- what a node that holds the job has left over
  left_held : (k : ℕ) → k < 32 → count ≤ count_of nodes l k → left_over (tally_of nodes l) count k ≡ count_of nodes l k - count
  unfolding left_over
  left_held k h n =
      rw (tally_at nodes l k (omega arith), le-leb count (count_of nodes l k) n)

  left_not : (k : ℕ) → k < 32 → count_of nodes l k < count → left_over (tally_of nodes l) count k ≡ 129
  unfolding left_over
  left_not k h n = rw (tally_at nodes l k (omega arith), lt-leb count (count_of nodes l k) n)

  -- it is one of the 32 nodes
  pub best_below : best_node (tally_of nodes l) count < 32
  unfolding best_node
  best_below = argmin_below (left_over (tally_of nodes l) count) 32 32 0 0 (omega arith) (omega arith)

  best_least : (k : ℕ) → k < 32 → left_over (tally_of nodes l) count (best_node (tally_of nodes l) count) ≤ left_over (tally_of nodes l) count k
  unfolding best_node
  best_least k h = argmin_whole (left_over (tally_of nodes l) count) 32 k h

  best_before : (k : ℕ) → k < best_node (tally_of nodes l) count → left_over (tally_of nodes l) count (best_node (tally_of nodes l) count) < left_over (tally_of nodes l) count k
  unfolding best_node
  best_before k h = argmin_whole_first (left_over (tally_of nodes l) count) 32 k h

  best_count : length (best_held nodes l count) ≡ count_of nodes l (best_node (tally_of nodes l) count)
  unfolding best_held count_of
  best_count = refl

  -- where a node holds the job, the node chosen does
  pub best_holds : (k : ℕ) → k < 32 → count ≤ count_of nodes l k → count ≤ length (best_held nodes l count)
  best_holds k h n =
      ⊎_elim
      (λ e. e)
      (λ e. absurd (omega (
        arith,
        best_count,
        left_not (best_node (tally_of nodes l) count) best_below (omega (arith, best_count)),
        left_held k h n,
        best_least k h,
        count_most nodes l k,
      )))
      (le_or_lt count (length (best_held nodes l count)))

  -- and has least left over
  pub best_left : (k : ℕ) → k < 32 → count ≤ count_of nodes l k → length (best_held nodes l count) - count ≤ count_of nodes l k - count
  best_left k h n =
      let a : count ≤ count_of nodes l (best_node (tally_of nodes l) count) = rw (← best_count) (best_holds k h n) in
      rw (best_count, ← left_held (best_node (tally_of nodes l) count) best_below a, ← left_held k h n) (best_least k h)

  -- and the lowest number on a tie: a node before it that holds the job has more left over
  pub best_lowest : (k : ℕ) → k < best_node (tally_of nodes l) count → count ≤ count_of nodes l k → length (best_held nodes l count) - count < count_of nodes l k - count
  best_lowest k h n =
      let b : k < 32 = omega (arith, best_below) in
      let a : count ≤ count_of nodes l (best_node (tally_of nodes l) count) = rw (← best_count) (best_holds k b n) in
      rw (best_count, ← left_held (best_node (tally_of nodes l) count) best_below a, ← left_held k b n) (best_before k h)

  -- where a node holds the job, its first count on the node chosen
  pub best_enough : (k : ℕ) → k < 32 → count ≤ count_of nodes l k → best_fit nodes l count ≡ take count (best_held nodes l count)
  unfolding best_fit
  best_enough k h n = rw (le-leb count (length (best_held nodes l count)) (best_holds k h n))

  -- where none does, the first count node by node
  pub best_few : ((k : ℕ) → k < 32 → count_of nodes l k < count) → best_fit nodes l count ≡ take count (fullest_first nodes l)
  unfolding best_fit
  best_few f =
      rw (lt-leb count (length (best_held nodes l count)) (rw best_count (f (best_node (tally_of nodes l) count) best_below)))

-- ---- node by node

module _ (nodes l : List ℕ) (small : length l ≤ 128) where
  -- the eligible GPUs on the node of x
  abbrev pub beside : ℕ → ℕ
  beside x = counted (tally_of nodes l) (get_or nodes x 0)

  beside_small : (x : ℕ) → beside x ≤ 128
  beside_small x =
      ⊎_elim
      (λ h. omega (arith, tally_past nodes l (get_or nodes x 0) h))
      (λ h. omega (arith, tally_at nodes l (get_or nodes x 0) h, count_most nodes l (get_or nodes x 0)))
      (le_or_lt 257 (get_or nodes x 0))

  rank_at : (x : ℕ) → x < length nodes → get_or (rank_keys (tally_of nodes l) nodes) x 0 ≡ 128 - beside x
  unfolding rank_keys
  rank_at x h =
      get_d_any (map (rank (tally_of nodes l)) nodes) x 0 (rank (tally_of nodes l) 0) (rw (length-map nodes (rank (tally_of nodes l))) h)
      ∙ get_or-map (rank (tally_of nodes l)) nodes x 0

  -- an earlier place has a GPU on a node with more, or with as many and no greater number
  pub fuller_order : (i j : ℕ) → All (λ x. x < length nodes) l → i < j → j < length l →
      (beside (get_or (fullest_first nodes l) j 0) < beside (get_or (fullest_first nodes l) i 0)) ⊎
      ((beside (get_or (fullest_first nodes l) i 0) ≡ beside (get_or (fullest_first nodes l) j 0)) ×
      (get_or nodes (get_or (fullest_first nodes l) i 0) 0 ≤ get_or nodes (get_or (fullest_first nodes l) j 0) 0))
  unfolding fullest_first
  fuller_order i j all h b =
      let n : length (sort (fuller nodes l) l) ≡ length l = sort_length (fuller nodes l) l in
      let r : All (λ x. x < length nodes) (sort (fuller nodes l) l) = sort_all (fuller nodes l) (λ x. x < length nodes) l all in
      placed
      (get_or (sort (fuller nodes l) l) i 0)
      (get_or (sort (fuller nodes l) l) j 0)
      (all_at (λ x. x < length nodes) (sort (fuller nodes l) l) i 0 r (omega arith))
      (all_at (λ x. x < length nodes) (sort (fuller nodes l) l) j 0 r (omega arith))
      (ordered_at (fuller nodes l) (sort (fuller nodes l) l) i j 0
      (sort_ordered (fuller nodes l) (by_order false (rank_keys (tally_of nodes l) nodes) nodes) l) h (omega arith))
    where
      placed : (x y : ℕ) → x < length nodes → y < length nodes → fuller nodes l x y ≡ true →
          (beside y < beside x) ⊎ ((beside x ≡ beside y) × (get_or nodes x 0 ≤ get_or nodes y 0))
      placed x y a b e =
          ⊎_elim
          (λ h. inl (omega (arith, h, rank_at x a, rank_at y b)))
          (λ h. inr (omega (arith, h.0, rank_at x a, rank_at y b, beside_small x, beside_small y), h.1))
          (by_cases false (rank_keys (tally_of nodes l) nodes) nodes x y e)

  -- the GPUs of one node keep their table order
  pub fuller_stable : (k : ℕ) → All (λ x. x < length nodes) l → with_key nodes k (fullest_first nodes l) ≡ with_key nodes k l
  unfolding fullest_first with_key
  fuller_stable k all =
      only_same (keyed nodes k) (in_range k) (sort (fuller nodes l) l) (within k (sort (fuller nodes l) l) (sort_all (fuller nodes l) (λ x. x < length nodes) l all))
      ∙ sort_stable (fuller nodes l) (in_range k) (alike k) l
      ∙ sym (only_same (keyed nodes k) (in_range k) l (within k l all))
    where
      in_range : ℕ → ℕ → Bool
      in_range k x = ltb x (length nodes) && keyed nodes k x

      within : (k : ℕ) (r : List ℕ) → All (λ x. x < length nodes) r → All (λ x. keyed nodes k x ≡ in_range k x) r
      within k r h = all_weaken (λ x. x < length nodes) (λ x. keyed nodes k x ≡ in_range k x) r (λ x a. rw (lt-ltb x (length nodes) a)) h

      alike : (k x y : ℕ) → in_range k x ≡ true → in_range k y ≡ true → fuller nodes l x y ≡ true
      alike k x y a b =
          let p : (ltb x (length nodes) ≡ true) × (keyed nodes k x ≡ true) = and_both (ltb x (length nodes)) (keyed nodes k x) a in
          let q : (ltb y (length nodes) ≡ true) × (keyed nodes k y ≡ true) = and_both (ltb y (length nodes)) (keyed nodes k y) b in
          let u : get_or nodes x 0 ≡ k = eqb-true (get_or nodes x 0) k p.1 in
          let v : get_or nodes y 0 ≡ k = eqb-true (get_or nodes y 0) k q.1 in
          let f : get_or (rank_keys (tally_of nodes l) nodes) x 0 ≡ get_or (rank_keys (tally_of nodes l) nodes) y 0 =
          rank_at x (ltb-true x (length nodes) p.0) ∙ rw (u, ← v) (sym (rank_at y (ltb-true y (length nodes) q.0))) in
          by_second false (rank_keys (tally_of nodes l) nodes) nodes x y f (omega arith)

-- ---- both together

-- best fit is a right choice
pub best_right : (nodes l : List ℕ) (count : ℕ) → Distinct l → count ≤ length l → Right l count (took (best_fit nodes l count) false)
unfolding best_fit best_held fullest_first
best_right nodes l count d n =
    pick_cases
    (λ r. Right l count (took (take count r) false))
    (leb count (length (best_held nodes l count)))
    (best_held nodes l count)
    (fullest_first nodes l)
    (λ e. right_first l (best_held nodes l count) count false (leb-true count (length (best_held nodes l count)) e)
    (of_key nodes l (best_node (tally_of nodes l) count)) (key_distinct nodes l (best_node (tally_of nodes l) count) d))
    (λ e. right_first
    l
    (fullest_first nodes l)
    count
    false
    (omega (arith, sort_length (fuller nodes l) l))
    (sort_all (fuller nodes l) (λ k. has k l ≡ true) l (of_self l))
    (sort_distinct (fuller nodes l) l d))
