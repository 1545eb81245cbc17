-- The cases of the choices, one for each return of the code, and the turns of the loops.
use Rattle.std.specs.Prelude.{◌≡◌, Bool, true, not, ◌||◌, ℕ, ◌+◌, ◌≤◌, ◌<◌, leb, ltb, length, get_or, Option, Some, None}
use Rattle.std.specs.List.{position, position_or_len}
use Rattle.std.proofs.Math.Path.{refl}
use Rattle.std.proofs.Common.{sym, ◌∙◌, ⊎_elim, arith, length-append, length-take, take-take, le-leb}
use Rattle.std.proofs.Math.Bool.{false}
use mathlib.Core.Bool.{beq}
use mathlib.Core.List.{List, [], ◌∷◌, ◌++◌, append_assoc, append-nil}
use Rattle.std.proofs.Math.ListN.{take}
use Rattle.std.proofs.Math.Seq.{take_all}
use Rattle.std.proofs.lemmas.List.{take-append-le}
use Rattle.std.proofs.lemmas.List.Sums.{position_or_len_is}
use Rattle.std.proofs.lemmas.Option.{none-some, cond_some}
use Rattle.std.proofs.lemmas.Bool.{lt-leb}
use borrow.Author.Tests.{ltb-true, ltb-false}
use Rattle.laws.specs.Choice.{pick}
use Rattle.laws.specs.Tests.{split, le_or_lt}
use Rattle.laws.specs.Search.{first, first_range, first_before, first_has, those_length}
use Rattle.eligible.specs.Chosen.{chosen, list_of, with_key, count_of, tally_of}
use Rattle.eligible.specs.More.{take_next, each_length}
use Rattle.eligible.specs.Turns as Turns
use Rattle.eligible.specs.declared.chosen.Chosen.{Chosen}
use Rattle.fit.specs.declared.first.Choice.{Choice}
use Rattle.fit.specs.First.{held, took}
use Rattle.fit.specs.Cases.{take_held}
use Rattle.choice.specs.Share.{share_group, parted, share}
use Rattle.choice.specs.Gang.{parted_on, share_on, gang_node, whole_nodes, parted_nodes, gang_order, gang_nodes, shares, any_parted, gang_choice}
use Rattle.choice.specs.Room.{shares_most, nodes_distinct}

-- a test beside one that fails
or_false : (b : Bool) → b || false ≡ b
or_false true = refl
or_false false = refl

-- ---- the share of a node

-- the first place of a list that passes is the first number whose entry does
place_first : (q : ℕ → Bool) (xs : List ℕ) → position_or_len q xs ≡ first (λ k. q (get_or xs k 0)) (length xs) 0
place_first q xs =
    let r : (0 ≤ first (λ k. q (get_or xs k 0)) (length xs) 0) × (first (λ k. q (get_or xs k 0)) (length xs) 0 ≤ 0 + length xs) =
    first_range (λ k. q (get_or xs k 0)) (length xs) 0 in
    position_or_len_is q xs (first (λ k. q (get_or xs k 0)) (length xs) 0) 0 (omega (arith, r.1))
    (λ k h. first_before (λ k. q (get_or xs k 0)) (length xs) 0 k (omega arith) h)
    (λ h. first_has (λ k. q (get_or xs k 0)) (length xs) 0 (omega arith))

module _ (groups here counts : List ℕ) (per : ℕ) (taken : Chosen) (r : Choice) (o : Option ℕ) (t : counts ≡ tally_of groups here)
    (p : o ≡ position (λ x. leb per x) counts) where
  tally_length : length counts ≡ 257
  unfolding tally_of
  tally_length = rw t (each_length (count_of groups here) 257 0)

  found : position_or_len (λ x. leb per x) counts ≡ share_group groups per here
  unfolding share_group
  found = place_first (λ x. leb per x) counts ∙ rw (tally_length, t)

  -- a group has enough
  pub share_one : (key : ℕ) (same : Chosen) → o ≡ Some key → same ≡ chosen (with_key groups key here) → taken ≡ chosen (take per (list_of same)) →
      r ≡ held taken false → r ≡ took (share groups per here) (parted groups per here)
  unfolding share parted
  share_one key same h s e f =
      let c : (ltb (position_or_len (λ x. leb per x) counts) (length counts) ≡ true) × (position_or_len (λ x. leb per x) counts ≡ key) =
      cond_some (ltb (position_or_len (λ x. leb per x) counts) (length counts)) (position_or_len (λ x. leb per x) counts) key (sym p ∙ h) in
      let b : share_group groups per here < 257 =
      omega (arith, found, tally_length, ltb-true (position_or_len (λ x. leb per x) counts) (length counts) c.0) in
      let s : same ≡ chosen (with_key groups (share_group groups per here) here) = rw (← c.1, found) at s in
      rw (lt-leb 257 (share_group groups per here) b)
      (take_held same taken (with_key groups (share_group groups per here) here) per false r s e f)

  -- none has
  pub share_none : o ≡ None → taken ≡ chosen (take per here) → r ≡ held taken true → r ≡ took (share groups per here) (parted groups per here)
  unfolding share parted
  share_none h e f =
      split
      (ltb (position_or_len (λ x. leb per x) counts) (length counts))
      (λ l. absurd (none-some (position_or_len (λ x. leb per x) counts) (sym h ∙ p ∙ rw l)))
      (λ l. let b : 257 ≤ share_group groups per here =
      omega (arith, found, tally_length, ltb-false (position_or_len (λ x. leb per x) counts) (length counts) l) in
      rw (le-leb 257 (share_group groups per here) b) (f ∙ rw e))

-- ---- the nodes of a gang

module _ (nodes groups l counts : List ℕ) (per k : ℕ) (penalised : Bool) (t : counts ≡ tally_of nodes l) (b : k < 257)
    (n : ℕ) (c : n ≡ get_or counts k 0) where
  counted_here : n ≡ count_of nodes l k
  counted_here = c ∙ rw t (Turns.tally_at nodes l k b)

  -- the node has not enough
  pub node_few : n < per → leb per n ≡ gang_node nodes groups l per penalised k
  unfolding gang_node
  node_few h = rw (counted_here, lt-leb per (count_of nodes l k) (omega (arith, counted_here)))

  -- it has enough, with a penalty or without
  pub node_enough : (here : Chosen) (s : Choice) → per ≤ n → here ≡ chosen (with_key nodes k l) →
      s ≡ took (share groups per (list_of here)) (parted groups per (list_of here)) →
      beq s.penalised penalised ≡ gang_node nodes groups l per penalised k
  unfolding gang_node
  node_enough here s h e f =
      rw (le-leb per (count_of nodes l k) (omega (arith, counted_here)), f, (Turns.held here (with_key nodes k l) e).0)
      (as_asked (parted_on nodes groups l per k) penalised)
    where
      as_asked : (a b : Bool) → beq a b ≡ pick b a (not a)
      as_asked true true = refl
      as_asked true false = refl
      as_asked false true = refl
      as_asked false false = refl

-- the nodes without a penalty and behind them the others, the first g
pub order_held : (nodes groups l : List ℕ) (per g : ℕ) (whole part both taken : Chosen) → whole ≡ chosen (whole_nodes nodes groups l per) →
    part ≡ chosen (parted_nodes nodes groups l per) → both ≡ chosen (take 128 (list_of whole ++ list_of part)) →
    taken ≡ chosen (take g (list_of both)) → taken ≡ chosen (gang_nodes nodes groups l per g)
unfolding gang_nodes gang_order
order_held nodes groups l per g whole part both taken a b d e =
    let n : take 128 (whole_nodes nodes groups l per ++ parted_nodes nodes groups l per) ≡
    whole_nodes nodes groups l per ++ parted_nodes nodes groups l per =
    take_all 128 (whole_nodes nodes groups l per ++ parted_nodes nodes groups l per)
    (omega (
      arith,
      length-append (whole_nodes nodes groups l per) (parted_nodes nodes groups l per),
      those_length (gang_node nodes groups l per false) 32 0,
      those_length (gang_node nodes groups l per true) 32 0,
    )) in
    let m : both ≡ chosen (whole_nodes nodes groups l per ++ parted_nodes nodes groups l per) =
    d ∙ rw ((Turns.held whole (whole_nodes nodes groups l per) a).0, (Turns.held part (parted_nodes nodes groups l per) b).0, n) in
    e ∙ rw (Turns.held both (whole_nodes nodes groups l per ++ parted_nodes nodes groups l per) m).0

-- ---- the shares of a gang

-- a front that was cut before
take_front : (n : ℕ) (a b : List ℕ) → take n (take n a ++ b) ≡ take n (a ++ b)
take_front n a b =
    ⊎_elim
    (λ h. rw (take_all n a h))
    (λ h. let l : length (take n a) ≡ n = omega (arith, length-take n a) in
    rw (take-append-le n (take n a) b (omega arith), take-append-le n a b (omega arith)) (take-take n n a (omega arith)))
    (le_or_lt (length a) n)

module _ (nodes groups l : List ℕ) (per : ℕ) where
  shares_append : (ks js : List ℕ) → shares nodes groups l per (ks ++ js) ≡ shares nodes groups l per ks ++ shares nodes groups l per js
  unfolding shares
  shares_append [] js = refl
  shares_append (k ∷ ks) js =
      rw (shares_append ks js) (sym (append_assoc (share_on nodes groups l per k) (shares nodes groups l per ks) (shares nodes groups l per js)))

  shares_next : (ids : List ℕ) (i : ℕ) → i < length ids →
      shares nodes groups l per (take (i + 1) ids) ≡ shares nodes groups l per (take i ids) ++ share_on nodes groups l per (get_or ids i 0)
  unfolding shares
  shares_next ids i h =
      rw (take_next ids i 0 h, shares_append (take i ids) (get_or ids i 0 ∷ []), append-nil)

  parted_append : (ks js : List ℕ) → any_parted nodes groups l per (ks ++ js) ≡ any_parted nodes groups l per ks || any_parted nodes groups l per js
  unfolding any_parted
  parted_append [] js = refl
  parted_append (k ∷ ks) js =
      split
      (parted_on nodes groups l per k)
      (λ e. rw e)
      (λ e. rw e (parted_append ks js))

  -- one node more
  parted_next : (ids : List ℕ) (i : ℕ) → i < length ids →
      any_parted nodes groups l per (take (i + 1) ids) ≡ any_parted nodes groups l per (take i ids) || parted_on nodes groups l per (get_or ids i 0)
  unfolding any_parted
  parted_next ids i h =
      rw (take_next ids i 0 h, parted_append (take i ids) (get_or ids i 0 ∷ []), or_false (parted_on nodes groups l per (get_or ids i 0)))

  module _ (ids : List ℕ) (i : ℕ) (within : i < length ids) (here : Chosen) (s : Choice) (e : here ≡ chosen (with_key nodes (get_or ids i 0) l))
      (f : s ≡ took (share groups per (list_of here)) (parted groups per (list_of here))) where
    its_share : s ≡ took (share_on nodes groups l per (get_or ids i 0)) (parted_on nodes groups l per (get_or ids i 0))
    its_share = rw (Turns.held here (with_key nodes (get_or ids i 0) l) e).0 at f

    -- a turn adds the share of the node at hand
    pub share_turn : (more : List ℕ) (joined : Chosen) → more ≡ list_of s.chosen →
        joined ≡ chosen (take 128 (take 128 (shares nodes groups l per (take i ids)) ++ more)) →
        joined ≡ chosen (take 128 (shares nodes groups l per (take (i + 1) ids)))
    share_turn more joined a j =
        let m : s.chosen ≡ chosen (share_on nodes groups l per (get_or ids i 0)) = rw its_share in
        j ∙ rw (
          a,
          (Turns.held s.chosen (share_on nodes groups l per (get_or ids i 0)) m).0,
          take_front 128 (shares nodes groups l per (take i ids)) (share_on nodes groups l per (get_or ids i 0)),
          shares_next ids i within,
        )

    -- and its penalty
    pub parted_turn : (p q : Bool) → p ≡ any_parted nodes groups l per (take i ids) → q ≡ (p || s.penalised) →
        q ≡ any_parted nodes groups l per (take (i + 1) ids)
    parted_turn p q a b = b ∙ rw (a, its_share) (sym (parted_next ids i within))

  -- after the last node
  pub gang_done : (g k : ℕ) (ids : List ℕ) (taken all : Chosen) (p : Bool) (r : Choice) → taken ≡ chosen (gang_nodes nodes groups l per g) →
      ids ≡ list_of taken → length ids ≤ k → length l ≤ 128 → all ≡ chosen (take 128 (shares nodes groups l per (take k ids))) →
      p ≡ any_parted nodes groups l per (take k ids) → r ≡ held all p → r ≡ gang_choice nodes groups l per g
  unfolding gang_choice
  gang_done g k ids taken all p r t e m h a b d =
      let n : ids ≡ gang_nodes nodes groups l per g = e ∙ (Turns.held taken (gang_nodes nodes groups l per g) t).0 in
      let w : take 128 (shares nodes groups l per (gang_nodes nodes groups l per g)) ≡ shares nodes groups l per (gang_nodes nodes groups l per g) =
      take_all 128 (shares nodes groups l per (gang_nodes nodes groups l per g))
      (omega (arith, shares_most nodes groups l per (gang_nodes nodes groups l per g) (nodes_distinct nodes groups l per g))) in
      d ∙ rw (a, b, take_all k ids m, n, w)
