-- The choice as a whole: room exactly where count GPUs are chosen, each eligible and none twice, and the penalty as the rules say.
use Rattle.std.specs.Prelude.{◌≡◌, refl, Bool, ◌||◌, List, [], ℕ, ◌/◌, ◌%◌, ◌≤◌, ◌<◌, leb, eqb, Option, Some, None, is_some}
use Rattle.std.proofs.Math.Path.{sym}
use Rattle.std.proofs.Common.{◌∙◌, arith}
use Rattle.std.proofs.Math.Bool.{true, false}
use Rattle.std.proofs.Math.Nat.{div-add-mod'}
use Rattle.std.proofs.Math.ListN.{length}
use Rattle.std.proofs.lemmas.Option.{none-some, same_Some}
use borrow.Author.Tests.{leb-true, eqb-true, eqb-false}
use Rattle.laws.specs.Choice.{pick, pick_cases}
use Rattle.laws.specs.Tests.{split, never_both}
use Rattle.laws.specs.Lists.{All, Distinct, all_weaken}
use Rattle.laws.specs.Search.{has}
use Rattle.model.specs.declared.gpu.Gpu.{Gpu}
use Rattle.model.specs.declared.job.Ask.{Ask}
use Rattle.eligible.specs.Keys.{node_keys, group_keys}
use Rattle.eligible.specs.Eligible.{may_take, eligibles}
use Rattle.eligible.specs.Laws.{eligibles_in, eligibles_distinct}
use Rattle.fit.specs.declared.first.Choice.{Choice}
use Rattle.fit.specs.First.{took, first_fit}
use Rattle.fit.specs.Group.{group_choice}
use Rattle.fit.specs.Best.{best_fit}
use Rattle.fit.specs.Right.{got, Right, first_right}
use Rattle.fit.specs.GroupLaws.{group_right}
use Rattle.fit.specs.BestLaws.{best_right}
use Rattle.choice.specs.Gang.{gang_nodes, gang_choice, any_parted}
use Rattle.choice.specs.GangLaws.{gang_right}
use Rattle.choice.specs.Why.{is_enough, is_gang, candidates, why_not_gang, why_not}
use Rattle.choice.specs.Choose.{choice_of, why_not_here, choose, got_of, penalised_of}

-- ---- the cause

module _ (nodes l : List ℕ) where
  -- a gang has room: count a multiple of g, and g candidates
  pub gang_room : (count g : ℕ) → is_enough (why_not_gang nodes l count g) ≡ true → (count % g ≡ 0) × (g ≤ length (candidates nodes l (count / g)))
  unfolding why_not_gang
  gang_room count g h =
      split
      (eqb (count % g) 0)
      (λ a. split
      (leb g (length (candidates nodes l (count / g))))
      (λ b. (eqb-true (count % g) 0 a, leb-true g (length (candidates nodes l (count / g))) b))
      (λ b. absurd (never_both (rw (a, b) at h) refl)))
      (λ a. absurd (never_both (rw a at h) refl))

  module _ (ask : Ask) where
    -- a job with room asks for some GPU
    pub room_count : is_enough (why_not nodes l ask) ≡ true → 0 < ask.count
    unfolding why_not
    room_count h =
        split
        (eqb ask.count 0)
        (λ a. absurd (never_both (rw a at h) refl))
        (λ a. let n : ask.count ≡ 0 → ⊥ = eqb-false ask.count 0 a in omega arith)

    -- a gang with room has it by the gang's rule
    pub room_gang : is_gang ask ≡ true → is_enough (why_not nodes l ask) ≡ true → is_enough (why_not_gang nodes l ask.count ask.nodes) ≡ true
    unfolding why_not
    room_gang g h =
        split (eqb ask.count 0) (λ a. absurd (never_both (rw a at h) refl)) (λ a. rw (a, g) at h)

    -- any other has count eligible GPUs
    pub room_others : is_gang ask ≡ false → is_enough (why_not nodes l ask) ≡ true → ask.count ≤ length l
    unfolding why_not
    room_others g h =
        split
        (eqb ask.count 0)
        (λ a. absurd (never_both (rw a at h) refl))
        (λ a. split
        (leb ask.count (length l))
        (λ b. leb-true ask.count (length l) b)
        (λ b. absurd (never_both (rw (a, g, b) at h) refl)))

-- ---- the choice among the eligible

module _ (nodes groups l : List ℕ) (ask : Ask) (best : Bool) where
  -- with room it is a right choice
  pub choice_right : Distinct l → is_enough (why_not nodes l ask) ≡ true → Right l ask.count (choice_of nodes groups l ask best)
  unfolding choice_of
  choice_right d h =
      pick_cases
      (λ c. Right l ask.count c)
      (is_gang ask)
      (gang_choice nodes groups l (ask.count / ask.nodes) ask.nodes)
      (pick (ask.gang || ask.network) (group_choice groups l ask.count) (took (pick best (best_fit nodes l ask.count) (first_fit l ask.count)) false))
      (λ g. let r : (ask.count % ask.nodes ≡ 0) × (ask.nodes ≤ length (candidates nodes l (ask.count / ask.nodes))) =
      gang_room nodes l ask.count ask.nodes (room_gang nodes l ask g h) in
      gang_right nodes groups l (ask.count / ask.nodes) ask.nodes ask.count d r.1 (omega (arith, r.0, div-add-mod' ask.count ask.nodes)))
      (λ g. let n : ask.count ≤ length l = room_others nodes l ask g h in
      pick_cases
      (λ c. Right l ask.count c)
      (ask.gang || ask.network)
      (group_choice groups l ask.count)
      (took (pick best (best_fit nodes l ask.count) (first_fit l ask.count)) false)
      (λ f. group_right groups l ask.count d n)
      (λ f. pick_cases
      (λ r. Right l ask.count (took r false))
      best
      (best_fit nodes l ask.count)
      (first_fit l ask.count)
      (λ b. best_right nodes l ask.count d n)
      (λ b. first_right l ask.count false d n)))

  -- the penalty of a gang is that of its nodes
  pub penalty_gang : is_gang ask ≡ true → (choice_of nodes groups l ask best).penalised ≡ any_parted nodes groups l (ask.count / ask.nodes)
      (gang_nodes nodes groups l (ask.count / ask.nodes) ask.nodes)
  unfolding choice_of gang_choice
  penalty_gang g = rw g

  -- with the gang flag or network demand, and no gang nodes, that of the choice of one group
  pub penalty_group : is_gang ask ≡ false → ask.gang || ask.network ≡ true → choice_of nodes groups l ask best ≡ group_choice groups l ask.count
  unfolding choice_of
  penalty_group g f = rw (g, f)

  -- with neither there is none
  pub penalty_none : ask.gang ≡ false → ask.network ≡ false → (choice_of nodes groups l ask best).penalised ≡ false
  unfolding choice_of
  penalty_none f n = rw (f, n)

-- ---- the choice among all

module _ (gpus : List Gpu) (n : ℕ) (sites : List ℕ) (ask : Ask) (best : Bool) where
  -- where there is room it is the choice among the eligible
  pub choose_room : is_enough (why_not_here gpus n sites ask) ≡ true →
      choose gpus n sites ask best ≡ Some (choice_of (node_keys gpus) (group_keys gpus) (eligibles gpus n sites ask) ask best)
  unfolding choose
  choose_room h = rw h

  -- where there is none nothing is chosen
  pub choose_none : is_enough (why_not_here gpus n sites ask) ≡ false → choose gpus n sites ask best ≡ None
  unfolding choose
  choose_none h = rw h

  -- there is a choice exactly where nothing stands against the job
  pub choose_enough : is_some (choose gpus n sites ask best) ≡ is_enough (why_not_here gpus n sites ask)
  choose_enough =
      split
      (is_enough (why_not_here gpus n sites ask))
      (λ h. rw (choose_room h, h))
      (λ h. rw (choose_none h, h))

  -- without room no GPU is chosen, and there is no penalty
  pub choose_nothing : is_some (choose gpus n sites ask best) ≡ false →
      (got_of (choose gpus n sites ask best) ≡ []) × (penalised_of (choose gpus n sites ask best) ≡ false)
  choose_nothing h =
      let e : is_enough (why_not_here gpus n sites ask) ≡ false = sym choose_enough ∙ h in
      (rw (choose_none e), rw (choose_none e))

  -- and it is a right one
  pub choose_right : (c : Choice) → choose gpus n sites ask best ≡ Some c → Right (eligibles gpus n sites ask) ask.count c
  unfolding why_not_here
  choose_right c e =
      split
      (is_enough (why_not_here gpus n sites ask))
      (λ h. rw (same_Some _ _ (sym e ∙ choose_room h))
      (choice_right (node_keys gpus) (group_keys gpus) (eligibles gpus n sites ask) ask best (eligibles_distinct gpus n sites ask) h))
      (λ h. absurd (none-some c (sym (choose_none h) ∙ e)))

  -- the GPUs chosen are among the first n, and each may be taken
  pub choose_each : All (λ k. (k < n) × (k < 128) × (may_take gpus sites ask k ≡ true)) (got_of (choose gpus n sites ask best))
  choose_each = each (choose gpus n sites ask best) refl
    where
      each : (r : Option Choice) → choose gpus n sites ask best ≡ r → All (λ k. (k < n) × (k < 128) × (may_take gpus sites ask k ≡ true)) (got_of r)
      each None e = tt
      each (Some c) e =
          all_weaken
          (λ k. has k (eligibles gpus n sites ask) ≡ true)
          (λ k. (k < n) × (k < 128) × (may_take gpus sites ask k ≡ true))
          (got c)
          (λ k a. eligibles_in gpus n sites ask k a)
          (choose_right c e).inside

  -- none is chosen twice
  pub choose_distinct : Distinct (got_of (choose gpus n sites ask best))
  choose_distinct = once (choose gpus n sites ask best) refl
    where
      once : (r : Option Choice) → choose gpus n sites ask best ≡ r → Distinct (got_of r)
      once None e = tt
      once (Some c) e = (choose_right c e).once

  -- where there is a choice as many as asked are chosen, and at least one
  pub choose_count : is_some (choose gpus n sites ask best) ≡ true → (0 < ask.count) × (length (got_of (choose gpus n sites ask best)) ≡ ask.count)
  unfolding why_not_here
  choose_count h =
      let e : is_enough (why_not_here gpus n sites ask) ≡ true = sym choose_enough ∙ h in
      (room_count (node_keys gpus) (eligibles gpus n sites ask) ask e, rw (choose_room e) (choose_right _ (choose_room e)).size)

  -- and where as many as asked are chosen, and at least one, there is a choice
  pub choose_counted : 0 < ask.count → length (got_of (choose gpus n sites ask best)) ≡ ask.count → is_some (choose gpus n sites ask best) ≡ true
  choose_counted a b =
      split
      (is_enough (why_not_here gpus n sites ask))
      (λ h. choose_enough ∙ h)
      (λ h. let z : length (got_of None) ≡ ask.count = rw (choose_none h) at b in absurd (omega arith))
