-- A job that has too few GPUs within reach, for a gang on too few nodes, has too few eligible ones, now and after any candidates have left.
use Rattle.std.specs.Prelude.{◌≡◌, Bool, false, ◌&&◌, eqb, get_or}
use Rattle.std.proofs.Math.Path.{refl, sym, ap}
use Rattle.std.proofs.Common.{◌∙◌, div-add-mod', mul-suc, mul-le-mul_left}
use Rattle.std.proofs.Math.Bool.{true}
use mathlib.Core.List.{List, [], ◌∷◌, map}
use Prim.Native.Nat.{ℕ, zero, suc, ◌+◌, ◌-◌, ◌*◌, ◌/◌, ◌%◌, ◌≤◌, ◌<◌, min}
use native.Mathlib.Omega.{arith}
use Rattle.std.proofs.Math.ListN.{length, get_or-map}
use borrow.Author.Tests.{eqb-true, leb-true, le-leb, eq-eqb, ne_eqb}
use Rattle.laws.specs.Tests.{split, fails, never_both, and_both, both_and}
use Rattle.laws.specs.Lists.{All, all_weaken}
use Rattle.laws.specs.Search.{those, those_each, those_distinct, those_more}
use Rattle.laws.specs.Sort.{only}
use Rattle.laws.specs.Sums.{sum_over}
use Rattle.small.specs.Small.{plus_one, plus_one_lem}
use Rattle.model.specs.Gpu.{no_gpu}
use Rattle.model.specs.declared.gpu.Gpu.{Gpu}
use Rattle.model.specs.declared.job.Ask.{Ask}
use Rattle.model.specs.declared.job.Job.{Job}
use Rattle.model.specs.declared.setting.Setting.{Setting}
use Rattle.mig.specs.Owner.{without_owner, freed}
use Rattle.cluster.specs.Gpus.{with_owner}
use Rattle.eligible.specs.Rule.{eligible}
use Rattle.eligible.specs.Chosen.{keyed, with_key, count_of}
use Rattle.eligible.specs.Keys.{node_keys}
use Rattle.eligible.specs.Eligible.{site_of, may_take, eligibles}
use Rattle.eligible.specs.Laws.{eligible_means}
use Rattle.choice.specs.Gang.{enough_on}
use Rattle.choice.specs.Room.{counts_apart}
use Rattle.choice.specs.Why.{is_enough, is_gang, candidates, why_not_gang, why_not}
use Rattle.choice.specs.Choose.{why_not_here}
use Rattle.choice.specs.ChooseLaws.{gang_room, room_count, room_gang, room_others}
use Rattle.resource.specs.Cause.{placeable}
use Rattle.resource.specs.AllocateLaws.{placeable_enough}
use Rattle.preemptive.specs.Candidate.{candidate_at}
use Rattle.preemptive.specs.Prefix.{freed_all}
use Rattle.pass.specs.Stay.{may_be_free, reachable, reachable_at, reachables, is_short, free_then}

-- ---- the eligible GPUs are within reach, and stay so when candidates leave

-- nothing can be taken of no GPU
freed_none : (owner : ℕ) → freed owner no_gpu ≡ no_gpu
unfolding freed
freed_none owner = split (eqb 0 owner) (λ e. rw e) (λ e. rw e)

module _ (aware : Bool) (sites : List ℕ) (jobs : List Job) (ask : Ask) where
  -- a GPU that the job may have now
  eligible_reachable : (g : Gpu) → eligible ask (site_of sites g) g ≡ true → reachable aware sites jobs ask g ≡ true
  unfolding reachable
  eligible_reachable g h =
      let z : g.owner ≡ 0 = (eligible_means ask (site_of sites g) g h).0 in
      let e : with_owner 0 g ≡ g = ap (λ (o : ℕ). with_owner o g) (sym z) in
      rw (e, h, eq-eqb g.owner 0 z)

  -- who owns it aside, a candidate that leaves changes nothing of it for the job
  freed_alike : (owner site : ℕ) (g : Gpu) → eligible ask site (with_owner 0 (freed owner g)) ≡ eligible ask site (with_owner 0 g)
  unfolding freed eligible
  freed_alike owner site g = refl

  -- what is within reach when a candidate has left was so before
  freed_reachable : (v : ℕ) (g : Gpu) → v < 65535 → candidate_at aware jobs ask v ≡ true →
      reachable aware sites jobs ask (freed (plus_one v) g) ≡ true → reachable aware sites jobs ask g ≡ true
  unfolding reachable freed
  freed_reachable v g b t h =
      let r : (eligible ask (site_of sites g) (with_owner 0 (freed (plus_one v) g)) ≡ true) × (may_be_free aware jobs ask (without_owner (plus_one v) g.owner) ≡ true) =
      and_both (eligible ask (site_of sites g) (with_owner 0 (freed (plus_one v) g))) (may_be_free aware jobs ask (without_owner (plus_one v) g.owner)) h in
      both_and
      (eligible ask (site_of sites g) (with_owner 0 g))
      (may_be_free aware jobs ask g.owner)
      (sym (freed_alike (plus_one v) (site_of sites g) g) ∙ r.0)
      (split
      (eqb g.owner (plus_one v))
      (λ e. let o : g.owner ≡ v + 1 = eqb-true g.owner (plus_one v) e ∙ plus_one_lem v b in
      let d : g.owner - 1 ≡ v = omega arith in
      sym (free_then aware jobs ask g.owner true (λ z. omega arith) (rw d (sym t))))
      (λ e. rw e at r.1))

  reach_step : (v : ℕ) (gpus : List Gpu) (i : ℕ) → v < 65535 → candidate_at aware jobs ask v ≡ true →
      reachable_at aware sites jobs ask (map (freed (plus_one v)) gpus) i ≡ true → reachable_at aware sites jobs ask gpus i ≡ true
  reach_step v gpus i b t h =
      let e : get_or (map (freed (plus_one v)) gpus) i no_gpu ≡ freed (plus_one v) (get_or gpus i no_gpu) =
      ap (λ (d : Gpu). get_or (map (freed (plus_one v)) gpus) i d) (sym (freed_none (plus_one v))) ∙ get_or-map (freed (plus_one v)) gpus i no_gpu in
      freed_reachable v (get_or gpus i no_gpu) b t (rw e at h)

  -- when candidates leave no more come within reach
  reach_freed : (gpus : List Gpu) (vs : List ℕ) (i : ℕ) → All (λ v. (v < 128) × (candidate_at aware jobs ask v ≡ true)) vs →
      reachable_at aware sites jobs ask (freed_all gpus vs) i ≡ true → reachable_at aware sites jobs ask gpus i ≡ true
  unfolding freed_all
  reach_freed gpus [] i h t = t
  reach_freed gpus (v ∷ vs) i h t =
      reach_step v gpus i (omega (arith, h.0.0)) h.0.1 (reach_freed (map (freed (plus_one v)) gpus) vs i h.1 t)

  -- the GPUs that are eligible then are within reach now
  reach_eligible : (gpus : List Gpu) (vs : List ℕ) (i : ℕ) → All (λ v. (v < 128) × (candidate_at aware jobs ask v ≡ true)) vs →
      may_take (freed_all gpus vs) sites ask i ≡ true → reachable_at aware sites jobs ask gpus i ≡ true
  reach_eligible gpus vs i h t = reach_freed gpus vs i h (eligible_reachable (get_or (freed_all gpus vs) i no_gpu) t)

-- and they stand on the same nodes
nodes_freed : (owner : ℕ) (gpus : List Gpu) → node_keys (map (freed owner) gpus) ≡ node_keys gpus
unfolding node_keys freed
nodes_freed owner [] = refl
nodes_freed owner (g ∷ gpus) = ap (λ (l : List ℕ). g.node ∷ l) (nodes_freed owner gpus)

nodes_kept : (gpus : List Gpu) (vs : List ℕ) → node_keys (freed_all gpus vs) ≡ node_keys gpus
unfolding freed_all
nodes_kept gpus [] = refl
nodes_kept gpus (v ∷ vs) = nodes_kept (map (freed (plus_one v)) gpus) vs ∙ nodes_freed (plus_one v) gpus

-- ---- a job with room has as many eligible GPUs as it asks for

-- where each weighs at least b
sum_least : {A : Type 0} (g : A → ℕ) (b : ℕ) (l : List A) → All (λ x. b ≤ g x) l → b * length l ≤ sum_over g l
unfolding sum_over
sum_least g b [] h = omega arith
sum_least g b (x ∷ l) h =
    let e : b * suc (length l) ≡ b * length l + b = mul-suc b (length l) in omega (arith, h.0, sum_least g b l h.1)

module _ (nodes l : List ℕ) where
  -- nodes with at least per eligible GPUs each
  nodes_hold : (per : ℕ) → per * length (candidates nodes l per) ≤ length l
  unfolding candidates
  nodes_hold per =
      let ks : List ℕ = those (enough_on nodes l per) 32 0 in
      let e : All (λ k. per ≤ count_of nodes l k) ks =
      all_weaken
      (λ k. (0 ≤ k) × (k < 0 + 32) × (enough_on nodes l per k ≡ true))
      (λ k. per ≤ count_of nodes l k)
      ks
      (λ k r. leb-true per (count_of nodes l k) r.2)
      (those_each (enough_on nodes l per) 32 0) in
      omega (arith, sum_least (count_of nodes l) per ks e, counts_apart nodes ks l (those_distinct (enough_on nodes l per) 32 0))

  pub room_needs : (ask : Ask) → is_enough (why_not nodes l ask) ≡ true → ask.count ≤ length l
  room_needs ask h =
      split
      (is_gang ask)
      (λ g. let per : ℕ = ask.count / ask.nodes in
      let r : (ask.count % ask.nodes ≡ 0) × (ask.nodes ≤ length (candidates nodes l per)) = gang_room nodes l ask.count ask.nodes (room_gang nodes l ask g h) in
      let b : per * ask.nodes ≤ per * length (candidates nodes l per) = mul-le-mul_left per r.1 in
      omega (arith, r.0, div-add-mod' ask.count ask.nodes, b, nodes_hold per))
      (λ g. room_others nodes l ask g h)

-- ---- where there is room, there is room among more

-- a filter of those with a property
only_those : (c p : ℕ → Bool) (m i : ℕ) → only c (those p m i) ≡ those (λ k. p k && c k) m i
unfolding only those
only_those c p zero i = refl
only_those c p (suc m) i =
    split
    (p i)
    (λ e. split (c i) (λ f. rw (e, f, only_those c p m (i + 1))) (λ f. rw (e, f, only_those c p m (i + 1))))
    (λ e. rw (e, only_those c p m (i + 1)))

module _ (nodes : List ℕ) (p q : ℕ → Bool) (m : ℕ) (more : (k : ℕ) → p k ≡ true → q k ≡ true) where
  -- on each node
  count_more : (node : ℕ) → count_of nodes (those p m 0) node ≤ count_of nodes (those q m 0) node
  unfolding count_of with_key
  count_more node =
      rw (only_those (keyed nodes node) p m 0, only_those (keyed nodes node) q m 0)
      (those_more (λ k. p k && keyed nodes node k) (λ k. q k && keyed nodes node k) m 0
      (λ k a b t. let r : (p k ≡ true) × (keyed nodes node k ≡ true) = and_both (p k) (keyed nodes node k) t in
      both_and (q k) (keyed nodes node k) (more k r.0) r.1))

  -- on as many nodes
  candidates_more : (per : ℕ) → length (candidates nodes (those p m 0) per) ≤ length (candidates nodes (those q m 0) per)
  unfolding candidates
  candidates_more per =
      those_more
      (enough_on nodes (those p m 0) per)
      (enough_on nodes (those q m 0) per)
      32
      0
      (λ k a b t. le-leb per (count_of nodes (those q m 0) k) (omega (arith, leb-true per (count_of nodes (those p m 0) k) t, count_more k)))

  gang_more : (count g : ℕ) → is_enough (why_not_gang nodes (those p m 0) count g) ≡ true → is_enough (why_not_gang nodes (those q m 0) count g) ≡ true
  unfolding why_not_gang
  gang_more count g h =
      let r : (count % g ≡ 0) × (g ≤ length (candidates nodes (those p m 0) (count / g))) = gang_room nodes (those p m 0) count g h in
      rw (eq-eqb (count % g) 0 r.0, le-leb g (length (candidates nodes (those q m 0) (count / g))) (omega (arith, r.1, candidates_more (count / g))))

  room_more : (ask : Ask) → is_enough (why_not nodes (those p m 0) ask) ≡ true → is_enough (why_not nodes (those q m 0) ask) ≡ true
  unfolding why_not
  room_more ask h =
      let z : ask.count ≡ 0 → ⊥ = λ e. omega (arith, e, room_count nodes (those p m 0) ask h) in
      split
      (is_gang ask)
      (λ g. rw (ne_eqb ask.count 0 z, g) (gang_more ask.count ask.nodes (room_gang nodes (those p m 0) ask g h)))
      (λ g. rw (
        ne_eqb ask.count 0 z,
        g,
        le-leb ask.count (length (those q m 0))
            (omega (arith, room_others nodes (those p m 0) ask g h, those_more p q m 0 (λ k a b t. more k t))),
      ))

-- ---- so it is not placeable

-- room when candidates have left is room among those within reach
room_freed : (aware : Bool) (sites : List ℕ) (jobs : List Job) (ask : Ask) (gpus : List Gpu) (n : ℕ) (vs : List ℕ) →
    All (λ v. (v < 128) × (candidate_at aware jobs ask v ≡ true)) vs → is_enough (why_not_here (freed_all gpus vs) n sites ask) ≡ true →
    is_enough (why_not (node_keys gpus) (reachables aware gpus n sites jobs ask) ask) ≡ true
unfolding why_not_here eligibles reachables
room_freed aware sites jobs ask gpus n vs h t =
    room_more
    (node_keys gpus)
    (may_take (freed_all gpus vs) sites ask)
    (reachable_at aware sites jobs ask gpus)
    (min n 128)
    (λ k e. reach_eligible aware sites jobs ask gpus vs k h e)
    ask
    (rw (nodes_kept gpus vs) at t)

-- with too few within reach, when candidates have left
pub short_unplaceable : (s : Setting) (jobs : List Job) (j : Job) → eqb j.ask.profile 0 ≡ true →
    (gpus : List Gpu) (left : List Job) (vs : List ℕ) → is_short s gpus jobs j.ask ≡ true →
    All (λ v. (v < 128) × (candidate_at s.options.aware jobs j.ask v ≡ true)) vs → placeable s (freed_all gpus vs) left j ≡ false
unfolding is_short
short_unplaceable s jobs j whole gpus left vs short h =
    fails
    (placeable s (freed_all gpus vs) left j)
    (λ t. never_both (rw (room_freed s.options.aware s.sites jobs j.ask gpus s.gpus vs h
    (placeable_enough s (freed_all gpus vs) left j whole t)) at short) refl)
