-- A GPU within reach has a rank of at most the job's priority: so most fall out at one comparison.
use Rattle.std.specs.Prelude.{◌≡◌, Bool, false, ◌&&◌, List, map, ℕ, ◌-◌, ◌≤◌, ◌<◌, min, eqb, ltb, leb, take}
use Rattle.std.proofs.Math.Path.{ap}
use Rattle.std.proofs.Common.{sym, ◌∙◌, ⊎_elim, arith, length-take, get_or-take, ltb-true, le-leb, lt-ltb}
use Rattle.std.proofs.Math.Bool.{true}
use Rattle.std.proofs.Math.ListN.{length, get_or, get_or-map}
use Rattle.std.proofs.lemmas.List.{length-map}
use Rattle.laws.specs.Tests.{split, fails, never_both, and_both, both_and, le_or_lt}
use Rattle.laws.specs.Lists.{pad_length, pad_get_d}
use Rattle.laws.specs.Search.{those_more}
use Rattle.laws.specs.Tables.{past_read}
use Rattle.model.specs.Gpu.{no_gpu}
use Rattle.model.specs.Job.{no_job}
use Rattle.model.specs.declared.gpu.Gpu.{Gpu}
use Rattle.model.specs.declared.job.Ask.{Ask}
use Rattle.model.specs.declared.job.Job.{Job}
use Rattle.model.specs.declared.setting.Setting.{Setting}
use Rattle.cluster.specs.Gpus.{with_owner}
use Rattle.cluster.specs.Usage.{running}
use Rattle.eligible.specs.Keys.{node_keys}
use Rattle.eligible.specs.Rule.{eligible}
use Rattle.eligible.specs.Eligible.{site_of}
use Rattle.choice.specs.Why.{is_enough, why_not}
use Rattle.preemptive.specs.Candidate.{open_to, candidate}
use Rattle.pass.specs.Rank.{holder_rank, rank_of, gpu_rank, ranks_of, low_at, low_ranks}
use Rattle.pass.specs.Stay.{may_be_free, reachable, reachable_at, reachables, is_short}
use Rattle.pass.specs.ReachLaws.{room_needs}

-- ---- the table of ranks

module _ (gpus : List Gpu) (jobs : List Job) (n : ℕ) where
  ranks_fit : length (map (gpu_rank jobs) (take (min n 128) gpus)) ≤ 128
  ranks_fit = omega (arith, length-map (take (min n 128) gpus) (gpu_rank jobs), length-take (min n 128) gpus)

  -- it has 128 places
  pub ranks_length : length (ranks_of gpus jobs n) ≡ 128
  unfolding ranks_of
  ranks_length = pad_length 128 0 (map (gpu_rank jobs) (take (min n 128) gpus)) ranks_fit

  -- the rank of one of the first n GPUs
  ranks_at : (i : ℕ) → i < min n 128 → get_or (ranks_of gpus jobs n) i 0 ≡ rank_of jobs (get_or gpus i no_gpu).owner
  unfolding ranks_of rank_of
  ranks_at i h =
      pad_get_d 128 0 (map (gpu_rank jobs) (take (min n 128) gpus)) i ranks_fit ∙ get_or-map (gpu_rank jobs) (take (min n 128) gpus) i no_gpu
      ∙ ap (gpu_rank jobs) (get_or-take (min n 128) gpus i no_gpu h)

  -- past them stands 0
  ranks_past : (i : ℕ) → min n 128 ≤ i → get_or (ranks_of gpus jobs n) i 0 ≡ 0
  unfolding ranks_of
  ranks_past i h =
      let l : List ℕ = map (gpu_rank jobs) (take (min n 128) gpus) in
      let e : length l ≤ i = omega (arith, length-map (take (min n 128) gpus) (gpu_rank jobs), length-take (min n 128) gpus) in
      pad_get_d 128 0 l i ranks_fit ∙ sym (past_read l i 0 e)

-- ---- what is within reach is low

-- a candidate is of lower priority
candidate_low : (aware : Bool) (ask : Ask) (v : Job) → candidate aware ask v ≡ true → holder_rank v ≤ ask.priority
unfolding candidate holder_rank
candidate_low aware ask v h =
    let r : ((running v && ltb v.ask.priority ask.priority) ≡ true) × ((ltb v.evictions 3 && open_to aware ask.tenant v.ask.tenant) ≡ true) =
    and_both (running v && ltb v.ask.priority ask.priority) (ltb v.evictions 3 && open_to aware ask.tenant v.ask.tenant) h in
    let a : (running v ≡ true) × (ltb v.ask.priority ask.priority ≡ true) = and_both (running v) (ltb v.ask.priority ask.priority) r.0 in
    let b : (ltb v.evictions 3 ≡ true) × (open_to aware ask.tenant v.ask.tenant ≡ true) =
    and_both (ltb v.evictions 3) (open_to aware ask.tenant v.ask.tenant) r.1 in
    rw (a.0, b.0) (omega (arith, ltb-true v.ask.priority ask.priority a.1))

free_low : (aware : Bool) (jobs : List Job) (ask : Ask) (owner : ℕ) → may_be_free aware jobs ask owner ≡ true → rank_of jobs owner ≤ ask.priority
unfolding rank_of
free_low aware jobs ask owner h =
    split
    (eqb owner 0)
    (λ e. rw e (omega arith))
    (λ e. rw e (candidate_low aware ask (get_or jobs (owner - 1) no_job) (rw e at h)))

module _ (aware : Bool) (gpus : List Gpu) (n : ℕ) (sites : List ℕ) (jobs : List Job) (ask : Ask) (ranks : List ℕ) (is : ranks ≡ ranks_of gpus jobs n) where
  reach_low : (i : ℕ) → i < min n 128 → reachable_at aware sites jobs ask gpus i ≡ true → low_at ranks ask.priority i ≡ true
  unfolding reachable
  reach_low i h t =
      let g : Gpu = get_or gpus i no_gpu in
      let f : may_be_free aware jobs ask g.owner ≡ true = (and_both (eligible ask (site_of sites g) (with_owner 0 g)) (may_be_free aware jobs ask g.owner) t).1 in
      let l : length (ranks_of gpus jobs n) ≡ 128 = ranks_length gpus jobs n in
      let e : get_or (ranks_of gpus jobs n) i 0 ≡ rank_of jobs g.owner = ranks_at gpus jobs n i h in
      rw is
      (both_and
      (ltb i (length (ranks_of gpus jobs n)))
      (leb (get_or (ranks_of gpus jobs n) i 0) ask.priority)
      (lt-ltb i (length (ranks_of gpus jobs n)) (omega arith))
      (le-leb (get_or (ranks_of gpus jobs n) i 0) ask.priority (omega (arith, e, free_low aware jobs ask g.owner f))))

  -- past the first n GPUs every rank is low
  past_low : (i : ℕ) → i < 128 → min n 128 ≤ i → low_at ranks ask.priority i ≡ true
  past_low i h p =
      let l : length (ranks_of gpus jobs n) ≡ 128 = ranks_length gpus jobs n in
      let e : get_or (ranks_of gpus jobs n) i 0 ≡ 0 = ranks_past gpus jobs n i p in
      rw is
      (both_and
      (ltb i (length (ranks_of gpus jobs n)))
      (leb (get_or (ranks_of gpus jobs n) i 0) ask.priority)
      (lt-ltb i (length (ranks_of gpus jobs n)) (omega arith))
      (le-leb (get_or (ranks_of gpus jobs n) i 0) ask.priority (omega (arith, e))))

  -- so a GPU of a high rank is out of reach
  pub high_out : (i : ℕ) → i < 128 → low_at ranks ask.priority i ≡ false → reachable_at aware sites jobs ask gpus i ≡ false
  high_out i h f =
      fails (reachable_at aware sites jobs ask gpus i)
      (λ t. never_both (⊎_elim (λ a. past_low i h a) (λ a. reach_low i a t) (le_or_lt (min n 128) i)) f)

  -- and the rank may be looked at first
  pub low_first : (i : ℕ) → i < 128 → (low_at ranks ask.priority i && reachable_at aware sites jobs ask gpus i) ≡ reachable_at aware sites jobs ask gpus i
  low_first i h = split (low_at ranks ask.priority i) (λ t. rw t) (λ f. rw f (sym (high_out i h f)))

  -- and no more are within reach than are low
  reach_most : length (reachables aware gpus n sites jobs ask) ≤ low_ranks ranks n ask.priority
  unfolding reachables low_ranks
  reach_most =
      let l : length ranks ≡ 128 = ap length is ∙ ranks_length gpus jobs n in
      rw l (those_more (reachable_at aware sites jobs ask gpus) (low_at ranks ask.priority) (min n 128) 0 (λ k a b t. reach_low k (omega arith) t))

-- so with fewer low ranks than the job asks for there are too few within reach
pub low_short : (s : Setting) (gpus : List Gpu) (jobs : List Job) (ask : Ask) (ranks : List ℕ) (k : ℕ) → ranks ≡ ranks_of gpus jobs s.gpus →
    k ≡ low_ranks ranks s.gpus ask.priority → k < ask.count → true ≡ is_short s gpus jobs ask
unfolding is_short
low_short s gpus jobs ask ranks k is e h =
    let l : List ℕ = reachables s.options.aware gpus s.gpus s.sites jobs ask in
    let f : is_enough (why_not (node_keys gpus) l ask) ≡ false =
    fails (is_enough (why_not (node_keys gpus) l ask))
    (λ t. omega (arith, e, h, room_needs (node_keys gpus) l ask t, reach_most s.options.aware gpus s.gpus s.sites jobs ask ranks is)) in
    rw f
