-- A plan as loaded: every job is still to arrive, its arrival is queued in job order, nobody waits, every GPU is idle, and the clock is 0.0.
use Rattle.std.specs.Prelude.{◌≡◌, refl, List, [], ◌∷◌, map, ℕ, zero, suc, ◌+◌, ◌≤◌, ◌<◌, take, replicate}
use Rattle.std.proofs.Common.{sym, ap, ◌∙◌}
use native.Mathlib.Omega.{arith}
use Rattle.std.proofs.Math.ListN.{length, get_or, get_or-map, get_or-eq_default}
use Rattle.std.proofs.lemmas.List.{length-map, length-replicate}
use Rattle.std.proofs.Math.Seq.{get_or-take, length-take-le}
use Rattle.laws.specs.Lists.{All, all_get_d, all_append, all_at, pad_length, pad_get_d}
use Rattle.model.specs.Sizes as Sizes
use Rattle.model.specs.Number.{zero·0}
use Rattle.model.specs.Totals.{no_totals}
use Rattle.model.specs.Gpu.{no_gpu}
use Rattle.model.specs.Job.{no_ask, new_job, no_job}
use Rattle.model.specs.Event.{empty_event}
use Rattle.model.specs.declared.gpu.Gpu.{Gpu}
use Rattle.model.specs.declared.job.Ask.{Ask}
use Rattle.model.specs.declared.job.Job.{Job}
use Rattle.model.specs.declared.job.JobState.TheVariants.{Pending}
use Rattle.model.specs.declared.plan.Plan.{Plan}
use Rattle.trace.specs.Answer.{Accepted}
use Rattle.trace.specs.declared.record.Record.{Record}
use Rattle.trace.specs.declared.record.Record.TheVariants as R
use Rattle.loader.specs.Arrivals.{arrival_of, arrivals_from, arrivals}
use Rattle.loader.specs.ArrivalLaws.{arrivals_length}
use Rattle.loader.specs.Load.{plan_of, load}
use Rattle.promises.specs.RunLaws.{records_of, load_accepts}
use Rattle.promises.specs.ListedLaws.{site_in, gpu_in, sites_of, asks_of, gpus_after, gpus_of}
use Rattle.promises.specs.NothingDroppedLaws.{Exactly, load_exactly}
use Rattle.loader.specs.declared.loading.Tables.{Tables}

-- nobody's and uncut
abbrev pub Idle : Gpu → Type 0
Idle g = (g.owner ≡ 0) × (g.profile ≡ 0) × (g.slices ≡ 0) × (g.owners ≡ replicate Sizes.slices 0)

-- a plan of n jobs as loaded, with n its count of jobs
pub record Ready (p : Plan) : Type 0 where
  -- the room holds the arrivals of the jobs in job order, numbered as the jobs, and is empty behind them
  pub next : p.next ≡ p.setting.jobs
  pub arrival : (i : ℕ) → i < p.setting.jobs → get_or p.events i empty_event ≡ arrival_of i (get_or p.jobs i no_job)
  pub empty : (i : ℕ) → p.setting.jobs ≤ i → get_or p.events i empty_event ≡ empty_event
  -- every job is as new, and behind them stands none
  pub fresh : (i : ℕ) → get_or p.jobs i no_job ≡ new_job (get_or p.jobs i no_job).ask
  pub pending : (i : ℕ) → (get_or p.jobs i no_job).state ≡ Pending
  pub remaining : (i : ℕ) → (get_or p.jobs i no_job).remaining ≡ (get_or p.jobs i no_job).ask.duration
  pub no_job_lem : (i : ℕ) → p.setting.jobs ≤ i → get_or p.jobs i no_job ≡ no_job
  -- every GPU is idle and stands on a node, and behind them stands none
  pub idle : (i : ℕ) → Idle (get_or p.gpus i no_gpu)
  pub on_node_lem : (i : ℕ) → i < p.setting.gpus → (get_or p.gpus i no_gpu).node < p.setting.nodes
  pub no_gpu_lem : (i : ℕ) → p.setting.gpus ≤ i → get_or p.gpus i no_gpu ≡ no_gpu
  -- nobody waits, the clock is 0.0, and nothing has happened
  pub waiting : p.waiting ≡ 0
  pub clock : p.clock ≡ zero·0
  pub totals : p.totals ≡ no_totals
  -- the tables have their sizes, and the counts fit them
  pub event_size : length p.events ≡ Sizes.events
  pub job_size : length p.jobs ≡ Sizes.jobs
  pub gpu_size : length p.gpus ≡ Sizes.gpus
  pub site_size : length p.setting.sites ≡ Sizes.nodes
  pub queue_size : length p.queue ≡ Sizes.jobs
  pub job_room : p.setting.jobs ≤ Sizes.jobs
  pub gpu_room : p.setting.gpus ≤ Sizes.gpus
  pub node_room : p.setting.nodes ≤ Sizes.nodes

arrival_at : (k : ℕ) (js : List Job) (i : ℕ) → i < length js → get_or (arrivals_from k js) i empty_event ≡ arrival_of (k + i) (get_or js i no_job)
unfolding arrivals_from
arrival_at k [] i h = absurd (omega arith)
arrival_at k (j ∷ js) zero h = let e : k + 0 ≡ k = omega arith in rw e
arrival_at k (j ∷ js) (suc i) h = let e : k + suc i ≡ k + 1 + i = omega arith in rw e (arrival_at (k + 1) js i (omega arith))

module _ (jobs : List Job) (n : ℕ) (full : length jobs ≡ Sizes.jobs) (few : n ≤ Sizes.jobs) where
  front_length : length (arrivals_from 0 (take n jobs)) ≡ n
  front_length = arrivals_length 0 (take n jobs) ∙ length-take-le n jobs (omega arith)

  -- the room's size
  pub arrivals_size : length (arrivals jobs n) ≡ Sizes.events
  unfolding arrivals
  arrivals_size = pad_length Sizes.events empty_event (arrivals_from 0 (take n jobs)) (omega (arith, front_length))

  -- entry i is job i's arrival
  pub arrivals_at : (i : ℕ) → i < n → get_or (arrivals jobs n) i empty_event ≡ arrival_of i (get_or jobs i no_job)
  unfolding arrivals
  arrivals_at i h =
      let l : length (take n jobs) ≡ n = length-take-le n jobs (omega arith) in
      let z : 0 + i ≡ i = omega arith in
      let q : get_or (take n jobs) i no_job ≡ get_or jobs i no_job = get_or-take n jobs i no_job h in
      pad_get_d Sizes.events empty_event (arrivals_from 0 (take n jobs)) i (omega (arith, front_length)) ∙ arrival_at 0 (take n jobs) i (omega arith) ∙ rw (z, q)

  -- behind the arrivals every entry is empty
  pub arrivals_past : (i : ℕ) → n ≤ i → get_or (arrivals jobs n) i empty_event ≡ empty_event
  unfolding arrivals
  arrivals_past i h =
      pad_get_d Sizes.events empty_event (arrivals_from 0 (take n jobs)) i (omega (arith, front_length))
      ∙ get_or-eq_default (arrivals_from 0 (take n jobs)) empty_event {n = i} (omega (arith, front_length))

gpu_idle : (nodes : ℕ) (r : Record) → All Idle (gpu_in nodes r)
gpu_idle nodes R.End = tt
gpu_idle nodes (R.Node site) = tt
gpu_idle nodes (R.Gpu card) = ((refl, refl, refl, refl), tt)
gpu_idle nodes (R.Quota tenant quota) = tt
gpu_idle nodes (R.Profile profile most) = tt
gpu_idle nodes (R.Job ask) = tt
gpu_idle nodes (R.Options options) = tt

gpus_idle : (nodes : ℕ) (rs : List Record) → All Idle (gpus_after nodes rs)
unfolding gpus_after
gpus_idle nodes [] = tt
gpus_idle nodes (r ∷ rs) =
    all_append Idle (gpu_in nodes r) (gpus_after (nodes + length (site_in r)) rs) (gpu_idle nodes r) (gpus_idle (nodes + length (site_in r)) rs)

module _ (rs : List Record) (p : Plan) (exactly : Exactly rs p) where
  asks_length : length (map new_job (asks_of rs)) ≡ p.setting.jobs
  asks_length = length-map (asks_of rs) new_job ∙ sym exactly.job_count

  -- each place of the job table: the job of that record as new, or none
  pub job_at_lem : (i : ℕ) → get_or p.jobs i no_job ≡ new_job (get_or (asks_of rs) i no_ask)
  unfolding no_job
  job_at_lem i =
      let l : length (map new_job (asks_of rs)) ≤ Sizes.jobs = omega (arith, asks_length, exactly.job_room) in
      rw exactly.jobs (pad_get_d Sizes.jobs (new_job no_ask) (map new_job (asks_of rs)) i l ∙ get_or-map new_job (asks_of rs) i no_ask)

  -- each place of the GPU table: the GPU of that record, or none
  pub gpu_at_lem : (i : ℕ) → get_or p.gpus i no_gpu ≡ get_or (gpus_of rs) i no_gpu
  gpu_at_lem i = rw exactly.gpus (pad_get_d Sizes.gpus no_gpu (gpus_of rs) i (omega (arith, exactly.gpu_count, exactly.gpu_room)))

new_is : (j : Job) (a : Ask) → j ≡ new_job a → (j ≡ new_job j.ask) × (j.state ≡ Pending) × (j.remaining ≡ j.ask.duration)
unfolding new_job
new_is j a e = (rw e, rw e, rw e)

none_is : (asks : List Ask) (i : ℕ) → length asks ≤ i → new_job (get_or asks i no_ask) ≡ no_job
unfolding no_job
none_is asks i h = ap new_job (get_or-eq_default asks no_ask {n = i} h)

-- the plan of tables that hold records is as loaded
holds_ready : (rs : List Record) (t : Tables) → Exactly rs (plan_of t) → Ready (plan_of t)
unfolding plan_of
holds_ready rs t h =
    let few : t.setting.jobs ≤ Sizes.jobs = h.job_room in
    let asked : length (asks_of rs) ≡ t.setting.jobs = sym h.job_count in
    let carded : length (gpus_of rs) ≡ t.setting.gpus = sym h.gpu_count in
    let told : length (map new_job (asks_of rs)) ≡ length (asks_of rs) = length-map (asks_of rs) new_job in
    let full : length t.jobs ≡ Sizes.jobs = rw h.jobs (pad_length Sizes.jobs no_job (map new_job (asks_of rs)) (omega arith)) in
    record {
      next = refl;
      arrival = λ i l. arrivals_at t.jobs t.setting.jobs full few i l;
      empty = λ i l. arrivals_past t.jobs t.setting.jobs full few i l;
      fresh = λ i. (new_is (get_or t.jobs i no_job) (get_or (asks_of rs) i no_ask) (job_at_lem rs (plan_of t) h i)).0;
      pending = λ i. (new_is (get_or t.jobs i no_job) (get_or (asks_of rs) i no_ask) (job_at_lem rs (plan_of t) h i)).1;
      remaining = λ i. (new_is (get_or t.jobs i no_job) (get_or (asks_of rs) i no_ask) (job_at_lem rs (plan_of t) h i)).2;
      no_job_lem = λ i l. job_at_lem rs (plan_of t) h i ∙ none_is (asks_of rs) i (omega arith);
      idle = λ i. rw (gpu_at_lem rs (plan_of t) h i) (all_get_d Idle (gpus_of rs) i no_gpu (gpus_idle 0 rs) (refl, refl, refl, refl));
      on_node_lem = λ i l. rw (gpu_at_lem rs (plan_of t) h i) (all_at (λ g. g.node < t.setting.nodes) (gpus_of rs) i no_gpu h.placed (omega arith));
      no_gpu_lem = λ i l. gpu_at_lem rs (plan_of t) h i ∙ get_or-eq_default (gpus_of rs) no_gpu {n = i} (omega arith);
      waiting = refl;
      clock = refl;
      totals = refl;
      event_size = arrivals_size t.jobs t.setting.jobs full few;
      job_size = full;
      gpu_size = rw h.gpus (pad_length Sizes.gpus no_gpu (gpus_of rs) (omega (arith, h.gpu_room)));
      site_size = rw h.sites (pad_length Sizes.nodes 0 (sites_of rs) (omega (arith, h.nodes, h.node_room)));
      queue_size = length-replicate {A = ℕ} Sizes.jobs 0;
      job_room = few;
      gpu_room = h.gpu_room;
      node_room = h.node_room;
    }

-- an accepted trace's plan is as loaded
pub load_ready : (trace : List ℕ) → (load trace).answer ≡ Accepted → Ready (load trace).plan
load_ready trace e =
    let a = load_accepts trace e in
    let x : Exactly (records_of trace) (plan_of a.tables) = rw a.plan at (load_exactly trace e) in
    rw a.plan (holds_ready (records_of trace) a.tables x)
