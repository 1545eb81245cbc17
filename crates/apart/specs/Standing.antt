-- What holds all through a pass: its victims wait, its placed jobs are placed, and none of them is told of twice.
use Rattle.std.specs.Prelude.{◌≡◌, Bool, true, false, length, get_or, take, Float}
use Rattle.std.proofs.Math.Path.{refl, ap}
use Rattle.std.proofs.Common.{sym, ◌∙◌, ⊎_elim, arith}
use mathlib.Core.List.{List, [], ◌∷◌, ◌++◌, append_assoc}
use Prim.Native.Nat.{ℕ, ◌+◌, ◌<◌, ◌≤◌}
use Rattle.std.proofs.Math.ListN.{length-set, length-append}
use Rattle.std.proofs.Math.Seq.{get_or-set_same, get_or-set_other}
use Rattle.laws.specs.Tests.{never_both, le_or_lt, none_or}
use Rattle.laws.specs.Lists.{All, Apart, Distinct, all_weaken, all_both, all_append, all_left, all_right, all_snoc, all_member, all_members, distinct_append, distinct_left, distinct_right, distinct_parts, distinct_snoc}
use Rattle.laws.specs.Search.{has, has_append, has_all, member_has}
use Rattle.laws.specs.Tables.{past_read}
use Rattle.small.specs.Small.{onward_room, onward_take}
use Rattle.model.specs.Job.{no_job, new_job}
use Rattle.model.specs.declared.job.Job.{Job}
use Rattle.model.specs.declared.job.JobState.{JobState}
use Rattle.model.specs.declared.job.JobState.TheVariants.{Waiting, Placed, Running}
use Rattle.life.specs.Life as Life
use Rattle.cluster.specs.Usage as Usage
use Rattle.cluster.specs.Usage.{runs}
use Rattle.eligible.specs.More.{map_append}
use Rattle.line.specs.Line.{joined_all}
use Rattle.line.specs.Keep.{waits_in}
use Rattle.apart.specs.LineLaws.{Sized, victims_of, joins_sized, joins_evicted, joins_victims}
use Rattle.preemptive.specs.Prefix.{freed_all, evicted_all}
use Rattle.apart.specs.PrefixLaws.{freed_length, evicted_length, evicted_other, evicted_in}
use Rattle.apart.specs.StartsLaws.{jobs_of}
use Rattle.starts.specs.declared.begin.Placing.{Placing}
use Rattle.resource.specs.declared.allocate.Allocation.{Allocation}
use Rattle.apart.specs.Few.{apart_has, has_apart, distinct_few}
use Rattle.pass.specs.Visit.{placed_as}
use Rattle.pass.specs.declared.visit.Pass.{Pass}

-- the job with a number, as it stands now
abbrev pub job_at : Pass → ℕ → Job
job_at p k = get_or p.jobs k no_job

-- the numbers of the jobs placed so far, in the order of placing
abbrev pub placed_of : Pass → List ℕ
placed_of p = jobs_of (take p.count p.placed)

-- it is the number of a job in this state
abbrev pub InState : JobState → List Job → ℕ → Type 0
InState state jobs k = (k < 128) × ((get_or jobs k no_job).state ≡ state)

pub record Standing (p : Pass) : Type 0 where
  pub gpus : length p.gpus ≡ 128
  pub jobs : length p.jobs ≡ 128
  pub line : Sized p.line
  pub placed : length p.placed ≡ 128
  pub victims_wait : All (InState Waiting p.jobs) (victims_of p.line)
  pub placed_are : All (InState Placed p.jobs) (placed_of p)
  pub once : Distinct (victims_of p.line ++ placed_of p)
  pub evicted : length (victims_of p.line) ≡ p.line.evicted
  pub count : length (placed_of p) ≡ p.count

-- a job that a visit goes on to consider: it waits, and is no victim of this pass
pub record Looked (p : Pass) (id : ℕ) : Type 0 where
  pub waiting : (job_at p id).state ≡ Waiting
  pub spared : has id (victims_of p.line) ≡ false

-- the pass when these have left for the job, and joined the queue's end
unfoldable pub cleared : Float → Pass → ℕ → List ℕ → Pass
cleared clock p id vs =
    record {
      gpus = freed_all p.gpus vs;
      jobs = evicted_all clock p.jobs vs;
      line = joined_all clock (evicted_all clock p.jobs vs) id p.line vs;
      placed = p.placed;
      count = p.count;
    }

-- ---- states

-- states that a test tells apart
told_apart : (test : JobState → Bool) (a b : JobState) → test a ≡ true → test b ≡ false → a ≡ b → ⊥
told_apart test a b t f e = never_both (rw (← e) t) f

-- lists of jobs in states that a test tells apart share nothing
pub states_apart : (test : JobState → Bool) (a b : JobState) (jobs : List Job) (l r : List ℕ) → test a ≡ true → test b ≡ false →
    All (InState a jobs) l → All (InState b jobs) r → All (λ x. Apart x r) l
states_apart test a b jobs l r t f h k =
    all_weaken
    (InState a jobs)
    (λ x. Apart x r)
    l
    (λ x i. all_weaken (InState b jobs) (λ y. x ≡ y → ⊥) r (λ y o e. told_apart test a b t f (sym i.1 ∙ ap (λ (z : ℕ). (get_or jobs z no_job).state) e ∙ o.1)) k)
    h

-- a job that waits is in the table
pub waiting_in : (jobs : List Job) (k : ℕ) → length jobs ≡ 128 → (get_or jobs k no_job).state ≡ Waiting → k < 128
unfolding no_job new_job
waiting_in jobs k l h =
    ⊎_elim
    (λ a. let e : no_job ≡ get_or jobs k no_job = past_read jobs k no_job (omega arith) in
    absurd (never_both (ap waits_in (ap (λ (j : Job). j.state) e ∙ h)) refl))
    (λ a. a)
    (le_or_lt 128 k)

-- ---- what it says at once

module _ (p : Pass) (so : Standing p) where
  -- victims and placed jobs have numbers of the table
  pub all_below : All (λ k. k < 128) (victims_of p.line ++ placed_of p)
  all_below =
      all_append
      (λ k. k < 128)
      (victims_of p.line)
      (placed_of p)
      (all_weaken (InState Waiting p.jobs) (λ k. k < 128) (victims_of p.line) (λ k h. h.0) so.victims_wait)
      (all_weaken (InState Placed p.jobs) (λ k. k < 128) (placed_of p) (λ k h. h.0) so.placed_are)

  -- there are at most 128
  pub few : p.line.evicted + p.count ≤ 128
  few =
      omega
      (arith, distinct_few 128 (victims_of p.line ++ placed_of p) so.once all_below, length-append (victims_of p.line) (placed_of p), so.evicted, so.count)

-- ---- a job is placed

module _ (p : Pass) (so : Standing p) (id : ℕ) (looked : Looked p id) where
  -- it is in the table
  pub looked_in : id < 128
  looked_in = waiting_in p.jobs id so.jobs looked.waiting

  -- it is neither a victim nor placed
  pub looked_apart : Apart id (victims_of p.line ++ placed_of p)
  looked_apart =
      all_append
      (λ y. id ≡ y → ⊥)
      (victims_of p.line)
      (placed_of p)
      (has_apart id (victims_of p.line) looked.spared)
      (states_apart waits_in Waiting Placed p.jobs (id ∷ []) (placed_of p) refl refl ((looked_in, looked.waiting), tt) so.placed_are).0

  -- so there is room for it
  pub looked_room : p.line.evicted + p.count < 128
  looked_room =
      let l : List ℕ = victims_of p.line ++ placed_of p in
      let h : length (id ∷ l) ≤ 128 = distinct_few 128 (id ∷ l) (looked_apart, so.once) (looked_in, all_below p so) in
      omega (arith, length-append (victims_of p.line) (placed_of p), so.evicted, so.count)

  -- a job other than it stays as it is
  pub place_other : (j : Job) (got : Allocation) (k : ℕ) → (k ≡ id → ⊥) → job_at (placed_as p id j got) k ≡ job_at p k
  unfolding placed_as
  place_other j got k h = get_or-set_other p.jobs id k (Life.placed j) no_job h

  -- it is placed
  pub place_it : (j : Job) (got : Allocation) → job_at (placed_as p id j got) id ≡ Life.placed j
  unfolding placed_as
  place_it j got = get_or-set_same p.jobs id (Life.placed j) no_job (rw so.jobs looked_in)

  -- it counts
  pub place_count : (j : Job) (got : Allocation) → (placed_as p id j got).count ≡ p.count + 1
  unfolding placed_as
  place_count j got = onward_room p.count 128 (omega (arith, looked_room))

  -- it stands behind those placed before it
  pub place_behind : (j : Job) (got : Allocation) → placed_of (placed_as p id j got) ≡ placed_of p ++ (id ∷ [])
  unfolding placed_as
  place_behind j got =
      let new : Placing = record { job = id; cut = got.cut; penalised = got.penalised } in
      ap jobs_of (onward_take p.placed p.count 128 new so.placed (omega (arith, looked_room))) ∙ map_append (λ x. x.job) (take p.count p.placed) (new ∷ [])

  -- the line stays
  pub place_line : (j : Job) (got : Allocation) → (placed_as p id j got).line ≡ p.line
  unfolding placed_as
  place_line j got = refl

  -- jobs in a state keep it
  place_keeps : (j : Job) (got : Allocation) (state : JobState) (l : List ℕ) → Apart id l → All (InState state p.jobs) l →
      All (InState state (placed_as p id j got).jobs) l
  place_keeps j got state l a h =
      all_weaken
      (λ k. (id ≡ k → ⊥) × InState state p.jobs k)
      (InState state (placed_as p id j got).jobs)
      l
      (λ k i. (i.1.0, rw (place_other j got k (λ e. i.0 (sym e))) i.1.1))
      (all_both (λ k. id ≡ k → ⊥) (InState state p.jobs) l a h)

  pub place_standing : (j : Job) (got : Allocation) → length got.gpus ≡ 128 → Standing (placed_as p id j got)
  unfolding placed_as Life.placed
  place_standing j got g =
      let vs : List ℕ = victims_of p.line in
      let ps : List ℕ = placed_of p in
      let e : placed_of (placed_as p id j got) ≡ ps ++ (id ∷ []) = place_behind j got in
      record {
        gpus = g;
        jobs = length-set p.jobs id (Life.placed j) ∙ so.jobs;
        line = so.line;
        placed = length-set p.placed p.count (record { job = id; cut = got.cut; penalised = got.penalised }) ∙ so.placed;
        victims_wait = place_keeps j got Waiting vs (all_left (λ y. id ≡ y → ⊥) vs ps looked_apart) so.victims_wait;
        placed_are = rw e (all_snoc (InState Placed (placed_as p id j got).jobs) ps id
            (place_keeps j got Placed ps (all_right (λ y. id ≡ y → ⊥) vs ps looked_apart) so.placed_are) (looked_in, ap (λ (x : Job). x.state) (place_it j got)));
        once = rw (e, ← append_assoc vs ps (id ∷ [])) (distinct_snoc (vs ++ ps) id so.once looked_apart);
        evicted = so.evicted;
        count = rw (e, place_count j got, length-append ps (id ∷ [])) (omega (arith, so.count));
      }

-- ---- running jobs leave

module _ (clock : Float) (p : Pass) (so : Standing p) (id : ℕ) (vs : List ℕ) (run : All (InState Running p.jobs) vs) (differ : Distinct vs) where
  -- they are none of the victims so far
  clear_victims : All (λ x. Apart x vs) (victims_of p.line)
  clear_victims = states_apart waits_in Waiting Running p.jobs (victims_of p.line) vs refl refl so.victims_wait run

  -- and none of those placed
  clear_placed : All (λ x. Apart x (placed_of p)) vs
  clear_placed = states_apart runs Running Placed p.jobs vs (placed_of p) refl refl run so.placed_are

  clear_once : Distinct ((victims_of p.line ++ vs) ++ placed_of p)
  clear_once =
      let ws : List ℕ = victims_of p.line in
      let ps : List ℕ = placed_of p in
      distinct_append
      (ws ++ vs)
      ps
      (distinct_append ws vs (distinct_left ws ps so.once) differ clear_victims)
      (distinct_right ws ps so.once)
      (all_append (λ x. Apart x ps) ws vs (distinct_parts ws ps so.once) clear_placed)

  -- so there is room for them
  pub clear_room : p.line.evicted + length vs + p.count ≤ 128
  clear_room =
      let ws : List ℕ = victims_of p.line in
      let ps : List ℕ = placed_of p in
      let b : All (λ k. k < 128) ((ws ++ vs) ++ ps) =
      all_append
      (λ k. k < 128)
      (ws ++ vs)
      ps
      (all_append (λ k. k < 128) ws vs (all_left (λ k. k < 128) ws ps (all_below p so)) (all_weaken (InState Running p.jobs) (λ k. k < 128) vs (λ k h. h.0) run))
      (all_right (λ k. k < 128) ws ps (all_below p so)) in
      omega
      (arith, distinct_few 128 ((ws ++ vs) ++ ps) clear_once b, length-append (ws ++ vs) ps, length-append ws vs, so.evicted, so.count)

  -- a job that is none of them stays as it is
  pub clear_other : (k : ℕ) → has k vs ≡ false → job_at (cleared clock p id vs) k ≡ job_at p k
  unfolding cleared
  clear_other k h = evicted_other clock p.jobs vs k h

  -- each of them was evicted
  pub clear_it : (k : ℕ) → has k vs ≡ true → job_at (cleared clock p id vs) k ≡ Life.evicted (job_at p k) clock
  unfolding cleared
  clear_it k h = evicted_in clock p.jobs vs k differ (rw so.jobs (has_all (InState Running p.jobs) k vs run h).0) h

  -- each counts
  pub clear_evicted : (cleared clock p id vs).line.evicted ≡ p.line.evicted + length vs
  unfolding cleared
  clear_evicted = joins_evicted clock (evicted_all clock p.jobs vs) id p.line vs (omega (arith, clear_room))

  -- they stand behind the victims before them
  pub clear_behind : victims_of (cleared clock p id vs).line ≡ victims_of p.line ++ vs
  unfolding cleared
  clear_behind = joins_victims clock (evicted_all clock p.jobs vs) id p.line vs so.line (omega (arith, clear_room))

  -- who is placed stays placed
  pub clear_places : placed_of (cleared clock p id vs) ≡ placed_of p
  unfolding cleared
  clear_places = refl

  -- jobs that are none of them keep their state
  clear_keeps : (state : JobState) (l : List ℕ) → All (λ x. Apart x vs) l → All (InState state p.jobs) l → All (InState state (cleared clock p id vs).jobs) l
  clear_keeps state l a h =
      all_weaken
      (λ k. Apart k vs × InState state p.jobs k)
      (InState state (cleared clock p id vs).jobs)
      l
      (λ k i. (i.1.0, rw (clear_other k (apart_has k vs i.0)) i.1.1))
      (all_both (λ k. Apart k vs) (InState state p.jobs) l a h)

  pub clear_standing : Standing (cleared clock p id vs)
  unfolding cleared Life.evicted
  clear_standing =
      let ws : List ℕ = victims_of p.line in
      let ps : List ℕ = placed_of p in
      let q : Pass = cleared clock p id vs in
      let e : victims_of q.line ≡ ws ++ vs = clear_behind in
      let leave : All (InState Waiting q.jobs) vs =
      all_members
      (InState Waiting q.jobs)
      vs
      (λ k m. ((all_member (InState Running p.jobs) k vs run m).0, ap (λ (x : Job). x.state) (clear_it k (member_has k vs m)))) in
      record {
        gpus = freed_length p.gpus vs ∙ so.gpus;
        jobs = evicted_length clock p.jobs vs ∙ so.jobs;
        line = joins_sized clock (evicted_all clock p.jobs vs) id p.line vs so.line;
        placed = so.placed;
        victims_wait = rw e (all_append (InState Waiting q.jobs) ws vs (clear_keeps Waiting ws clear_victims so.victims_wait) leave);
        placed_are = clear_keeps Placed ps (states_apart Usage.placed Placed Running p.jobs ps vs refl refl so.placed_are run) so.placed_are;
        once = rw e clear_once;
        evicted = rw (e, clear_evicted, length-append ws vs) (omega (arith, so.evicted));
        count = so.count;
      }

  -- the job for which they left is as it was, and still no victim
  pub clear_looked : Looked p id → (job_at (cleared clock p id vs) id ≡ job_at p id) × Looked (cleared clock p id vs) id
  clear_looked looked =
      let h : has id vs ≡ false = apart_has id vs
      (states_apart waits_in Waiting Running p.jobs (id ∷ []) vs refl refl ((waiting_in p.jobs id so.jobs looked.waiting, looked.waiting), tt) run).0 in
      let e : job_at (cleared clock p id vs) id ≡ job_at p id = clear_other id h in (
        e,
        record {
          waiting = rw e looked.waiting;
          spared = rw (clear_behind, has_append id (victims_of p.line) vs) (none_or (has id (victims_of p.line)) (has id vs) looked.spared h);
        },
      )
