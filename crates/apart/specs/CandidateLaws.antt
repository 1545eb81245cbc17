-- Who is a candidate, that all candidates are there, and their order.
use Rattle.std.specs.Prelude.{◌≡◌, refl, ◌⊎◌, Bool, false, ◌&&◌, ltb, eqb, get_or}
use Rattle.std.proofs.Common.{◌∙◌, inl, inr, ⊎_elim, ltb-true, lt-ltb, eqb-true, eq-eqb, leb-true, leb-false, le-leb}
use Rattle.std.proofs.Math.Bool.{true}
use mathlib.Core.List.{List, [], ◌∷◌}
use Prim.Native.Nat.{ℕ, zero, suc, ◌+◌, ◌<◌, ◌≤◌, min}
use native.Mathlib.Omega.{arith}
use Rattle.std.proofs.Math.ListN.{length}
use Rattle.laws.specs.Tests.{split, never_both, and_both, eq_or_ne}
use Rattle.laws.specs.Lists.{All, Distinct, all_weaken, all_at, all_both}
use Rattle.laws.specs.Search.{has, Rising, has_all, those_has, those_length, those_distinct, those_rising}
use Rattle.laws.specs.Sort.{insert, sort, Preorder, Ordered, only, insert_all, sort_all, sort_length, sort_distinct, sort_has, sort_ordered, sort_stable_equal}
use Rattle.model.specs.Job.{no_job}
use Rattle.model.specs.declared.job.Ask.{Ask}
use Rattle.model.specs.declared.job.Job.{Job}
use Rattle.model.specs.declared.job.JobState.{JobState}
use Rattle.model.specs.declared.job.JobState.TheVariants.{Pending, Waiting, Placed, Running, Finished, Failed}
use Rattle.model.specs.declared.setting.Setting.{Setting}
use Rattle.cluster.specs.Usage.{runs, running}
use Rattle.cluster.specs.Queue.{priority_of}
use Rattle.preemptive.specs.Candidate.{open_to, candidate, candidate_at, candidates_by_number, lower, candidates}
use Rattle.pass.specs.StayLaws.{candidates_each}

-- ---- who is a candidate

-- what a job has to be to make way: running, of lower priority, evicted fewer than 3 times; quota-aware off, or no tenant asks, or the same
pub record MakesWay (aware : Bool) (ask : Ask) (v : Job) : Type 0 where
  pub runs_now : v.state ≡ Running
  pub below : v.ask.priority < ask.priority
  pub few : v.evictions < 3
  pub tenants : (aware ≡ false) ⊎ ((ask.tenant ≡ 0) ⊎ (v.ask.tenant ≡ ask.tenant))

pub runs_only : (s : JobState) → runs s ≡ true → s ≡ Running
runs_only Pending h = absurd (never_both h refl)
runs_only Waiting h = absurd (never_both h refl)
runs_only Placed h = absurd (never_both h refl)
runs_only Running h = refl
runs_only Finished h = absurd (never_both h refl)
runs_only Failed h = absurd (never_both h refl)

open_means : (aware : Bool) (tenant other : ℕ) → open_to aware tenant other ≡ true → (aware ≡ false) ⊎ ((tenant ≡ 0) ⊎ (other ≡ tenant))
open_means false tenant other h = inl refl
open_means true tenant other h =
    inr
    (split
    (eqb tenant 0)
    (λ e. inl (eqb-true tenant 0 e))
    (λ e. let k : eqb other tenant ≡ true = rw e at h in inr (eqb-true other tenant k)))

open_if : (aware : Bool) (tenant other : ℕ) → (aware ≡ false) ⊎ ((tenant ≡ 0) ⊎ (other ≡ tenant)) → open_to aware tenant other ≡ true
open_if false tenant other h = refl
open_if true tenant other h =
    split
    (eqb tenant 0)
    (λ e. rw e)
    (λ e. rw e
    (⊎_elim
    (λ a. absurd (never_both refl a))
    (λ a. ⊎_elim (λ b. absurd (never_both (eq-eqb tenant 0 b) e)) (λ b. eq-eqb other tenant b) a)
    h))

-- a candidate is such a job
pub candidate_means : (aware : Bool) (ask : Ask) (v : Job) → candidate aware ask v ≡ true → MakesWay aware ask v
unfolding candidate
candidate_means aware ask v h =
    let a : (running v && ltb v.ask.priority ask.priority ≡ true) ×
    (ltb v.evictions 3 && open_to aware ask.tenant v.ask.tenant ≡ true) =
    and_both (running v && ltb v.ask.priority ask.priority) (ltb v.evictions 3 && open_to aware ask.tenant v.ask.tenant) h in
    let b : (running v ≡ true) × (ltb v.ask.priority ask.priority ≡ true) = and_both (running v) (ltb v.ask.priority ask.priority) a.0 in
    let d : (ltb v.evictions 3 ≡ true) × (open_to aware ask.tenant v.ask.tenant ≡ true) =
    and_both (ltb v.evictions 3) (open_to aware ask.tenant v.ask.tenant) a.1 in
    record {
      runs_now = runs_only v.state b.0;
      below = ltb-true v.ask.priority ask.priority b.1;
      few = ltb-true v.evictions 3 d.0;
      tenants = open_means aware ask.tenant v.ask.tenant d.1;
    }

-- such a job is a candidate
pub candidate_if : (aware : Bool) (ask : Ask) (v : Job) → MakesWay aware ask v → candidate aware ask v ≡ true
unfolding candidate
candidate_if aware ask v w =
    rw (w.runs_now, lt-ltb v.ask.priority ask.priority w.below, lt-ltb v.evictions 3 w.few)
    (open_if aware ask.tenant v.ask.tenant w.tenants)

-- ---- all of them, each once

module _ (s : Setting) (jobs : List Job) (ask : Ask) where
  -- what is among them makes way
  pub candidates_in : (i : ℕ) → has i (candidates s jobs ask) ≡ true → (i < 128) × (i < s.jobs) × MakesWay s.options.aware ask (get_or jobs i no_job)
  candidates_in i h =
      let r : (i < 128) × (i < s.jobs) × (candidate_at s.options.aware jobs ask i ≡ true) =
      has_all (λ k. (k < 128) × (k < s.jobs) × (candidate_at s.options.aware jobs ask k ≡ true)) i (candidates s jobs ask) (candidates_each s jobs ask) h in
      (r.0, r.1, candidate_means s.options.aware ask (get_or jobs i no_job) r.2)

  -- none is left out
  pub candidates_has : (i : ℕ) → i < min s.jobs 128 → candidate_at s.options.aware jobs ask i ≡ true → has i (candidates s jobs ask) ≡ true
  unfolding candidates candidates_by_number
  candidates_has i h t =
      sort_has (lower jobs) i (candidates_by_number s.options.aware jobs s.jobs ask)
      ∙ those_has (candidate_at s.options.aware jobs ask) (min s.jobs 128) 0 i (omega arith) (omega arith) t

  -- none stands there twice
  pub candidates_distinct : Distinct (candidates s jobs ask)
  unfolding candidates candidates_by_number
  candidates_distinct =
      sort_distinct (lower jobs) (candidates_by_number s.options.aware jobs s.jobs ask)
      (those_distinct (candidate_at s.options.aware jobs ask) (min s.jobs 128) 0)

  -- there are at most 128, and at most as many as jobs
  pub candidates_length : (length (candidates s jobs ask) ≤ 128) × (length (candidates s jobs ask) ≤ s.jobs)
  unfolding candidates candidates_by_number
  candidates_length =
      let e : length (candidates s jobs ask) ≡ length (candidates_by_number s.options.aware jobs s.jobs ask) =
      sort_length (lower jobs) (candidates_by_number s.options.aware jobs s.jobs ask) in
      let h : length (candidates_by_number s.options.aware jobs s.jobs ask) ≤ min s.jobs 128 =
      those_length (candidate_at s.options.aware jobs ask) (min s.jobs 128) 0 in
      (omega arith, omega arith)

-- ---- by priority, then job number

-- the order by priority is an order
pub lower_order : (jobs : List Job) → Preorder (lower jobs)
lower_order jobs =
    record {
      total = λ x y h. le-leb (at y) (at x) (omega (arith, leb-false (at x) (at y) h));
      trans = λ x y z h k. le-leb (at x) (at z) (omega (arith, leb-true (at x) (at y) h, leb-true (at y) (at z) k));
    }
  where
    at : ℕ → ℕ
    at x = priority_of (get_or jobs x no_job)

-- job x leaves ahead of job y: its priority is lower, or the same and its number lower
abbrev pub Ahead : List Job → ℕ → ℕ → Type 0
Ahead jobs x y = (priority_of (get_or jobs x no_job) < priority_of (get_or jobs y no_job)) ⊎ ((priority_of (get_or jobs x no_job) ≡ priority_of (get_or jobs y no_job)) × (x < y))

-- each leaves ahead of all that follow it
abbrev pub AllAhead : List Job → List ℕ → Type 0
AllAhead jobs [] = Unit {0}
AllAhead jobs (x ∷ l) = All (Ahead jobs x) l × AllAhead jobs l

module _ (jobs : List Job) where
  -- of a lower number the priority decides
  ahead_lower : (x y : ℕ) → x < y → lower jobs x y ≡ true → Ahead jobs x y
  ahead_lower x y h e =
      let k : priority_of (get_or jobs x no_job) ≤ priority_of (get_or jobs y no_job) = leb-true (priority_of (get_or jobs x no_job)) (priority_of (get_or jobs y no_job)) e in
      ⊎_elim
      (λ a. inr (a, h))
      (λ a. inl (omega arith))
      (eq_or_ne (priority_of (get_or jobs x no_job)) (priority_of (get_or jobs y no_job)))

  -- who leaves ahead has no higher priority
  ahead_means : (x y : ℕ) → Ahead jobs x y → lower jobs x y ≡ true
  ahead_means x y h =
      le-leb
      (priority_of (get_or jobs x no_job))
      (priority_of (get_or jobs y no_job))
      (⊎_elim (λ a. omega arith) (λ a. omega (arith, a.0)) h)

  -- a number lower than all, put in
  ahead_insert : (x : ℕ) (l : List ℕ) → All (λ y. x < y) l → AllAhead jobs l → AllAhead jobs (insert (lower jobs) x l)
  unfolding insert
  ahead_insert x [] h k = (tt, tt)
  ahead_insert x (y ∷ l) h k =
      split
      (lower jobs x y)
      (λ e. rw e
      ((ahead_lower x y h.0 e, behind y l e h.1 k.0), k))
      (λ e. rw e (
        insert_all (lower jobs) (Ahead jobs y) x l (inl (leb-false (priority_of (get_or jobs x no_job)) (priority_of (get_or jobs y no_job)) e)) k.0,
        ahead_insert x l h.1 k.1,
      ))
    where
      behind : (y : ℕ) (l : List ℕ) → lower jobs x y ≡ true → All (λ z. x < z) l → All (Ahead jobs y) l → All (Ahead jobs x) l
      behind y l e a b =
          all_weaken
          (λ z. (x < z) × Ahead jobs y z)
          (Ahead jobs x)
          l
          (λ z w. ahead_lower x z w.0 ((lower_order jobs).trans x y z e (ahead_means y z w.1)))
          (all_both (λ z. x < z) (Ahead jobs y) l a b)

  rising_above : (lo x : ℕ) (l : List ℕ) → x < lo → Rising lo l → All (λ y. x < y) l
  rising_above lo x [] h r = tt
  rising_above lo x (y ∷ l) h r = (omega (arith, r.0), rising_above (y + 1) x l (omega (arith, r.0)) r.1)

  -- rising numbers, sorted by priority
  ahead_sort : (lo : ℕ) (l : List ℕ) → Rising lo l → AllAhead jobs (sort (lower jobs) l)
  unfolding sort
  ahead_sort lo [] r = tt
  ahead_sort lo (x ∷ l) r =
      ahead_insert
      x
      (sort (lower jobs) l)
      (sort_all (lower jobs) (λ y. x < y) l (rising_above (x + 1) x l (omega arith) r.1))
      (ahead_sort (x + 1) l r.1)

  -- an earlier place has one that leaves ahead
  pub ahead_at_lem : (l : List ℕ) (i j d : ℕ) → AllAhead jobs l → i < j → j < length l → Ahead jobs (get_or l i d) (get_or l j d)
  ahead_at_lem [] i j d h a b = absurd (omega arith)
  ahead_at_lem (x ∷ l) i zero d h a b = absurd (omega arith)
  ahead_at_lem (x ∷ l) zero (suc j) d h a b = all_at (Ahead jobs x) l j d h.0 (omega arith)
  ahead_at_lem (x ∷ l) (suc i) (suc j) d h a b = ahead_at_lem l i j d h.1 (omega arith) (omega arith)

module _ (s : Setting) (jobs : List Job) (ask : Ask) where
  -- the candidates stand by priority, then job number
  pub candidates_ahead : AllAhead jobs (candidates s jobs ask)
  unfolding candidates candidates_by_number
  candidates_ahead =
      ahead_sort jobs 0 (candidates_by_number s.options.aware jobs s.jobs ask) (those_rising (candidate_at s.options.aware jobs ask) (min s.jobs 128) 0)

  -- each has no higher priority than all that follow it
  pub candidates_ordered : Ordered (lower jobs) (candidates s jobs ask)
  unfolding candidates
  candidates_ordered =
      sort_ordered (lower jobs) (lower_order jobs) (candidates_by_number s.options.aware jobs s.jobs ask)

  -- those with the priority of x keep their job order
  pub candidates_stable : (x : ℕ) → only (λ y. lower jobs x y && lower jobs y x) (candidates s jobs ask) ≡ only
      (λ y. lower jobs x y && lower jobs y x) (candidates_by_number s.options.aware jobs s.jobs ask)
  unfolding candidates
  candidates_stable x =
      sort_stable_equal (lower jobs) (lower_order jobs) x (candidates_by_number s.options.aware jobs s.jobs ask)
