-- Who stands in the queue: each job that waits, none twice, and none but such as may; what keeps that.
use Rattle.std.specs.Prelude.{◌≡◌, Bool, true, false, List, ◌++◌, ℕ, ◌+◌, ◌≤◌, ◌<◌, length, take, set}
use Rattle.std.proofs.Common.{sym, ap, ◌∙◌, arith, length-append}
use Rattle.laws.specs.Tests.{split, never_both, or_left, or_right}
use Rattle.laws.specs.Lists.{All, Apart, Distinct, all_weaken, all_both, all_append, all_members, distinct_append, set_related}
use Rattle.laws.specs.Search.{has, has_append, has_all, member_has}
use Rattle.model.specs.Job.{no_job}
use Rattle.model.specs.declared.job.Job.{Job}
use Rattle.model.specs.declared.job.JobState.{JobState}
use Rattle.model.specs.declared.job.JobState.TheVariants.{Pending, Waiting, Placed, Running, Finished, Failed}
use Rattle.cluster.specs.Queue.{sorted_queue}
use Rattle.cluster.specs.QueueLaws.{queue_has, queue_distinct}
use Rattle.line.specs.Keep.{waits_in, waits, waits_at, still_waiting}
use Rattle.apart.specs.Few.{apart_has, distinct_few}
use Rattle.apart.specs.KeepLaws.{still_waits, still_has, still_keeps, still_distinct}
use Rattle.history.specs.Good.{job_at}

-- waits, or was placed by the present pass
abbrev pub waits_or_placed : JobState → Bool
waits_or_placed Pending = false
waits_or_placed Waiting = true
waits_or_placed Placed = true
waits_or_placed Running = false
waits_or_placed Finished = false
waits_or_placed Failed = false

-- it is the number of a job in a state that passes the test
abbrev pub Stands : (JobState → Bool) → List Job → ℕ → Type 0
Stands test jobs k = (k < 128) × (test (job_at jobs k).state ≡ true)

pub record Lined (test : JobState → Bool) (jobs : List Job) (q : List ℕ) : Type 0 where
  pub once : Distinct q
  pub each : All (Stands test jobs) q
  pub all : (k : ℕ) → waits_at jobs k ≡ true → has k q ≡ true

-- ---- the jobs change

-- a change to a state in which the job does not wait: nobody begins to wait
pub set_waits : (jobs : List Job) (i : ℕ) (j : Job) → waits j ≡ false → (k : ℕ) → waits_at (set jobs i j) k ≡ true → waits_at jobs k ≡ true
set_waits jobs i j n k =
    set_related jobs i j no_job (λ a b. waits b ≡ true → waits a ≡ true) (λ x h. h) (λ h. absurd (never_both h n)) k

-- who stood may still stand, and nobody else waits
pub lined_changed : (test more : JobState → Bool) (jobs after : List Job) (q : List ℕ) →
    ((k : ℕ) → test (job_at jobs k).state ≡ true → more (job_at after k).state ≡ true) → ((k : ℕ) → waits_at after k ≡ true → waits_at jobs k ≡ true) →
    Lined test jobs q → Lined more after q
lined_changed test more jobs after q f g l =
    record {
      once = l.once;
      each = all_weaken (Stands test jobs) (Stands more after) q (λ k h. (h.0, f k h.1)) l.each;
      all = λ k w. l.all k (g k w);
    }

-- ---- the queue changes

-- another order
pub lined_same : (test : JobState → Bool) (jobs : List Job) (q r : List ℕ) → Distinct r → ((k : ℕ) → has k r ≡ has k q) → Lined test jobs q → Lined test jobs r
lined_same test jobs q r d e l =
    record {
      once = d;
      each = all_members (Stands test jobs) r (λ k m. has_all (Stands test jobs) k q l.each (sym (e k) ∙ member_has k r m));
      all = λ k w. e k ∙ l.all k w;
    }

pub lined_sorted : (test : JobState → Bool) (jobs : List Job) (queue : List ℕ) (n : ℕ) → n ≤ length queue → Lined test jobs (take n queue) →
    Lined test jobs (take n (sorted_queue jobs queue n))
lined_sorted test jobs queue n h l =
    lined_same test jobs (take n queue) (take n (sorted_queue jobs queue n)) (queue_distinct jobs queue n h l.once) (queue_has jobs queue n h) l

-- those that still wait are kept, and nobody began to wait
pub lined_left : (test : JobState → Bool) (jobs after : List Job) (queue : List ℕ) (n : ℕ) →
    ((k : ℕ) → waits_at after k ≡ true → waits_at jobs k ≡ true) → Lined test jobs (take n queue) → Lined waits_in after (still_waiting after queue n)
lined_left test jobs after queue n g l =
    let left : List ℕ = still_waiting after queue n in
    record {
      once = still_distinct after queue n l.once;
      each = all_weaken (λ k. Stands test jobs k × (waits_at after k ≡ true)) (Stands waits_in after) left (λ k h. (h.0.0, h.1))
          (all_both (Stands test jobs) (λ k. waits_at after k ≡ true) left (still_keeps after queue n (Stands test jobs) l.each) (still_waits after queue n));
      all = λ k w. let a : has k (take n queue) ≡ true = l.all k (g k w) in still_has after queue n k ∙ rw (a, w);
    }

-- there are at most 128
pub lined_few : (test : JobState → Bool) (jobs : List Job) (q : List ℕ) → Lined test jobs q → length q ≤ 128
lined_few test jobs q l =
    distinct_few 128 q l.once (all_weaken (Stands test jobs) (λ k. k < 128) q (λ k h. h.0) l.each)

-- ---- jobs join that did not stand in it

module _ (test : JobState → Bool) (jobs : List Job) (q vs : List ℕ) (l : Lined test jobs q) (d : Distinct vs)
    (new : All (λ k. test (job_at jobs k).state ≡ false) vs) where
  join_apart : All (λ x. Apart x vs) q
  join_apart =
      all_weaken
      (Stands test jobs)
      (λ x. Apart x vs)
      q
      (λ x h. all_weaken (λ k. test (job_at jobs k).state ≡ false) (λ y. x ≡ y → ⊥) vs
      (λ y f e. never_both h.1 (ap (λ (z : ℕ). test (job_at jobs z).state) e ∙ f)) new)
      l.each

  join_once : Distinct (q ++ vs)
  join_once = distinct_append q vs l.once d join_apart

  -- there is a place for each
  pub join_room : All (λ k. k < 128) vs → length q + length vs ≤ 128
  join_room b =
      let below : All (λ k. k < 128) q = all_weaken (Stands test jobs) (λ k. k < 128) q (λ k h. h.0) l.each in
      omega (arith, distinct_few 128 (q ++ vs) join_once (all_append (λ k. k < 128) q vs below b), length-append q vs)

  -- and then they stand in it, as no other job changed
  pub lined_joined : (after : List Job) → All (Stands test after) vs → ((k : ℕ) → has k vs ≡ false → job_at after k ≡ job_at jobs k) → Lined test after (q ++ vs)
  lined_joined after now same =
      let kept : All (Stands test after) q =
      all_weaken
      (λ k. Apart k vs × Stands test jobs k)
      (Stands test after)
      q
      (λ k h. (h.1.0, ap (λ (j : Job). test j.state) (same k (apart_has k vs h.0)) ∙ h.1.1))
      (all_both (λ k. Apart k vs) (Stands test jobs) q join_apart l.each) in
      record {
        once = join_once;
        each = all_append (Stands test after) q vs kept now;
        all = λ k w. has_append k q vs ∙ split (has k vs) (λ v. or_right (has k q) (has k vs) v)
            (λ v. or_left (has k q) (has k vs) (l.all k (ap (λ (j : Job). waits j) (sym (same k v)) ∙ w)));
      }
