-- The queue has exactly those that wait, in their order.
use Rattle.std.specs.Prelude.{◌≡◌, refl, Bool, true, false, ◌&&◌, List, [], ◌∷◌, ℕ, ◌≤◌, eqb, length, take}
use Rattle.std.proofs.Common.{◌∙◌, eqb-true}
use Rattle.laws.specs.Tests.{split, and_right}
use Rattle.laws.specs.Lists.{All, Distinct}
use Rattle.laws.specs.Search.{has}
use Rattle.laws.specs.Sort.{only, Ordered, only_all, only_keeps, only_distinct}
use Rattle.eligible.specs.More.{only_length}
use Rattle.model.specs.declared.job.Job.{Job}
use Rattle.line.specs.Keep.{waits_at, still_waiting}

-- a filtered list has what the list has and the test lets through
pub only_has : (c : ℕ → Bool) (k : ℕ) (l : List ℕ) → has k (only c l) ≡ has k l && c k
unfolding only
only_has c k [] = refl
only_has c k (x ∷ l) =
    let r : has k (only c l) ≡ has k l && c k = only_has c k l in
    split
    (eqb k x)
    (λ q. let s : k ≡ x = eqb-true k x q in
    split
    (c x)
    (λ e. let d : c k ≡ true = rw s e in rw (e, q, d))
    (λ e. let d : c k ≡ false = rw s e in rw (e, q, d) (r ∙ and_right (has k l) (c k) d)))
    (λ q. split (c x) (λ e. rw (e, q) r) (λ e. rw (e, q) r))

-- a list in order stays in order
pub only_ordered : {A : Type 0} (before : A → A → Bool) (c : A → Bool) (l : List A) → Ordered before l → Ordered before (only c l)
unfolding only
only_ordered before c [] h = tt
only_ordered before c (x ∷ l) h =
    split
    (c x)
    (λ e. rw e (only_keeps (λ y. before x y ≡ true) c l h.0, only_ordered before c l h.1))
    (λ e. rw e (only_ordered before c l h.1))

-- where all pass nothing changes
pub only_every : {A : Type 0} (c : A → Bool) (l : List A) → All (λ x. c x ≡ true) l → only c l ≡ l
unfolding only
only_every c [] h = refl
only_every c (x ∷ l) h = rw (h.0, only_every c l h.1)

module _ (jobs : List Job) (queue : List ℕ) (n : ℕ) where
  -- each waits
  pub still_waits : All (λ k. waits_at jobs k ≡ true) (still_waiting jobs queue n)
  unfolding still_waiting
  still_waits = only_all (waits_at jobs) (take n queue)

  -- those of the queue that wait, and no others
  pub still_has : (k : ℕ) → has k (still_waiting jobs queue n) ≡ has k (take n queue) && waits_at jobs k
  unfolding still_waiting
  still_has k = only_has (waits_at jobs) k (take n queue)

  -- no more than there were
  pub still_length : length (still_waiting jobs queue n) ≤ length (take n queue)
  unfolding still_waiting
  still_length = only_length (waits_at jobs) (take n queue)

  -- what holds of each of the queue
  pub still_keeps : (P : ℕ → Type 0) → All P (take n queue) → All P (still_waiting jobs queue n)
  unfolding still_waiting
  still_keeps P h = only_keeps P (waits_at jobs) (take n queue) h

  -- no repeat comes in
  pub still_distinct : Distinct (take n queue) → Distinct (still_waiting jobs queue n)
  unfolding still_waiting
  still_distinct h = only_distinct (waits_at jobs) (take n queue) h

  -- a queue in order stays in order
  pub still_ordered : (before : ℕ → ℕ → Bool) → Ordered before (take n queue) → Ordered before (still_waiting jobs queue n)
  unfolding still_waiting
  still_ordered before h = only_ordered before (waits_at jobs) (take n queue) h

  -- where all wait the queue stays as it is
  pub still_all : All (λ k. waits_at jobs k ≡ true) (take n queue) → still_waiting jobs queue n ≡ take n queue
  unfolding still_waiting
  still_all h = only_every (waits_at jobs) (take n queue) h
