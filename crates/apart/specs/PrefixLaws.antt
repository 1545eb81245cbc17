-- The prefix that leaves is the shortest that helps, and what its leaving changes.
use Rattle.std.specs.Prelude.{◌≡◌, true, false, eqb, leb, get_or, take, set, replicate, Float}
use Rattle.std.proofs.Math.Path.{refl, ap}
use Rattle.std.proofs.Common.{sym, ◌∙◌, arith}
use Rattle.std.proofs.Math.Logic.{⊎_elim}
use Rattle.std.proofs.Math.Bool.{Bool}
use mathlib.Core.List.{List, [], ◌∷◌, map}
use Prim.Native.Nat.{ℕ, ◌-◌, ◌<◌, ◌≤◌}
use Rattle.std.proofs.Math.ListN.{length, length-set}
use Rattle.std.proofs.lemmas.List.{length-map}
use Rattle.std.proofs.Math.Seq.{take-append-le, get_or-set_same, get_or-set_other}
use borrow.Author.Tests.{eqb-false, leb-true, leb-false}
use Rattle.laws.specs.Tests.{split, never_both, fails, or_none, le_or_lt}
use Rattle.laws.specs.Lists.{pad, All, Apart, Distinct, distinct_take, all_map, all_weaken, set_kept}
use Rattle.laws.specs.Search.{has, has_cases, has_all, has_take, first, first_range, first_has, first_before}
use Rattle.small.specs.Small.{plus_one}
use Rattle.model.specs.Job.{no_job}
use Rattle.model.specs.declared.gpu.Gpu.{Gpu}
use Rattle.model.specs.declared.job.Job.{Job}
use Rattle.model.specs.declared.setting.Setting.{Setting}
use Rattle.mig.specs.Owner.{freed}
use Rattle.life.specs.Life.{evicted}
use Rattle.resource.specs.Cause.{placeable}
use Rattle.preemptive.specs.Candidate.{candidates}
use Rattle.apart.specs.CandidateLaws.{MakesWay, candidates_in, candidates_distinct}
use Rattle.preemptive.specs.Prefix.{freed_all, evicted_all, opens, shortest, made, preempted}

-- ---- the shortest nonempty prefix that helps

-- of prefixes up to length n, k is the length of the shortest nonempty one that helps, or 0 if none does
pub record IsShortest (helps : ℕ → Bool) (n k : ℕ) : Type 0 where
  pub within : k ≤ n
  pub enough : 0 < k → helps k ≡ true
  pub least : (m : ℕ) → 0 < m → m < k → helps m ≡ false
  pub none : k ≡ 0 → (m : ℕ) → 0 < m → m ≤ n → helps m ≡ false

-- no other number is
pub shortest_only : (helps : ℕ → Bool) (n k m : ℕ) → IsShortest helps n k → IsShortest helps n m → k ≡ m
shortest_only helps n k m a b =
    ⊎_elim
    (λ h. ⊎_elim (λ g. omega arith) (λ g. absurd (less k m g a b)) (le_or_lt m k))
    (λ h. absurd (less m k h b a))
    (le_or_lt k m)
  where
    less : (k m : ℕ) → k < m → IsShortest helps n k → IsShortest helps n m → ⊥
    less k m h a b =
        ⊎_elim
        (λ z. never_both (b.enough (omega arith)) (a.none (omega arith) m (omega arith) b.within))
        (λ z. never_both (a.enough z) (b.least k z h))
        (le_or_lt k 0)

module _ (s : Setting) (clock : Float) (gpus : List Gpu) (jobs : List Job) (j : Job) (cs : List ℕ) where
  -- as many leave
  pub shortest_prefix : IsShortest (opens s clock gpus jobs j cs) (length cs) (shortest s clock gpus jobs j cs)
  unfolding shortest
  shortest_prefix =
      let p : ℕ → Bool = opens s clock gpus jobs j cs in
      let n : ℕ = length cs in
      let k : ℕ = first p n 1 in
      split
      (leb k n)
      (λ e. rw e
      (record {
        within = leb-true k n e;
        enough = λ h. first_has p n 1 (omega (arith, leb-true k n e));
        least = λ m a b. first_before p n 1 m (omega arith) b;
        none = λ z. absurd (omega (arith, (first_range p n 1).0));
      }))
      (λ e. rw e
      (record {
        within = omega arith;
        enough = λ h. absurd (omega arith);
        least = λ m a b. absurd (omega arith);
        none = λ z m a b. first_before p n 1 m (omega arith) (omega (arith, leb-false k n e));
      }))

-- ---- what preemption gives back

module _ (s : Setting) (clock : Float) (gpus : List Gpu) (jobs : List Job) (j : Job) where
  -- as many leave as it takes
  pub preempted_count : IsShortest (opens s clock gpus jobs j (candidates s jobs j.ask)) (length (candidates s jobs j.ask)) (preempted s clock gpus jobs j).count
  unfolding preempted made
  preempted_count = shortest_prefix s clock gpus jobs j (candidates s jobs j.ask)

  -- the victims are the first candidates
  pub preempted_victims : take (preempted s clock gpus jobs j).count (preempted s clock gpus jobs j).victims ≡ take
      (preempted s clock gpus jobs j).count (candidates s jobs j.ask)
  unfolding preempted made pad
  preempted_victims =
      take-append-le
      (preempted s clock gpus jobs j).count
      (candidates s jobs j.ask)
      (replicate (128 - length (candidates s jobs j.ask)) 0)
      preempted_count.within

  -- the tables are those after the victims left
  pub preempted_tables : ((preempted s clock gpus jobs j).gpus ≡ freed_all gpus
      (take (preempted s clock gpus jobs j).count (candidates s jobs j.ask))) ×
      ((preempted s clock gpus jobs j).jobs ≡ evicted_all clock jobs (take (preempted s clock gpus jobs j).count (candidates s jobs j.ask)))
  unfolding preempted made
  preempted_tables = (refl, refl)

  -- no victim stands there twice
  pub victims_distinct : Distinct (take (preempted s clock gpus jobs j).count (preempted s clock gpus jobs j).victims)
  victims_distinct =
      rw preempted_victims
      (distinct_take (preempted s clock gpus jobs j).count (candidates s jobs j.ask) (candidates_distinct s jobs j.ask))

  -- each is a loaded job that makes way
  pub victims_in : (i : ℕ) → has i (take (preempted s clock gpus jobs j).count (preempted s clock gpus jobs j).victims) ≡ true →
      (i < 128) × (i < s.jobs) × MakesWay s.options.aware j.ask (get_or jobs i no_job)
  victims_in i h =
      candidates_in s jobs j.ask i (has_take i (preempted s clock gpus jobs j).count (candidates s jobs j.ask) (rw preempted_victims at h))

  -- where somebody leaves the job is placeable after
  pub preempted_opens : 0 < (preempted s clock gpus jobs j).count → placeable s (preempted s clock gpus jobs j).gpus (preempted s clock gpus jobs j).jobs j ≡ true
  preempted_opens h = rw (preempted_tables.0, preempted_tables.1) (preempted_count.enough h)

  -- where nobody leaves the tables are as they were
  pub preempted_none : (preempted s clock gpus jobs j).count ≡ 0 → ((preempted s clock gpus jobs j).gpus ≡ gpus) × ((preempted s clock gpus jobs j).jobs ≡ jobs)
  unfolding freed_all evicted_all
  preempted_none e =
      (preempted_tables.0 ∙ rw e, preempted_tables.1 ∙ rw e)

-- ---- jobs that leave one after the other: the GPUs

-- as many GPUs as before
pub freed_length : (gpus : List Gpu) (vs : List ℕ) → length (freed_all gpus vs) ≡ length gpus
unfolding freed_all
freed_length gpus [] = refl
freed_length gpus (v ∷ vs) = freed_length (map (freed (plus_one v)) gpus) vs ∙ length-map gpus (freed (plus_one v))

-- what freeing keeps of a GPU holds of each after
pub freed_each : (P : Gpu → Type 0) → ((owner : ℕ) (g : Gpu) → P g → P (freed owner g)) → (gpus : List Gpu) (vs : List ℕ) → All P gpus → All P (freed_all gpus vs)
unfolding freed_all
freed_each P f gpus [] h = h
freed_each P f gpus (v ∷ vs) h =
    freed_each
    P
    f
    (map (freed (plus_one v)) gpus)
    vs
    (all_map P (freed (plus_one v)) gpus (all_weaken P (λ g. P (freed (plus_one v) g)) gpus (f (plus_one v)) h))

-- ---- the jobs

module _ (clock : Float) where
  -- as many jobs as before
  pub evicted_length : (jobs : List Job) (vs : List ℕ) → length (evicted_all clock jobs vs) ≡ length jobs
  unfolding evicted_all
  evicted_length jobs [] = refl
  evicted_length jobs (v ∷ vs) =
      evicted_length (set jobs v (evicted (get_or jobs v no_job) clock)) vs ∙ length-set jobs v (evicted (get_or jobs v no_job) clock)

  -- a job that is none of them stays as it is
  pub evicted_other : (jobs : List Job) (vs : List ℕ) (i : ℕ) → has i vs ≡ false → get_or (evicted_all clock jobs vs) i no_job ≡ get_or jobs i no_job
  unfolding evicted_all
  evicted_other jobs [] i h = refl
  evicted_other jobs (v ∷ vs) i h =
      let r : (eqb i v ≡ false) × (has i vs ≡ false) = or_none (eqb i v) (has i vs) h in
      evicted_other (set jobs v (evicted (get_or jobs v no_job) clock)) vs i r.1
      ∙ get_or-set_other jobs v i (evicted (get_or jobs v no_job) clock) no_job (eqb-false i v r.0)

  apart_has : (i : ℕ) (l : List ℕ) → Apart i l → has i l ≡ false
  apart_has i l h = fails (has i l) (λ e. has_all (λ y. i ≡ y → ⊥) i l h e refl)

  -- each of them is evicted, once
  pub evicted_in : (jobs : List Job) (vs : List ℕ) (i : ℕ) → Distinct vs → i < length jobs → has i vs ≡ true →
      get_or (evicted_all clock jobs vs) i no_job ≡ evicted (get_or jobs i no_job) clock
  unfolding evicted_all
  evicted_in jobs [] i d h e = absurd (never_both e refl)
  evicted_in jobs (v ∷ vs) i d h e =
      let new : Job = evicted (get_or jobs v no_job) clock in
      ⊎_elim
      (λ q. let q : i ≡ v = q in
      rw q
      (evicted_other (set jobs v new) vs v (apart_has v vs d.0) ∙ get_or-set_same jobs v new no_job (rw q at h)))
      (λ q. evicted_in (set jobs v new) vs i d.1 (rw (length-set jobs v new) h) q
      ∙ ap (λ (w : Job). evicted w clock) (get_or-set_other jobs v i new no_job (λ a. has_all (λ y. v ≡ y → ⊥) i vs d.0 q (sym a))))
      (has_cases i v vs e)

  -- what an eviction keeps of a job is kept of each
  pub evicted_kept : {B : Type 0} (g : Job → B) → ((v : Job) → g (evicted v clock) ≡ g v) → (jobs : List Job) (vs : List ℕ) (i : ℕ) →
      g (get_or (evicted_all clock jobs vs) i no_job) ≡ g (get_or jobs i no_job)
  unfolding evicted_all
  evicted_kept g f jobs [] i = refl
  evicted_kept g f jobs (v ∷ vs) i =
      evicted_kept g f (set jobs v (evicted (get_or jobs v no_job) clock)) vs i ∙ set_kept jobs v (evicted (get_or jobs v no_job) clock) no_job g (f (get_or jobs v no_job)) i

  -- what the trace says of a job stays
  pub evicted_ask : (jobs : List Job) (vs : List ℕ) (i : ℕ) → (get_or (evicted_all clock jobs vs) i no_job).ask ≡ (get_or jobs i no_job).ask
  unfolding evicted
  evicted_ask jobs vs i = evicted_kept (λ v. v.ask) (λ v. refl) jobs vs i
