-- What the count of owners says of each GPU, each slice and each job.
use Rattle.std.specs.Prelude.{◌≡◌, refl, true, false, List, ℕ, ◌+◌, ◌≤◌, ◌<◌, eqb, length}
use Rattle.std.proofs.Math.Path.{ap}
use Rattle.std.proofs.Common.{◌∙◌, arith, eq-eqb}
use Rattle.std.proofs.Math.Logic.{⊎_elim}
use Rattle.std.proofs.Math.ListN.{get_or}
use Rattle.laws.specs.Tests.{split, le_or_lt}
use Rattle.laws.specs.Tables.{past_read}
use Rattle.laws.specs.Sums.{sum_over, sum_at}
use Rattle.model.specs.Gpu.{no_gpu}
use Rattle.model.specs.declared.gpu.Gpu.{Gpu}
use Rattle.model.specs.declared.job.Job.{Job}
use Rattle.model.specs.declared.job.JobState.TheVariants.{Pending}
use Rattle.mig.specs.OwnerLaws.{is_of, owned_slices}
use Rattle.starts.specs.Begin.{amount}
use Rattle.history.specs.Good.{job_at}
use Rattle.history.specs.Changes.{in_table, not_pending}
use Rattle.history.specs.Owners.{Share, nothing, holds, wanted, Formed, Owners}
use Rattle.history.specs.OwnersGiven.{no_slice}
use Rattle.history.specs.OwnersChanges.{holds_in, due_held, due_free}

-- ---- one GPU

-- a GPU that somebody owns whole has no owned slice
pub whole_alone : (g : Gpu) → Formed g → 0 < g.owner → (i : ℕ) → get_or g.owners i 0 ≡ 0
whole_alone g f o i =
    ⊎_elim
    (λ z. omega arith)
    (λ z. absurd (omega (arith, f.whole o, f.inside i z)))
    (le_or_lt (get_or g.owners i 0) 0)

-- ---- who owns something holds it

module _ (gpus : List Gpu) (k i : ℕ) where
  -- a GPU counts
  gpu_counts : (get_or gpus i no_gpu).owner ≡ k + 1 → 1 ≤ (holds (k + 1) gpus).gpus
  unfolding holds
  gpu_counts e =
      let one : is_of (k + 1) (get_or gpus i no_gpu).owner ≡ 1 = rw (eq-eqb (get_or gpus i no_gpu).owner (k + 1) e) in
      ⊎_elim
      (λ past. let z : 0 ≡ (get_or gpus i no_gpu).owner = ap (λ (g : Gpu). g.owner) (past_read gpus i no_gpu past) in absurd (omega arith))
      (λ inside. omega (arith, one, sum_at (λ g. is_of (k + 1) g.owner) gpus i no_gpu inside))
      (le_or_lt (length gpus) i)

  -- a slice counts
  slice_counts : (n : ℕ) → get_or (get_or gpus i no_gpu).owners n 0 ≡ k + 1 → 1 ≤ (holds (k + 1) gpus).slices
  unfolding holds owned_slices
  slice_counts n e =
      let one : is_of (k + 1) (get_or (get_or gpus i no_gpu).owners n 0) ≡ 1 = rw (eq-eqb (get_or (get_or gpus i no_gpu).owners n 0) (k + 1) e) in
      ⊎_elim
      (λ past. let z : 0 ≡ get_or (get_or gpus i no_gpu).owners n 0 = past_read (get_or gpus i no_gpu).owners n 0 past in absurd (omega arith))
      (λ inside.
      let some : is_of (k + 1) (get_or (get_or gpus i no_gpu).owners n 0) ≤ sum_over (is_of (k + 1)) (get_or gpus i no_gpu).owners =
      sum_at (is_of (k + 1)) (get_or gpus i no_gpu).owners n 0 inside in
      ⊎_elim
      (λ past. let z : get_or (get_or gpus i no_gpu).owners n 0 ≡ 0 = rw (← past_read gpus i no_gpu past) (no_slice n) in absurd (omega arith))
      (λ within. omega (arith, one, some, sum_at (owned_slices (k + 1)) gpus i no_gpu within))
      (le_or_lt (length gpus) i))
      (le_or_lt (length (get_or gpus i no_gpu).owners) n)

module _ (loaded : ℕ) (gpus : List Gpu) (jobs : List Job) (o : Owners loaded gpus jobs) where
  -- who holds something has to
  holder : (k : ℕ) → 1 ≤ (holds (k + 1) gpus).gpus + (holds (k + 1) gpus).slices → holds_in (job_at jobs k).state ≡ true
  holder k h =
      split
      (holds_in (job_at jobs k).state)
      (λ e. e)
      (λ e. let z : holds (k + 1) gpus ≡ nothing = o.exact k ∙ due_free (job_at jobs k) e in
      absurd (omega (arith, h, ap (λ (x : Share). x.gpus) z, ap (λ (x : Share). x.slices) z)))

  -- the owner of a GPU is a job that runs or is placed
  pub gpu_owner : (i k : ℕ) → (get_or gpus i no_gpu).owner ≡ k + 1 → holds_in (job_at jobs k).state ≡ true
  gpu_owner i k e = holder k (omega (arith, gpu_counts gpus k i e))

  -- and so is the owner of a slice
  pub slice_owner : (i n k : ℕ) → get_or (get_or gpus i no_gpu).owners n 0 ≡ k + 1 → holds_in (job_at jobs k).state ≡ true
  slice_owner i n k e = holder k (omega (arith, slice_counts gpus k i n e))

  -- such a job is in the table
  pub owner_in : (k : ℕ) → holds_in (job_at jobs k).state ≡ true → k < 128
  owner_in k e = in_table jobs k o.size (not_pending (job_at jobs k).state Pending holds_in e refl)

  -- it holds exactly what it asks for: whole GPUs, or slices of a MIG job
  pub job_holds : (k : ℕ) → holds_in (job_at jobs k).state ≡ true → holds (k + 1) gpus ≡ wanted (job_at jobs k).ask
  job_holds k e = o.exact k ∙ due_held (job_at jobs k) e

  -- as many as its started decision says
  pub job_amount : (k : ℕ) → holds_in (job_at jobs k).state ≡ true → (holds (k + 1) gpus).gpus + (holds (k + 1) gpus).slices ≡ amount (job_at jobs k).ask
  job_amount k e =
      rw (job_holds k e)
      (split
      (eqb (job_at jobs k).ask.profile 0)
      (λ z. rw z (omega arith))
      (λ z. rw z (omega arith)))

  -- any other job holds nothing
  pub job_nothing : (k : ℕ) → holds_in (job_at jobs k).state ≡ false → holds (k + 1) gpus ≡ nothing
  job_nothing k e = o.exact k ∙ due_free (job_at jobs k) e
