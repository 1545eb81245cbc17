-- Ownership between steps: whoever owns a GPU or a slice is a running job, and a running job holds exactly what it asks for.
use Rattle.std.specs.Prelude.{◌≡◌, true, List, ℕ, ◌+◌, ◌≤◌, ◌<◌, get_or}
use Rattle.std.proofs.Common.{ap}
use Rattle.laws.specs.Tests.{fails}
use Rattle.laws.specs.Lists.{all_get_d}
use Rattle.model.specs.Gpu.{no_gpu}
use Rattle.model.specs.declared.gpu.Gpu.{Gpu}
use Rattle.model.specs.declared.job.Job.{Job}
use Rattle.model.specs.declared.job.JobState.TheVariants.{Running}
use Rattle.starts.specs.Begin.{amount}
use Rattle.history.specs.Good.{job_at}
use Rattle.history.specs.Owners.{nothing, holds, wanted, Formed, Owners}
use Rattle.history.specs.OwnersGiven.{none_formed}
use Rattle.history.specs.OwnersChanges.{holds_in}
use Rattle.history.specs.OwnersMeaning.{whole_alone, gpu_owner, slice_owner, owner_in, job_holds, job_amount, job_nothing}
use Rattle.history.specs.NonePlaced.{NonePlaced, holder_runs}

-- n are the loaded GPUs. A GPU has one owner or none, and so has a slice: the job's number plus 1, or 0.
pub record Owned (n : ℕ) (gpus : List Gpu) (jobs : List Job) : Type 0 where
  -- the owner of a GPU, and of a slice, is a job that runs
  pub gpu : (i k : ℕ) → (get_or gpus i no_gpu).owner ≡ k + 1 → (k < 128) × ((job_at jobs k).state ≡ Running)
  pub slice : (i m k : ℕ) → get_or (get_or gpus i no_gpu).owners m 0 ≡ k + 1 → (k < 128) × ((job_at jobs k).state ≡ Running)
  -- only slices that a GPU was cut into have owners, and none of a GPU that is owned whole
  pub cut : (i m : ℕ) → 0 < get_or (get_or gpus i no_gpu).owners m 0 → m < (get_or gpus i no_gpu).slices
  pub whole : (i m : ℕ) → 0 < (get_or gpus i no_gpu).owner → get_or (get_or gpus i no_gpu).owners m 0 ≡ 0
  -- behind the loaded GPUs stands none
  pub behind : (i : ℕ) → n ≤ i → get_or gpus i no_gpu ≡ no_gpu
  -- a running job holds the GPUs, or of a MIG job the slices, that it asks for, as many as its started decision says
  pub exactly : (k : ℕ) → (job_at jobs k).state ≡ Running → holds (k + 1) gpus ≡ wanted (job_at jobs k).ask
  pub amounts : (k : ℕ) → (job_at jobs k).state ≡ Running → (holds (k + 1) gpus).gpus + (holds (k + 1) gpus).slices ≡ amount (job_at jobs k).ask
  -- any other holds nothing
  pub none : (k : ℕ) → ((job_at jobs k).state ≡ Running → ⊥) → holds (k + 1) gpus ≡ nothing

-- it follows where nobody is placed
pub owners_owned : (n : ℕ) (gpus : List Gpu) (jobs : List Job) → Owners n gpus jobs → NonePlaced jobs → Owned n gpus jobs
owners_owned n gpus jobs o z =
    record {
      gpu = λ i k e. owner k (gpu_owner n gpus jobs o i k e);
      slice = λ i m k e. owner k (slice_owner n gpus jobs o i m k e);
      cut = λ i m h. (formed i).inside m h;
      whole = λ i m h. whole_alone (get_or gpus i no_gpu) (formed i) h m;
      behind = o.behind;
      exactly = λ k r. job_holds n gpus jobs o k (ap holds_in r);
      amounts = λ k r. job_amount n gpus jobs o k (ap holds_in r);
      none = λ k r. job_nothing n gpus jobs o k (fails (holds_in (job_at jobs k).state) (λ h. r (holder_runs jobs z k h)));
    }
  where
    owner : (k : ℕ) → holds_in (job_at jobs k).state ≡ true → (k < 128) × ((job_at jobs k).state ≡ Running)
    owner k h = (owner_in n gpus jobs o k h, holder_runs jobs z k h)

    formed : (i : ℕ) → Formed (get_or gpus i no_gpu)
    formed i = all_get_d Formed gpus i no_gpu o.formed none_formed
