-- As loaded nobody owns anything, and no job has to hold anything.
use Rattle.std.specs.Prelude.{◌≡◌, refl, List, ℕ, ◌+◌, ◌≤◌, ◌<◌, length, get_or, replicate}
use Rattle.std.proofs.Common.{sym, ap, ◌∙◌, arith, ne_eqb}
use Rattle.laws.specs.Lists.{All, all_weaken, all_of, all_replicate}
use Rattle.laws.specs.Sums.{sum_none}
use Rattle.model.specs.Sizes as Sizes
use Rattle.model.specs.Gpu.{no_gpu}
use Rattle.model.specs.declared.gpu.Gpu.{Gpu}
use Rattle.model.specs.declared.job.Job.{Job}
use Rattle.model.specs.declared.job.JobState.TheVariants.{Pending}
use Rattle.mig.specs.OwnerLaws.{is_of, owned_slices}
use Rattle.history.specs.Good.{job_at}
use Rattle.history.specs.Owners.{nothing, holds, Formed, Owners}
use Rattle.history.specs.OwnersFreed.{share_same}
use Rattle.history.specs.OwnersGiven.{no_slice}
use Rattle.history.specs.OwnersChanges.{holds_in, due_free}

-- a GPU as loaded: nobody's, uncut, each of its seven slice owners none
pub record Untouched (g : Gpu) : Type 0 where
  pub nobodys : g.owner ≡ 0
  pub uncut : g.slices ≡ 0
  pub slices : g.owners ≡ replicate Sizes.slices 0

-- no owner has an entry that is nobody's
not_of : (owner x : ℕ) → 0 < owner → x ≡ 0 → is_of owner x ≡ 0
not_of owner x o e = rw (ne_eqb x owner (λ z. omega arith))

untouched_formed : (g : Gpu) → Untouched g → Formed g
untouched_formed g u =
    record {
      sized = ap length u.slices;
      whole = λ z. u.uncut;
      inside = λ i z. absurd (omega (arith, z, ap (λ (l : List ℕ). get_or l i 0) u.slices, no_slice i));
    }

untouched_slices : (owner : ℕ) (g : Gpu) → 0 < owner → Untouched g → owned_slices owner g ≡ 0
unfolding owned_slices
untouched_slices owner g o u =
    rw u.slices
    (sum_none (is_of owner) (replicate 7 0) (all_replicate (λ (x : ℕ). is_of owner x ≡ 0) 7 0 (not_of owner 0 o refl)))

-- nobody holds anything of such a table
untouched_nothing : (owner : ℕ) (gpus : List Gpu) → 0 < owner → All Untouched gpus → holds owner gpus ≡ nothing
unfolding holds
untouched_nothing owner gpus o h =
    share_same _ _ 0 0
    (sum_none (λ g. is_of owner g.owner) gpus (all_weaken Untouched (λ g. is_of owner g.owner ≡ 0) gpus (λ g u. not_of owner g.owner o u.nobodys) h))
    (sum_none (owned_slices owner) gpus (all_weaken Untouched (λ g. owned_slices owner g ≡ 0) gpus (λ g u. untouched_slices owner g o u) h))

-- so every job holds what it has to
pub owners_loaded : (n : ℕ) (gpus : List Gpu) (jobs : List Job) → length gpus ≡ 128 → length jobs ≡ 128 →
    ((i : ℕ) → n ≤ i → get_or gpus i no_gpu ≡ no_gpu) → ((i : ℕ) → Untouched (get_or gpus i no_gpu)) → ((k : ℕ) → (job_at jobs k).state ≡ Pending) → Owners n gpus jobs
owners_loaded n gpus jobs table size behind u pending =
    let all : All Untouched gpus = all_of Untouched gpus no_gpu (λ i b. u i) in
    record {
      table = table;
      size = size;
      behind = behind;
      formed = all_weaken Untouched Formed gpus untouched_formed all;
      exact = λ k. untouched_nothing (k + 1) gpus (omega arith) all ∙ sym (due_free (job_at jobs k) (ap holds_in (pending k)));
    }
