-- Each small change of a job, with what it is given or gives back, leaves every job with what it has to hold.
use Rattle.std.specs.Prelude.{◌≡◌, Bool, true, false, ◌||◌, List, map, ℕ, ◌+◌, ◌≤◌, ◌<◌, length, get_or, set, Float}
use Rattle.std.proofs.Math.Path.{refl, sym}
use Rattle.std.proofs.Common.{ap, ◌∙◌, arith, length-set}
use Rattle.std.proofs.lemmas.List.{length-map}
use Rattle.laws.specs.Lists.{All, set_at}
use Rattle.small.specs.Small.{plus_one, plus_one_lem}
use Rattle.model.specs.Job.{no_job}
use Rattle.model.specs.Gpu.{no_gpu}
use Rattle.model.specs.declared.gpu.Gpu.{Gpu}
use Rattle.model.specs.declared.job.Job.{Job}
use Rattle.model.specs.declared.job.JobState.{JobState}
use Rattle.model.specs.declared.job.JobState.TheVariants.{Pending, Waiting, Placed}
use Rattle.model.specs.declared.setting.Setting.{Setting}
use Rattle.mig.specs.Owner.{freed}
use Rattle.cluster.specs.Usage.{runs, placed, holding}
use Rattle.life.specs.Life as Life
use Rattle.resource.specs.Cause.{placeable}
use Rattle.resource.specs.Allocate.{allocated}
use Rattle.apart.specs.Leaving.{allocated_length}
use Rattle.history.specs.Good.{job_at}
use Rattle.history.specs.Owners.{nothing, holds, wanted, due, Formed, Owners, Cuts}
use Rattle.history.specs.OwnersFreed.{freed_nothing, freed_others, freed_behind, all_freed}
use Rattle.history.specs.OwnersAllocated.{got_own, got_others, got_behind, got_formed}

-- ---- what is due in each state

-- a state in which a job holds something
abbrev pub holds_in : JobState → Bool
holds_in st = runs st || placed st

-- a job in such a state has to hold what it asks for
pub due_held : (j : Job) → holds_in j.state ≡ true → due j ≡ wanted j.ask
unfolding due holding
due_held j e = rw e

-- any other nothing
pub due_free : (j : Job) → holds_in j.state ≡ false → due j ≡ nothing
unfolding due holding
due_free j e = rw e

-- ---- the changes

module _ (n : ℕ) (gpus : List Gpu) (jobs : List Job) (o : Owners n gpus jobs) (k : ℕ) where
  -- a change of one job and of what it holds
  change : (after : List Gpu) (j : Job) → k < 128 → length after ≡ 128 → ((i : ℕ) → n ≤ i → get_or after i no_gpu ≡ no_gpu) → All Formed after →
      holds (k + 1) after ≡ due j → ((i : ℕ) → (i ≡ k → ⊥) → holds (i + 1) after ≡ holds (i + 1) gpus) → Owners n after (set jobs k j)
  change after j b l r f own others =
      record {
        table = l;
        size = length-set jobs k j ∙ o.size;
        behind = r;
        formed = f;
        exact = set_at jobs k j no_job (λ i x. holds (i + 1) after ≡ due x) (rw o.size b) own (λ i d. others i d ∙ o.exact i);
      }

  -- its number as owner
  number : k < 128 → plus_one k ≡ k + 1
  number b = plus_one_lem k (omega arith)

  -- it keeps what it holds
  pub owners_same : (j : Job) → k < 128 → due j ≡ due (job_at jobs k) → Owners n gpus (set jobs k j)
  owners_same j b e = change gpus j b o.table o.behind o.formed (o.exact k ∙ sym e) (λ i d. refl)

  -- it gives all back
  pub owners_freed : (j : Job) → k < 128 → due j ≡ nothing → Owners n (map (freed (plus_one k)) gpus) (set jobs k j)
  owners_freed j b e =
      rw (number b)
      (change
      (map (freed (k + 1)) gpus)
      j
      b
      (length-map gpus (freed (k + 1)) ∙ o.table)
      (λ i h. freed_behind (k + 1) gpus i (omega arith) (o.behind i h))
      (all_freed (k + 1) gpus o.formed)
      (freed_nothing (k + 1) gpus (omega arith) ∙ sym e)
      (λ i d. freed_others (k + 1) gpus (i + 1) (omega arith) (λ q. d (omega arith))))

  -- it held nothing, and gets what it asks for
  pub owners_given : (s : Setting) (j : Job) → Cuts s → s.gpus ≡ n → k < 128 → due (job_at jobs k) ≡ nothing →
      placeable s gpus jobs (job_at jobs k) ≡ true → due j ≡ wanted (job_at jobs k).ask → Owners n (allocated s gpus jobs (job_at jobs k) (plus_one k)).gpus (set jobs k j)
  owners_given s j cuts loaded b none may e =
      rw (number b)
      (change
      (allocated s gpus jobs (job_at jobs k) (k + 1)).gpus
      j
      b
      (allocated_length s gpus jobs (job_at jobs k) (k + 1) ∙ o.table)
      (λ i h. got_behind s gpus jobs (job_at jobs k) (k + 1) o.table o.formed may i (rw loaded h) ∙ o.behind i h)
      (got_formed s gpus jobs (job_at jobs k) (k + 1) o.table o.formed may)
      (got_own s gpus jobs (job_at jobs k) (k + 1) o.table o.formed may (omega arith) cuts (o.exact k ∙ none) ∙ sym e)
      (λ i d. got_others s gpus jobs (job_at jobs k) (k + 1) o.table o.formed may (i + 1) (omega arith) (λ q. d (omega arith))))

  -- an arrival: it waits
  pub owners_arrives : (clock : Float) → k < 128 → (job_at jobs k).state ≡ Pending → Owners n gpus (set jobs k (Life.waits (job_at jobs k) clock))
  unfolding Life.waits
  owners_arrives clock b e =
      owners_same (Life.waits (job_at jobs k) clock) b (due_free (Life.waits (job_at jobs k) clock) refl ∙ sym (due_free (job_at jobs k) (ap holds_in e)))

  -- its wait runs out
  pub owners_fails : (clock : Float) → k < 128 → (job_at jobs k).state ≡ Waiting → Owners n gpus (set jobs k (Life.fails (job_at jobs k) clock))
  unfolding Life.fails
  owners_fails clock b e =
      owners_same (Life.fails (job_at jobs k) clock) b (due_free (Life.fails (job_at jobs k) clock) refl ∙ sym (due_free (job_at jobs k) (ap holds_in e)))

  -- its run completes, and all that it held is free
  pub owners_completes : k < 128 → Owners n (map (freed (plus_one k)) gpus) (set jobs k (Life.ends (job_at jobs k)))
  unfolding Life.ends
  owners_completes b = owners_freed (Life.ends (job_at jobs k)) b (due_free (Life.ends (job_at jobs k)) refl)

  -- it makes way, and all that it held is free
  pub owners_evicted : (clock : Float) → k < 128 → Owners n (map (freed (plus_one k)) gpus) (set jobs k (Life.evicted (job_at jobs k) clock))
  unfolding Life.evicted
  owners_evicted clock b = owners_freed (Life.evicted (job_at jobs k) clock) b (due_free (Life.evicted (job_at jobs k) clock) refl)

  -- it is placed, with what it gets
  pub owners_placed : (s : Setting) → Cuts s → s.gpus ≡ n → k < 128 → (job_at jobs k).state ≡ Waiting → placeable s gpus jobs (job_at jobs k) ≡ true →
      Owners n (allocated s gpus jobs (job_at jobs k) (plus_one k)).gpus (set jobs k (Life.placed (job_at jobs k)))
  unfolding Life.placed
  owners_placed s cuts loaded b e may =
      owners_given s (Life.placed (job_at jobs k)) cuts loaded b (due_free (job_at jobs k) (ap holds_in e)) may (due_held (Life.placed (job_at jobs k)) refl)

  -- it starts, and keeps what it has
  pub owners_started : (at : Float) → k < 128 → (job_at jobs k).state ≡ Placed → Owners n gpus (set jobs k (Life.started (job_at jobs k) at))
  unfolding Life.started
  owners_started at b e =
      owners_same (Life.started (job_at jobs k) at) b (due_held (Life.started (job_at jobs k) at) refl ∙ sym (due_held (job_at jobs k) (ap holds_in e)))
