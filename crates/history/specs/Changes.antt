-- Each of the six small changes of a job keeps what holds all along: it waits, fails, ends, is evicted, is placed, starts.
use Rattle.std.specs.Prelude.{◌≡◌, Bool, true, false, List, ℕ, ◌<◌, length}
use Rattle.std.proofs.Common.{sym, ap, ⊎_elim, arith}
use Rattle.laws.specs.Tests.{never_both, le_or_lt}
use Rattle.laws.specs.Tables.{past_read}
use Rattle.model.specs.Job.{no_job, new_job}
use Rattle.model.specs.declared.job.Job.{Job}
use Rattle.model.specs.declared.job.JobState.{JobState}
use Rattle.model.specs.declared.job.JobState.TheVariants.{Pending}
use Rattle.history.specs.Good.{job_at}

-- a job in a state other than that of no job is in the table
pub in_table : (jobs : List Job) (k : ℕ) → length jobs ≡ 128 → ((job_at jobs k).state ≡ Pending → ⊥) → k < 128
unfolding no_job new_job
in_table jobs k l h =
    ⊎_elim
    (λ a. absurd (h (sym (ap (λ (j : Job). j.state) (past_read jobs k no_job (omega arith))))))
    (λ a. a)
    (le_or_lt 128 k)

-- states that differ
pub not_pending : (a b : JobState) → (begun· : JobState → Bool) → begun· a ≡ true → begun· b ≡ false → a ≡ b → ⊥
not_pending a b test t f e = never_both (rw (← e) t) f
