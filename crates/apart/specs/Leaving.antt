-- Who leaves for a job: the shortest prefix of its candidates; and no table changes its length.
use Rattle.std.specs.Prelude.{◌≡◌, refl, List, ℕ, ◌<◌, eqb, length, get_or, Float}
use Rattle.std.proofs.Common.{◌∙◌, length-set}
use Rattle.std.proofs.Math.ListN.{take}
use Rattle.std.proofs.Math.Seq.{length_front}
use Rattle.laws.specs.Choice.{pick_either}
use Rattle.laws.specs.Lists.{All, Distinct, all_weaken, all_members}
use Rattle.laws.specs.Search.{member_has}
use Rattle.laws.specs.Sort.{sort, sort_length}
use Rattle.model.specs.Gpu.{no_gpu}
use Rattle.model.specs.declared.gpu.Gpu.{Gpu}
use Rattle.model.specs.declared.job.Job.{Job}
use Rattle.model.specs.declared.job.JobState.TheVariants.{Running}
use Rattle.model.specs.declared.setting.Setting.{Setting}
use Rattle.mig.specs.Table.{first_idle, given_in_order}
use Rattle.mig.specs.TableLaws.{order_length}
use Rattle.mig.specs.Allocate.{slices_allocated, cut_for, new_slices, free_elsewhere, enough_free, cut_helps}
use Rattle.mig.specs.declared.allocate.Slices.{Slices}
use Rattle.order.specs.Order.{sorted_front}
use Rattle.cluster.specs.Queue.{before, sorted_queue}
use Rattle.cluster.specs.GpusLaws.{given_length}
use Rattle.choice.specs.Choose.{choose, got_of}
use Rattle.resource.specs.Cause.{most_of, placeable}
use Rattle.resource.specs.Allocate.{whole_allocated, slices_got, allocated}
use Rattle.resource.specs.declared.allocate.Allocation.{Allocation}
use Rattle.preemptive.specs.Candidate.{candidates}
use Rattle.apart.specs.CandidateLaws.{MakesWay}
use Rattle.preemptive.specs.Prefix.{freed_all, evicted_all, preempted}
use Rattle.apart.specs.PrefixLaws.{preempted_victims, preempted_tables, victims_distinct, victims_in}
use Rattle.preemptive.specs.declared.prefix.Preempted.{Preempted}
use Rattle.pass.specs.Visit.{made_way}
use Rattle.apart.specs.Standing.{job_at, InState, cleared}
use Rattle.pass.specs.declared.visit.Pass.{Pass}

-- ---- lengths

-- slices given in order
ordered_length : (gpus : List Gpu) (n profile want owner except : ℕ) → length (given_in_order gpus n profile want owner except) ≡ length gpus
unfolding given_in_order
ordered_length gpus n profile want owner except = order_length profile owner except want _ 0 gpus

cut_length : (gpus : List Gpu) (n profile want owner : ℕ) → length (cut_for gpus n profile want owner) ≡ length gpus
unfolding cut_for
cut_length gpus n profile want owner =
    length-set (given_in_order gpus n profile want owner (first_idle gpus n)) (first_idle gpus n)
    (new_slices (get_or gpus (first_idle gpus n) no_gpu) profile want (free_elsewhere gpus n profile (first_idle gpus n)) owner)
    ∙ ordered_length gpus n profile want owner (first_idle gpus n)

slices_length : (gpus : List Gpu) (n profile most want owner : ℕ) → length (slices_allocated gpus n profile most want owner).gpus ≡ length gpus
unfolding slices_allocated
slices_length gpus n profile most want owner =
    pick_either
    (λ (a : Slices). length a.gpus ≡ length gpus)
    (enough_free gpus n profile want)
    _
    _
    (ordered_length gpus n profile want owner 128)
    (pick_either (λ (a : Slices). length a.gpus ≡ length gpus) (cut_helps gpus n most want) _ _ (cut_length gpus n profile want owner) refl)

-- as many GPUs after an allocation as before
pub allocated_length : (s : Setting) (gpus : List Gpu) (jobs : List Job) (j : Job) (owner : ℕ) → length (allocated s gpus jobs j owner).gpus ≡ length gpus
unfolding allocated whole_allocated slices_got
allocated_length s gpus jobs j owner =
    pick_either
    (λ (a : Allocation). length a.gpus ≡ length gpus)
    (placeable s gpus jobs j)
    _
    _
    (pick_either
    (λ (a : Allocation). length a.gpus ≡ length gpus)
    (eqb j.ask.profile 0)
    _
    _
    (given_length owner gpus (got_of (choose gpus s.gpus s.sites j.ask s.options.best)))
    (slices_length gpus s.gpus j.ask.profile (most_of s j.ask.profile) j.ask.slices owner))
    refl

-- as many places in the queue after the sort as before
pub sorted_length : (jobs : List Job) (queue : List ℕ) (n : ℕ) → length (sorted_queue jobs queue n) ≡ length queue
unfolding sorted_queue sorted_front
sorted_length jobs queue n =
    length_front queue (sort (before jobs) (take n queue)) n (sort_length (before jobs) (take n queue))

-- ---- who leaves

module _ (s : Setting) (clock : Float) (p : Pass) (id : ℕ) where
  -- what preemption for the job does
  abbrev pub preemption : Preempted
  preemption = preempted s clock p.gpus p.jobs (job_at p id)

  -- its victims, in the order of leaving
  abbrev pub leaving : List ℕ
  leaving = take preemption.count preemption.victims

  -- v may have to leave for the job
  abbrev pub MayLeave : ℕ → Type 0
  MayLeave v = (v < 128) × (v < s.jobs) × MakesWay s.options.aware (job_at p id).ask (job_at p v)

  -- each may
  pub leaving_may : All MayLeave leaving
  leaving_may =
      all_members MayLeave leaving (λ v m. victims_in s clock p.gpus p.jobs (job_at p id) v (member_has v leaving m))

  -- none twice
  pub leaving_once : Distinct leaving
  leaving_once = victims_distinct s clock p.gpus p.jobs (job_at p id)

  -- who may leave runs
  pub may_run : (vs : List ℕ) → All MayLeave vs → All (InState Running p.jobs) vs
  may_run vs h = all_weaken MayLeave (InState Running p.jobs) vs (λ v m. (m.0, m.2.runs_now)) h

  -- they have left
  pub way_cleared : made_way clock p id preemption ≡ cleared clock p id leaving
  unfolding made_way cleared
  way_cleared =
      let v : leaving ≡ take preemption.count (candidates s p.jobs (job_at p id).ask) = preempted_victims s clock p.gpus p.jobs (job_at p id) in
      let g : preemption.gpus ≡ freed_all p.gpus leaving = (preempted_tables s clock p.gpus p.jobs (job_at p id)).0 ∙ rw v in
      let j : preemption.jobs ≡ evicted_all clock p.jobs leaving = (preempted_tables s clock p.gpus p.jobs (job_at p id)).1 ∙ rw v in
      rw (g, j)
