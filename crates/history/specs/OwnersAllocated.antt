-- A placeable job that held nothing holds after its allocation exactly what it asks for, and any other job what it held.
use Rattle.std.specs.Prelude.{◌≡◌, true, false, List, ℕ, ◌<◌, ◌≤◌, eqb, length, get_or}
use Rattle.std.proofs.Common.{sym, ap, ◌∙◌, arith}
use Rattle.laws.specs.Tests.{split}
use Rattle.laws.specs.Lists.{All, Distinct, all_weaken}
use Rattle.model.specs.Gpu.{no_gpu}
use Rattle.model.specs.declared.gpu.Gpu.{Gpu}
use Rattle.model.specs.declared.job.Job.{Job}
use Rattle.model.specs.declared.setting.Setting.{Setting}
use Rattle.mig.specs.Allocate.{slices_allocated}
use Rattle.cluster.specs.Gpus.{given}
use Rattle.eligible.specs.Eligible.{site_of, may_take}
use Rattle.eligible.specs.Laws.{eligible_means}
use Rattle.choice.specs.Choose.{choose, got_of}
use Rattle.choice.specs.ChooseLaws.{choose_enough, choose_count, choose_each, choose_distinct}
use Rattle.resource.specs.Cause.{most_of, placeable}
use Rattle.resource.specs.Allocate.{whole_allocated, slices_got, allocated}
use Rattle.resource.specs.AllocateLaws.{placeable_enough, placeable_slices}
use Rattle.apart.specs.Leaving.{allocated_length}
use Rattle.history.specs.Owners.{Share, nothing, holds, wanted, Formed, Cuts}
use Rattle.history.specs.OwnersFreed.{share_same}
use Rattle.history.specs.OwnersGiven.{Free, given_own, given_others, given_behind, given_formed, slices_own, slices_others, slices_behind, slices_formed}

module _ (s : Setting) (gpus : List Gpu) (jobs : List Job) (j : Job) (owner : ℕ) (table : length gpus ≡ 128) (formed : All Formed gpus)
    (may : placeable s gpus jobs j ≡ true) where
  abbrev after : List Gpu
  after = (allocated s gpus jobs j owner).gpus

  -- the GPUs of a whole-GPU job
  abbrev chosen : List ℕ
  chosen = got_of (choose gpus s.gpus s.sites j.ask s.options.best)

  -- the table with the slices of a MIG job
  abbrev sliced : List Gpu
  sliced = (slices_allocated gpus s.gpus j.ask.profile (most_of s j.ask.profile) j.ask.slices owner).gpus

  whole_is : eqb j.ask.profile 0 ≡ true → (allocated s gpus jobs j owner).gpus ≡ given owner gpus chosen
  unfolding allocated whole_allocated
  whole_is z = rw (may, z)

  slices_are : eqb j.ask.profile 0 ≡ false → (allocated s gpus jobs j owner).gpus ≡ sliced
  unfolding allocated slices_got
  slices_are z = rw (may, z)

  -- as many GPUs as before
  sliced_length : eqb j.ask.profile 0 ≡ false → length sliced ≡ length gpus
  sliced_length z = sym (ap length (slices_are z)) ∙ allocated_length s gpus jobs j owner

  -- the chosen GPUs are nobody's and uncut
  chosen_are : All (λ i. Free gpus i × ((get_or gpus i no_gpu).slices ≡ 0)) chosen
  chosen_are =
      all_weaken
      (λ i. (i < s.gpus) × (i < 128) × (may_take gpus s.sites j.ask i ≡ true))
      (λ i. Free gpus i × ((get_or gpus i no_gpu).slices ≡ 0))
      chosen
      (λ i q. let e = eligible_means j.ask (site_of s.sites (get_or gpus i no_gpu)) (get_or gpus i no_gpu) q.2 in
      ((rw table q.1, e.0), e.1))
      (choose_each gpus s.gpus s.sites j.ask s.options.best)

  chosen_free : All (Free gpus) chosen
  chosen_free = all_weaken (λ i. Free gpus i × ((get_or gpus i no_gpu).slices ≡ 0)) (Free gpus) chosen (λ i q. q.0) chosen_are

  chosen_uncut : All (λ i. (get_or gpus i no_gpu).slices ≡ 0) chosen
  chosen_uncut = all_weaken (λ i. Free gpus i × ((get_or gpus i no_gpu).slices ≡ 0)) (λ i. (get_or gpus i no_gpu).slices ≡ 0) chosen (λ i q. q.1) chosen_are

  -- no GPU is chosen twice
  chosen_once : Distinct chosen
  chosen_once = choose_distinct gpus s.gpus s.sites j.ask s.options.best

  -- as many as asked
  chosen_count : eqb j.ask.profile 0 ≡ true → length chosen ≡ j.ask.count
  chosen_count z =
      (choose_count gpus s.gpus s.sites j.ask s.options.best
      (choose_enough gpus s.gpus s.sites j.ask s.options.best ∙ placeable_enough s gpus jobs j z may)).1

  -- it holds what it asks for
  pub got_own : 0 < owner → Cuts s → holds owner gpus ≡ nothing → holds owner after ≡ wanted j.ask
  got_own o cuts n =
      let g : (holds owner gpus).gpus ≡ 0 = ap (λ (x : Share). x.gpus) n in
      let p : (holds owner gpus).slices ≡ 0 = ap (λ (x : Share). x.slices) n in
      split
      (eqb j.ask.profile 0)
      (λ z. rw (whole_is z, z)
      (given_own owner gpus chosen o chosen_once chosen_free ∙ share_same _ _ _ _ (omega (arith, g, chosen_count z)) p))
      (λ z. rw (slices_are z, z)
      (slices_own gpus s.gpus j.ask.profile (most_of s j.ask.profile) j.ask.slices owner table formed (sliced_length z) o
      (cuts j.ask.profile) (placeable_slices s gpus jobs j owner z may) ∙ share_same _ _ _ _ g (omega (arith, p))))

  -- any other holds what it held
  pub got_others : (other : ℕ) → 0 < other → (other ≡ owner → ⊥) → holds other after ≡ holds other gpus
  got_others other o n =
      split
      (eqb j.ask.profile 0)
      (λ z. rw (whole_is z) (given_others owner other gpus chosen o n chosen_once chosen_free))
      (λ z. rw (slices_are z)
      (slices_others gpus s.gpus j.ask.profile (most_of s j.ask.profile) j.ask.slices owner table formed (sliced_length z) other o n))

  -- past the loaded GPUs nothing changes
  pub got_behind : (k : ℕ) → s.gpus ≤ k → get_or after k no_gpu ≡ get_or gpus k no_gpu
  got_behind k h =
      split
      (eqb j.ask.profile 0)
      (λ z. rw (whole_is z) (given_behind owner s.gpus k gpus chosen
      (all_weaken (λ i. (i < s.gpus) × (i < 128) × (may_take gpus s.sites j.ask i ≡ true)) (λ i. i < s.gpus) chosen (λ i q. q.0)
      (choose_each gpus s.gpus s.sites j.ask s.options.best)) h))
      (λ z. rw (slices_are z)
      (slices_behind gpus s.gpus j.ask.profile (most_of s j.ask.profile) j.ask.slices owner table formed (sliced_length z) k h))

  -- each GPU keeps its form
  pub got_formed : All Formed after
  got_formed =
      split
      (eqb j.ask.profile 0)
      (λ z. rw (whole_is z) (given_formed owner gpus chosen chosen_uncut formed))
      (λ z. rw (slices_are z)
      (slices_formed gpus s.gpus j.ask.profile (most_of s j.ask.profile) j.ask.slices owner table formed (sliced_length z)))
