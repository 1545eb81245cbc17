-- The turns of the loop in which one candidate after the other leaves.
use Rattle.std.specs.Prelude.{◌≡◌, refl, Bool, true, false, List, [], ◌∷◌, ◌++◌, map, ℕ, ◌+◌, ◌-◌, ◌<◌, get_or, take, set, Float}
use Rattle.std.proofs.Math.Path.{sym}
use Rattle.std.proofs.Common.{◌∙◌}
use native.Mathlib.Omega.{arith}
use Rattle.std.proofs.Math.ListN.{length}
use borrow.Author.Tests.{le-leb, lt-leb}
use Rattle.laws.specs.Lists.{pad_take}
use Rattle.laws.specs.Search.{first, first_found, first_next, first_end}
use Rattle.small.specs.Small.{plus_one}
use Rattle.model.specs.Job.{no_job}
use Rattle.model.specs.declared.gpu.Gpu.{Gpu}
use Rattle.model.specs.declared.job.Job.{Job}
use Rattle.model.specs.declared.setting.Setting.{Setting}
use Rattle.mig.specs.Owner.{freed}
use Rattle.life.specs.Life.{evicted}
use Rattle.eligible.specs.More.{take_next}
use Rattle.eligible.specs.Chosen.{chosen}
use Rattle.eligible.specs.declared.chosen.Chosen.{Chosen}
use Rattle.resource.specs.Cause.{placeable}
use Rattle.preemptive.specs.Candidate.{candidates}
use Rattle.preemptive.specs.Prefix.{freed_all, evicted_all, opens, shortest, made, preempted}
use Rattle.preemptive.specs.declared.prefix.Preempted.{Preempted}

-- two lists in a row
pub freed_append : (gpus : List Gpu) (vs ws : List ℕ) → freed_all gpus (vs ++ ws) ≡ freed_all (freed_all gpus vs) ws
unfolding freed_all
freed_append gpus [] ws = refl
freed_append gpus (v ∷ vs) ws = freed_append (map (freed (plus_one v)) gpus) vs ws

-- two lists in a row
pub evicted_append : (clock : Float) (jobs : List Job) (vs ws : List ℕ) → evicted_all clock jobs (vs ++ ws) ≡ evicted_all clock (evicted_all clock jobs vs) ws
unfolding evicted_all
evicted_append clock jobs [] ws = refl
evicted_append clock jobs (v ∷ vs) ws = evicted_append clock (set jobs v (evicted (get_or jobs v no_job) clock)) vs ws

-- the tables when the first k have left, with none of these prefixes enough
pub record Tried (s : Setting) (clock : Float) (gpus : List Gpu) (jobs : List Job) (j : Job) (cs : List ℕ) (k : ℕ) (free : List Gpu) (left : List Job) : Type 0 where
  pub gpus_now : free ≡ freed_all gpus (take k cs)
  pub jobs_now : left ≡ evicted_all clock jobs (take k cs)
  pub still : first (opens s clock gpus jobs j cs) (length cs + 1 - (k + 1)) (k + 1) ≡ first (opens s clock gpus jobs j cs) (length cs) 1

module _ (s : Setting) (clock : Float) (gpus : List Gpu) (jobs : List Job) (j : Job) (cs : List ℕ) where
  -- nobody has left yet
  pub tried_none : Tried s clock gpus jobs j cs 0 gpus jobs
  unfolding freed_all evicted_all
  tried_none =
      let e : length cs + 1 - (0 + 1) ≡ length cs = omega arith in
      record { gpus_now = refl; jobs_now = refl; still = rw e }

  -- the tables when one more has left
  freed_next : (k v : ℕ) (free after : List Gpu) → k < length cs → v ≡ get_or cs k 0 → free ≡ freed_all gpus (take k cs) →
      after ≡ map (freed (plus_one v)) free → after ≡ freed_all gpus (take (k + 1) cs)
  unfolding freed_all
  freed_next k v free after h e f a =
      a ∙ rw (take_next cs k 0 h, freed_append gpus (take k cs) (get_or cs k 0 ∷ []), e, f)

  evicted_next : (k v : ℕ) (left after : List Job) → k < length cs → v ≡ get_or cs k 0 → left ≡ evicted_all clock jobs (take k cs) →
      after ≡ set left v (evicted (get_or left v no_job) clock) → after ≡ evicted_all clock jobs (take (k + 1) cs)
  unfolding evicted_all
  evicted_next k v left after h e f a =
      a ∙ rw (take_next cs k 0 h, evicted_append clock jobs (take k cs) (get_or cs k 0 ∷ []), e, f)

  module _ (k v : ℕ) (free : List Gpu) (left : List Job) (free_after : List Gpu) (left_after : List Job) (within : k < length cs)
      (it : v ≡ get_or cs k 0) (so : Tried s clock gpus jobs j cs k free left) (away : free_after ≡ map (freed (plus_one v)) free)
      (gone : left_after ≡ set left v (evicted (get_or left v no_job) clock)) where
    -- the code's test is the definition's
    opens_is : (r : Bool) → r ≡ placeable s free_after left_after j → opens s clock gpus jobs j cs (k + 1) ≡ r
    opens_is r e =
        sym (e ∙ rw (freed_next k v free free_after within it so.gpus_now away, evicted_next k v left left_after within it so.jobs_now gone))

    -- a turn after which the job is still not placeable
    pub tried_next : (r : Bool) → r ≡ placeable s free_after left_after j → r ≡ false → Tried s clock gpus jobs j cs (k + 1) free_after left_after
    tried_next r e f =
        record {
          gpus_now = freed_next k v free free_after within it so.gpus_now away;
          jobs_now = evicted_next k v left left_after within it so.jobs_now gone;
          still = sym (first_next (opens s clock gpus jobs j cs) (length cs + 1) (k + 1) (omega arith) (opens_is r e ∙ f)) ∙ so.still;
        }

    -- a turn after which it is
    pub tried_found : (ids : List ℕ) (r : Bool) → r ≡ placeable s free_after left_after j → r ≡ true →
        record { gpus = free_after; jobs = left_after; victims = ids; count = k + 1 } ≡ made s clock gpus jobs j ids cs
    unfolding made shortest
    tried_found ids r e t =
        let f : first (opens s clock gpus jobs j cs) (length cs) 1 ≡ k + 1 = sym so.still
        ∙ first_found (opens s clock gpus jobs j cs) (length cs + 1) (k + 1) (omega arith) (opens_is r e ∙ t) in
        let a : free_after ≡ freed_all gpus (take (k + 1) cs) = freed_next k v free free_after within it so.gpus_now away in
        let b : left_after ≡ evicted_all clock jobs (take (k + 1) cs) = evicted_next k v left left_after within it so.jobs_now gone in
        rw (f, le-leb (k + 1) (length cs) (omega arith), a, b)

  -- all have left, and it is not
  pub tried_end : (k : ℕ) (free : List Gpu) (left : List Job) (ids : List ℕ) → k ≡ length cs → Tried s clock gpus jobs j cs k free left →
      record { gpus = gpus; jobs = jobs; victims = ids; count = 0 } ≡ made s clock gpus jobs j ids cs
  unfolding made shortest freed_all evicted_all
  tried_end k free left ids h so =
      let f : first (opens s clock gpus jobs j cs) (length cs) 1 ≡ k + 1 = sym so.still
      ∙ first_end (opens s clock gpus jobs j cs) (length cs + 1) (k + 1) (omega arith) in
      rw (f, lt-leb (k + 1) (length cs) (omega arith))

-- with the candidates as they are held it is what preemption does
pub made_is : (s : Setting) (clock : Float) (gpus : List Gpu) (jobs : List Job) (j : Job) (found : Chosen) (r : Preempted) →
    found ≡ chosen (candidates s jobs j.ask) → r ≡ made s clock gpus jobs j found.ids (take found.count found.ids) → r ≡ preempted s clock gpus jobs j
unfolding preempted
made_is s clock gpus jobs j found r f e = e ∙ rw (f, pad_take 128 0 (candidates s jobs j.ask))
