-- The rank of a GPU: whoever has at least as high a priority could have it, as far as its owner goes.
use Rattle.std.specs.Prelude.{◌≡◌, Bool, true, false, ◌&&◌, List, [], ◌∷◌, map, ℕ, zero, suc, ◌+◌, ◌-◌, ◌≤◌, ◌<◌, min, eqb, ltb, leb, length, get_or, take}
use Rattle.std.specs.List.{count_by, filter}
use Rattle.std.proofs.Common.{refl, ◌∙◌, add-one, arith, length-append, le-leb, lt-ltb}
use Rattle.std.proofs.lemmas.Bool.{lt-leb}
use Rattle.std.proofs.lemmas.List.Sums.{length-filter, count_by_more_yes, count_by_more_no}
use borrow.Author.Tests.{leb-true, leb-false}
use Rattle.laws.specs.Choice.{pick}
use Rattle.laws.specs.Tests.{split}
use Rattle.laws.specs.Lists.{pad}
use Rattle.laws.specs.Search.{those, those_next_take, those_next_skip}
use Rattle.model.specs.Sizes as Sizes
use Rattle.model.specs.Job.{no_job}
use Rattle.model.specs.declared.gpu.Gpu.{Gpu}
use Rattle.model.specs.declared.job.Job.{Job}
use Rattle.cluster.specs.Usage.{running}

-- above every priority
abbrev pub barred : ℕ
barred = 4294967296

-- one more than the priority of a job that may have to make way
unfoldable pub holder_rank : Job → ℕ
holder_rank j = pick (running j && ltb j.evictions 3) (j.ask.priority + 1) barred

-- 0 where nobody owns the GPU
unfoldable pub rank_of : List Job → ℕ → ℕ
rank_of jobs owner = pick (eqb owner 0) 0 (holder_rank (get_or jobs (owner - 1) no_job))

abbrev pub gpu_rank : List Job → Gpu → ℕ
gpu_rank jobs g = rank_of jobs g.owner

-- of the first n GPUs, filled up with zeros
unfoldable pub ranks_of : List Gpu → List Job → ℕ → List ℕ
ranks_of gpus jobs n = pad Sizes.gpus 0 (map (gpu_rank jobs) (take (min n Sizes.gpus) gpus))

-- the rank of the GPU with the number i is at most the priority
abbrev pub low_at : List ℕ → ℕ → ℕ → Bool
low_at ranks priority i = ltb i (length ranks) && leb (get_or ranks i 0) priority

-- how many of the first n ranks are
unfoldable pub low_ranks : List ℕ → ℕ → ℕ → ℕ
low_ranks ranks n priority = length (those (low_at ranks priority) (min n (length ranks)) 0)

-- ---- the count of those that are low

module _ (ranks : List ℕ) (priority i : ℕ) where
  low_take : (k : ℕ) → i < length ranks → get_or ranks i 0 ≤ priority → k ≡ length (those (low_at ranks priority) i 0) →
      k + 1 ≡ length (those (low_at ranks priority) (i + 1) 0)
  low_take k h l e =
      let t : low_at ranks priority i ≡ true = rw (lt-ltb i (length ranks) h, le-leb (get_or ranks i 0) priority l) in
      rw (those_next_take (low_at ranks priority) i t) (omega (arith, e, length-append (those (low_at ranks priority) i 0) (i ∷ [])))

  low_skip : (k : ℕ) → i < length ranks → priority < get_or ranks i 0 → k ≡ length (those (low_at ranks priority) i 0) →
      k ≡ length (those (low_at ranks priority) (i + 1) 0)
  low_skip k h l e =
      let t : low_at ranks priority i ≡ false = rw (lt-ltb i (length ranks) h, lt-leb (get_or ranks i 0) priority l) in
      rw (those_next_skip (low_at ranks priority) i t) e

-- the ranks of the first m that are low, counted
pub low_counted : (ranks : List ℕ) (priority m : ℕ) → m ≤ length ranks →
    length (filter (λ r. leb r priority) (take m ranks)) ≡ length (those (low_at ranks priority) m 0)
unfolding those
low_counted ranks priority m h = length-filter (λ r. leb r priority) (take m ranks) ∙ counted m h
  where
    turn : (i : ℕ) → i < length ranks → count_by (λ r. leb r priority) (take i ranks) ≡ length (those (low_at ranks priority) i 0) →
        count_by (λ r. leb r priority) (take (i + 1) ranks) ≡ length (those (low_at ranks priority) (i + 1) 0)
    turn i h e =
        split
        (leb (get_or ranks i 0) priority)
        (λ t. count_by_more_yes (λ r. leb r priority) ranks i 0 h t ∙ low_take ranks priority i (count_by (λ r. leb r priority) (take i ranks)) h (leb-true (get_or ranks i 0) priority t) e)
        (λ f. count_by_more_no (λ r. leb r priority) ranks i 0 h f ∙ low_skip ranks priority i (count_by (λ r. leb r priority) (take i ranks)) h (leb-false (get_or ranks i 0) priority f) e)

    counted : (i : ℕ) → i ≤ length ranks → count_by (λ r. leb r priority) (take i ranks) ≡ length (those (low_at ranks priority) i 0)
    counted zero h = refl
    counted (suc i) h = let e = turn i (omega arith) (counted i (omega arith)) in rw add-one at e
