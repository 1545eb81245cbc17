-- What the eligible GPUs are, so that no reader has to trust a recursion.
use Rattle.std.specs.Prelude.{◌≡◌, refl, ◌⊎◌, true, false, ◌&&◌, List, eqb, length}
use Rattle.std.proofs.Common.{sym, inl, inr, ⊎_elim, eqb-true, ne_eqb}
use Prim.Native.Nat.{ℕ, ◌+◌, ◌≤◌, ◌<◌, min}
use native.Mathlib.Omega.{arith}
use Rattle.laws.specs.Tests.{and_both, or_cases, none_or}
use Rattle.laws.specs.Lists.{All, Distinct, all_weaken}
use Rattle.laws.specs.Search.{has, Rising, those_in, those_has, those_rising, those_distinct, those_length, those_each}
use Rattle.model.specs.declared.gpu.Gpu.{Gpu}
use Rattle.model.specs.declared.job.Ask.{Ask}
use Rattle.eligible.specs.Rule.{enough, asked, unowned, uncut, eligible}
use Rattle.eligible.specs.Eligible.{may_take, eligibles}

-- an eligible GPU is nobody's and uncut, and has the memory, the type and the site that are asked for
pub eligible_means : (ask : Ask) (site : ℕ) (g : Gpu) → eligible ask site g ≡ true →
    (g.owner ≡ 0) × (g.slices ≡ 0) × (enough ask.memory g.memory ≡ true) × (asked ask.kind (g.kind + 1) ≡ true) × (asked ask.site site ≡ true)
unfolding eligible
eligible_means ask site g h =
    let a : _ = and_both (((unowned g && uncut g) && enough ask.memory g.memory) && asked ask.kind (g.kind + 1)) (asked ask.site site) h in
    let b : _ = and_both ((unowned g && uncut g) && enough ask.memory g.memory) (asked ask.kind (g.kind + 1)) a.0 in
    let d : _ = and_both (unowned g && uncut g) (enough ask.memory g.memory) b.0 in
    let e : _ = and_both (unowned g) (uncut g) d.0 in
    (eqb-true g.owner 0 e.0, eqb-true g.slices 0 e.1, d.1, b.1, a.1)

-- a type or a site is the one asked for, or none is asked for
pub asked_means : (want have : ℕ) → asked want have ≡ true → (want ≡ 0) ⊎ (have ≡ want)
asked_means want have h =
    ⊎_elim (λ e. inl (eqb-true want 0 e)) (λ e. inr (eqb-true have want e)) (or_cases (eqb want 0) (eqb have want) h)

-- where none is asked for anything will do
pub asked_none : (have : ℕ) → asked 0 have ≡ true
asked_none have = refl

-- a node without a site does not serve a job that asks for one
pub asked_missing : (want : ℕ) → (want ≡ 0 → ⊥) → asked want 0 ≡ false
asked_missing want h = none_or (eqb want 0) (eqb 0 want) (ne_eqb want 0 h) (ne_eqb 0 want (λ e. h (sym e)))

module _ (gpus : List Gpu) (n : ℕ) (sites : List ℕ) (ask : Ask) where
  -- each is one of the first n, and of the table, and may be taken
  pub eligibles_in : (k : ℕ) → has k (eligibles gpus n sites ask) ≡ true → (k < n) × (k < 128) × (may_take gpus sites ask k ≡ true)
  unfolding eligibles
  eligibles_in k h =
      let r : (0 ≤ k) × (k < 0 + min n 128) × (may_take gpus sites ask k ≡ true) = those_in (may_take gpus sites ask) (min n 128) 0 k h in
      (omega arith, omega arith, r.2)

  -- the same, for the whole list
  pub eligibles_each : All (λ k. (k < n) × (k < 128) × (may_take gpus sites ask k ≡ true)) (eligibles gpus n sites ask)
  unfolding eligibles
  eligibles_each =
      all_weaken
      (λ k. (0 ≤ k) × (k < 0 + min n 128) × (may_take gpus sites ask k ≡ true))
      (λ k. (k < n) × (k < 128) × (may_take gpus sites ask k ≡ true))
      (eligibles gpus n sites ask)
      (λ k r. (omega (arith, r.1), omega (arith, r.1), r.2))
      (those_each (may_take gpus sites ask) (min n 128) 0)

  -- none is left out
  pub eligibles_has : (k : ℕ) → k < n → k < 128 → may_take gpus sites ask k ≡ true → has k (eligibles gpus n sites ask) ≡ true
  unfolding eligibles
  eligibles_has k a b t = those_has (may_take gpus sites ask) (min n 128) 0 k (omega arith) (omega arith) t

  -- they stand in table order
  pub eligibles_rising : Rising 0 (eligibles gpus n sites ask)
  unfolding eligibles
  eligibles_rising = those_rising (may_take gpus sites ask) (min n 128) 0

  -- none stands there twice
  pub eligibles_distinct : Distinct (eligibles gpus n sites ask)
  unfolding eligibles
  eligibles_distinct = those_distinct (may_take gpus sites ask) (min n 128) 0

  -- there are at most as many as the table has
  pub eligibles_length : length (eligibles gpus n sites ask) ≤ 128
  unfolding eligibles
  eligibles_length = omega (arith, those_length (may_take gpus sites ask) (min n 128) 0)
