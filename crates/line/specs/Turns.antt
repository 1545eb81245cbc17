-- A turn of the loop in which victims join, and the search for one.
use Rattle.std.specs.Prelude.{◌≡◌, eqb, List, [], ◌∷◌, ◌++◌, ℕ, ◌+◌, ◌<◌, min, length, get_or, take, Float}
use Rattle.std.specs.List.{list_any}
use Rattle.std.proofs.Math.Path.{refl}
use Rattle.std.proofs.Common.{arith}
use Rattle.laws.specs.Tests.{eqb_sym}
use Rattle.laws.specs.Search.{has}
use Rattle.laws.specs.Tables.{take_least}
use Rattle.model.specs.Job.{no_job}
use Rattle.model.specs.declared.job.Job.{Job}
use Rattle.eligible.specs.More.{take_next}
use Rattle.line.specs.Line.{joined, joined_all}
use Rattle.line.specs.declared.join.Line.{Line}

-- ---- victims join

-- first these, then those
pub joined_append : (clock : Float) (jobs : List Job) (by : ℕ) (line : Line) (vs ws : List ℕ) →
    joined_all clock jobs by line (vs ++ ws) ≡ joined_all clock jobs by (joined_all clock jobs by line vs) ws
unfolding joined_all
joined_append clock jobs by line [] ws = refl
joined_append clock jobs by line (v ∷ vs) ws = joined_append clock jobs by (joined clock by line v (get_or jobs v no_job).remaining) vs ws

module _ (clock : Float) (jobs : List Job) (by : ℕ) (line : Line) (ids : List ℕ) where
  -- nobody yet
  pub joined_none : line ≡ joined_all clock jobs by line (take 0 ids)
  unfolding joined_all
  joined_none = refl

  -- one more
  pub joined_next : (after : Line) (i : ℕ) → i < length ids → after ≡ joined_all clock jobs by line (take i ids) →
      joined clock by after (get_or ids i 0) (get_or jobs (get_or ids i 0) no_job).remaining ≡ joined_all clock jobs by line (take (i + 1) ids)
  unfolding joined_all
  joined_next after i h e = rw (take_next ids i 0 h, joined_append clock jobs by line (take i ids) (get_or ids i 0 ∷ []), e)

-- ---- the search for one

-- whether the first count hold it, whichever of the two numbers is named first
pub among_is : (id count : ℕ) (ids : List ℕ) → length ids ≡ 128 → list_any (λ x. eqb x id) (take (min count 128) ids) ≡ has id (take count ids)
among_is id count ids l = rw (take_least count 128 ids (omega arith)) (any_has (take count ids))
  where
    any_has : (l : List ℕ) → list_any (λ x. eqb x id) l ≡ has id l
    any_has [] = refl
    any_has (x ∷ l) = rw (eqb_sym x id, any_has l)
