-- The cause and the choice as a whole, as the code comes to them.
use Rattle.std.specs.Prelude.{◌≡◌, refl, Bool, List, ◌∷◌, ℕ, zero, suc, ◌+◌, ◌≤◌, leb, length, take, Option, Some, None}
use Rattle.std.specs.List.{filter}
use Rattle.std.proofs.Math.Path.{sym, ap}
use Rattle.std.proofs.Common.{◌∙◌, arith}
use Rattle.std.proofs.Math.Bool.{true, false}
use Rattle.laws.specs.Tests.{split}
use Rattle.laws.specs.Search.{those}
use Rattle.model.specs.declared.job.Ask.{Ask}
use Rattle.model.specs.declared.gpu.Gpu.{Gpu}
use Rattle.eligible.specs.Chosen.{chosen, list_of, count_of, tally_of}
use Rattle.eligible.specs.More.{each}
use Rattle.eligible.specs.Keys.{node_keys, group_keys}
use Rattle.eligible.specs.Eligible.{eligibles}
use Rattle.eligible.specs.Turns.{held}
use Rattle.eligible.specs.declared.chosen.Chosen.{Chosen}
use Rattle.fit.specs.declared.first.Choice.{Choice}
use Rattle.choice.specs.Why.{is_enough, is_gang, candidates, why_not}
use Rattle.choice.specs.Choose.{choice_of, why_not_here, choose}
use Rattle.choice.specs.declared.why.Why.{Why}

-- ---- how many nodes have enough

module _ (f : ℕ → ℕ) where
  each_take : (m n i : ℕ) → m ≤ n → take m (each f n i) ≡ each f m i
  unfolding each
  each_take zero n i h = refl
  each_take (suc m) zero i h = absurd (omega arith)
  each_take (suc m) (suc n) i h = ap (λ (l : List ℕ). f i ∷ l) (each_take m n (i + 1) (omega arith))

  each_those : (q : ℕ → Bool) (m i : ℕ) → length (filter q (each f m i)) ≡ length (those (λ k. q (f k)) m i)
  unfolding each those
  each_those q zero i = refl
  each_those q (suc m) i =
      split (q (f i)) (λ e. rw e (ap suc (each_those q m (i + 1)))) (λ e. rw e (each_those q m (i + 1)))

-- the tally counts the candidates
pub count_done : (nodes l counts : List ℕ) (per n : ℕ) → counts ≡ tally_of nodes l → n ≡ length (filter (λ x. leb per x) (take 32 counts)) →
    n ≡ length (candidates nodes l per)
unfolding candidates tally_of
count_done nodes l counts per n t e =
    e ∙ rw (t, each_take (count_of nodes l) 32 257 0 (omega arith)) (each_those (count_of nodes l) (λ x. leb per x) 32 0)

-- ---- the cause, and the choice

-- a job that is no gang is judged without looking at the keys
pub why_any_keys : (nodes keys l : List ℕ) (ask : Ask) → is_gang ask ≡ false → why_not nodes l ask ≡ why_not keys l ask
unfolding why_not
why_any_keys nodes keys l ask h = rw h

module _ (gpus : List Gpu) (n : ℕ) (sites : List ℕ) (ask : Ask) (e : Chosen) (keys : List ℕ) (w : Option Why)
    (a : e ≡ chosen (eligibles gpus n sites ask)) (b : (l : List ℕ) → why_not keys l ask ≡ why_not (node_keys gpus) l ask) (d : w ≡ why_not keys (list_of e) ask) where
  -- the cause is found among the eligible GPUs
  pub why_here : w ≡ why_not_here gpus n sites ask
  unfolding why_not_here
  why_here = d ∙ rw (held e (eligibles gpus n sites ask) a).0 (b (eligibles gpus n sites ask))

  -- there is room
  pub choose_yes : (best : Bool) (r : Choice) → w ≡ None → r ≡ choice_of (node_keys gpus) (group_keys gpus) (list_of e) ask best →
      Some r ≡ choose gpus n sites ask best
  unfolding choose
  choose_yes best r t h =
      let q : is_enough (why_not_here gpus n sites ask) ≡ true = ap is_enough (sym why_here ∙ t) in
      let p : r ≡ choice_of (node_keys gpus) (group_keys gpus) (eligibles gpus n sites ask) ask best =
      h ∙ rw (held e (eligibles gpus n sites ask) a).0 in
      rw (q, p)

  -- there is none
  pub choose_no : (best : Bool) (x : Why) → w ≡ Some x → None ≡ choose gpus n sites ask best
  unfolding choose
  choose_no best x t =
      let q : is_enough (why_not_here gpus n sites ask) ≡ false = ap is_enough (sym why_here ∙ t) in
      rw q
