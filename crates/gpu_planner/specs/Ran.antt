-- A trace planned into lent words: the answer, and every word.
use Rattle.std.specs.Prelude.{◌≡◌, List, ℕ, ◌<◌, ◌≤◌, length}
use Rattle.std.proofs.Math.Bool.{true, false}
use Rattle.std.proofs.Math.Dec.{ltb}
use borrow.Author.Tests.{lt-ltb, le-ltb}
use Rattle.laws.specs.Choice.{pick}
use Rattle.decision_log.specs.Words.{over}
use Rattle.trace.specs.Answer.{accepted}
use Rattle.loader.specs.Load.{load}
use Rattle.loader.specs.declared.load.Loaded.{Loaded}
use Rattle.gpu_planner.specs.Head.{head_words, refused_head}
use Rattle.gpu_planner.specs.Run.{Run, run_to, turns}
use Rattle.gpu_planner.specs.declared.head.Head.{Head}

-- what a run needs: the head, four words for each of 9 decisions of 128 jobs, and the 516 that the last step asks for
abbrev pub run_words : ℕ
run_words = 5128

-- The load is refused, or its plan runs to the end.
unfoldable pub ran : List ℕ → List ℕ → Run
ran trace ws =
    let l = load trace in
    pick (accepted l.answer) (run_to turns l.plan 0 0 ws) (record { head = refused_head l.answer; words = ws })

-- The answer; 10 where the words are too few.
unfoldable pub ran_answer : List ℕ → List ℕ → ℕ
ran_answer trace ws = pick (ltb (length ws) run_words) 10 (ran trace ws).head.answer

-- Every word: the head in front of what the run leaves; where the words are too few, as they were.
unfoldable pub ran_words : List ℕ → List ℕ → List ℕ
ran_words trace ws = pick (ltb (length ws) run_words) ws (over (head_words (ran trace ws).head) (ran trace ws).words)

-- ---- one case for each return of the code: the answer and every word

abbrev pub Done : List ℕ → List ℕ → ℕ → List ℕ → Type 0
Done trace ws r out = (r ≡ ran_answer trace ws) × (out ≡ ran_words trace ws)

module _ (trace ws : List ℕ) where
  pub done_short : length ws < run_words → Done trace ws 10 ws
  unfolding ran_answer ran_words
  done_short h = let e : ltb (length ws) run_words ≡ true = lt-ltb _ _ h in (rw e, rw e)

  -- the head in front of what the run leaves
  pub done_ran : run_words ≤ length ws → (h : Head) (mid out : List ℕ) → h ≡ (ran trace ws).head → mid ≡ (ran trace ws).words →
      out ≡ over (head_words h) mid → Done trace ws h.answer out
  unfolding ran_answer ran_words
  done_ran enough h mid out e m o = let f : ltb (length ws) run_words ≡ false = le-ltb _ _ enough in (rw (f, e), rw (o, m, f, e))

  module _ (l : Loaded) (is : l ≡ load trace) where
    -- a refused load
    pub ran_refused : accepted l.answer ≡ false → (h : Head) → h ≡ refused_head l.answer → (h ≡ (ran trace ws).head) × (ws ≡ (ran trace ws).words)
    unfolding ran
    ran_refused a h e = (rw (← is, a, e), rw (← is, a))

    -- a loaded plan runs
    pub ran_loaded : accepted l.answer ≡ true → (h : Head) (out : List ℕ) → h ≡ (run_to turns l.plan 0 0 ws).head →
        out ≡ (run_to turns l.plan 0 0 ws).words → (h ≡ (ran trace ws).head) × (out ≡ (ran trace ws).words)
    unfolding ran
    ran_loaded a h out e o = (rw (← is, a) e, rw (← is, a) o)
