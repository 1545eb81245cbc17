-- The four words in front of the decisions.
use Rattle.std.specs.Prelude.{◌≡◌, refl, List, [], ◌∷◌, ℕ, ◌≤◌, length, set}
use Rattle.std.proofs.Common.{arith}
use Rattle.decision_log.specs.Words.{over}
use Rattle.trace.specs.Answer.{Answer, number_of, place_of}
use Rattle.gpu_planner.specs.declared.head.Head.{Head}

abbrev pub head_words : Head → List ℕ
head_words h = h.answer ∷ h.place ∷ h.steps ∷ h.decisions ∷ []

-- of a refused load
abbrev pub refused_head : Answer → Head
refused_head a = record { answer = number_of a; place = place_of a; steps = 0; decisions = 0 }

-- of a run that ended after so many steps, with so many decisions
abbrev pub ended_head : ℕ → ℕ → ℕ → Head
ended_head answer steps count = record { answer = answer; place = 0; steps = steps; decisions = count }

-- the four words, one after the other
pub head_put : (h : Head) (ws : List ℕ) → 4 ≤ length ws → set (set (set (set ws 0 h.answer) 1 h.place) 2 h.steps) 3 h.decisions ≡ over (head_words h) ws
head_put h [] l = absurd (omega arith)
head_put h (a ∷ []) l = absurd (omega arith)
head_put h (a ∷ b ∷ []) l = absurd (omega arith)
head_put h (a ∷ b ∷ c ∷ []) l = absurd (omega arith)
head_put h (a ∷ b ∷ c ∷ d ∷ ws) l = refl
