-- The words of the decisions in front of a buffer.
use Rattle.std.specs.Prelude.{List, ◌++◌, ℕ, ◌+◌, length, drop, set}
use Rattle.decision_log.specs.Log.{kind_word}
use Rattle.decision_log.specs.declared.Decision.{Decision}

-- words in front, the rest as it was
abbrev pub over : List ℕ → List ℕ → List ℕ
over ws out = ws ++ drop (length ws) out

-- a decision's four words from a place on
abbrev pub put_words : List ℕ → ℕ → Decision → List ℕ
put_words out at d = set (set (set (set out at d.time) (at + 1) (kind_word d.kind)) (at + 2) d.job) (at + 3) d.other
