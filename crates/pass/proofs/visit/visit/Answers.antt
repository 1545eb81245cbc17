-- What is left to show of `visit`.
use Rattle.std.proofs.Common.{◌≡◌, refl, sym, ◌∙◌, true, false}
use Rattle.laws.specs.Tests.{never_both}
use Rattle.pass.specs.Visit.{visited_other, visited_victim, visited_waiting}
use Rattle.pass.proofs.visit.visit.Goals as goal
use Rattle.pass.proofs.visit.visit.Goals.{then-not-is_waiting, else-not-is_waiting}

pub returns-then-is_among : goal.returns-then-is_among
returns-then-is_among c =
    elim c.if-not-is_waiting.branch [
      | then-not-is_waiting w ↦
          visited_other _ _ _ _ _ (c.read-j.ensures ∙ rw c.from.ensures) (sym c.is_waiting.ensures ∙ w.if-not-is_waiting.true)
      | else-not-is_waiting w ↦
          visited_victim _ _ _ _ _ (c.read-j.ensures ∙ rw c.from.ensures) (sym c.is_waiting.ensures ∙ w.if-not-is_waiting.false)
          (sym w.is_among.ensures ∙ sym w.value-is ∙ c.if-is_among.true)
    ]

pub returns-else-is_among : goal.returns-else-is_among
returns-else-is_among c =
    elim c.if-not-is_waiting.branch [
      | then-not-is_waiting w ↦
          let e : true ≡ false = rw w.if-not-is_waiting.true at (sym w.value-is ∙ c.if-is_among.false) in absurd (never_both refl e)
      | else-not-is_waiting w ↦
          visited_waiting _ _ _ _ _ (c.read-j.ensures ∙ rw c.from.ensures) _ (sym c.is_waiting.ensures ∙ w.if-not-is_waiting.false)
          (sym w.is_among.ensures ∙ sym w.value-is ∙ c.if-is_among.false) c.consider.ensures
    ]
