-- The words that answer a caller who lends the plan tell all: the number and the place of a load, the number and the count of a step.
use Rattle.std.specs.Prelude.{◌≡◌, List, ℕ, ◌<◌, ◌≤◌, ◌^◌, ◌/◌, ◌%◌, ltb, length}
use Rattle.std.proofs.Common.{ap, arith, ltb-true, ltb-false}
use Rattle.laws.specs.Tests.{split}
use Rattle.model.specs.Sizes as Sizes
use Rattle.trace.specs.Answer.{TooLong, number_of, place_of}
use Rattle.loader.specs.Load.{load}
use Rattle.decision_log.specs.declared.Decision.{Decision}
use Rattle.model.specs.declared.plan.Plan.{Plan}
use Rattle.planner.specs.Step as Step
use Rattle.planner.specs.Step.{stepped}
use Rattle.planner.specs.StepLaws.{step_cases}
use Rattle.gpu_planner.specs.Lent.{count_of, load_word, step_word}
use Rattle.gpu_planner.specs.LentLaws.{word_number, word_value}
use Rattle.promises.specs.Conditions.{Reached}
use Rattle.promises.specs.ToldFew.{step_decisions}
use Rattle.promises.specs.RefusalLaws.{refusal_inside, long_refused}

-- no place is over 65,536
pub place_most : (trace : List ℕ) → place_of (load trace).answer ≤ Sizes.trace_bytes
place_most trace =
    split
    (ltb Sizes.trace_bytes (length trace))
    (λ s. let e : place_of (load trace).answer ≡ place_of (TooLong Sizes.trace_bytes) = ap place_of (long_refused trace (ltb-true _ _ s)) in omega (arith, e))
    (λ s. let h : length trace ≤ Sizes.trace_bytes = ltb-false _ _ s in omega (arith, h, refusal_inside trace))

pub load_word_told : (trace : List ℕ) → (load_word (load trace).answer / 2 ^ 32 ≡ number_of (load trace).answer) ×
    (load_word (load trace).answer % 2 ^ 32 ≡ place_of (load trace).answer)
load_word_told trace =
    let small : place_of (load trace).answer < 2 ^ 32 = omega (arith, place_most trace) in
    (word_number (number_of (load trace).answer) (place_of (load trace).answer), word_value (number_of (load trace).answer) (place_of (load trace).answer) small)

-- Of a plan that a load and accepted steps have reached.
module _ (trace : List ℕ) (k : ℕ) (p : Plan) (h : List Decision) (r : Reached trace k p h) (buffer : List ℕ) where
  count_few : count_of (stepped p (length buffer)).answer < 2 ^ 32
  count_few =
      step_cases
      p
      buffer
      (λ s out. count_of s.answer < 2 ^ 32)
      (λ l. omega arith)
      (λ l n. omega arith)
      (λ l n o. omega arith)
      (λ l n o. omega (arith, (step_decisions trace k p h r n).1))

  pub step_word_told : (step_word (stepped p (length buffer)).answer / 2 ^ 32 ≡ Step.number_of (stepped p (length buffer)).answer) ×
      (step_word (stepped p (length buffer)).answer % 2 ^ 32 ≡ count_of (stepped p (length buffer)).answer)
  step_word_told = (
    word_number (Step.number_of (stepped p (length buffer)).answer) (count_of (stepped p (length buffer)).answer),
    word_value (Step.number_of (stepped p (length buffer)).answer) (count_of (stepped p (length buffer)).answer) count_few,
  )
