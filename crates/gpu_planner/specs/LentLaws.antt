-- What the words tell, and what a step makes of a plan that was handed out.
use Rattle.std.specs.Prelude.{◌≡◌, ℕ, Result, Ok, Err, ◌<◌, ◌^◌, ◌/◌, ◌%◌}
use Rattle.std.proofs.Common.{arith}
use Rattle.trace.specs.Answer as Trace
use Rattle.trace.specs.Answer.{Answer}
use Rattle.trace.specs.AnswerLaws.{number_most}
use Rattle.planner.specs.Step as Step
use Rattle.planner.specs.declared.StepRefusal.{StepRefusal}
use Rattle.planner.specs.declared.StepRefusal.TheVariants.{ShortBuffer, NoEvent, NotPermitted}
use Rattle.planner.specs.Step.{stepped}
use Rattle.model.specs.declared.plan.Plan.{Plan}
use Rattle.gpu_planner.specs.Held.{held_plan}
use Rattle.gpu_planner.specs.HeldLaws.{plan_back}
use Rattle.gpu_planner.specs.Lent.{word_of, step_word, step_held}

-- ---- a word gives back what it was made of

pub word_number : (number value : ℕ) → word_of number value / 2 ^ 32 ≡ number
word_number number value = omega arith

pub word_value : (number value : ℕ) → value < 2 ^ 32 → word_of number value % 2 ^ 32 ≡ value
word_value number value h = omega arith

-- ---- every number stands in its 32 bits

pub load_number : (a : Answer) → Trace.number_of a < 2 ^ 32
load_number a = omega (arith, number_most a)

pub step_number : (t : Result ℕ StepRefusal) → Step.number_of t < 2 ^ 32
step_number (Ok n) = omega arith
step_number (Err ShortBuffer) = omega arith
step_number (Err NoEvent) = omega arith
step_number (Err NotPermitted) = omega arith

-- ---- a plan that was handed out takes the same step as the plan itself

pub step_of_held : (p : Plan) (size : ℕ) → step_held (held_plan p) size ≡ record { word = step_word (stepped p size).answer; plan = held_plan (stepped p size).plan }
step_of_held p size = rw (plan_back p)
