-- The words that a load, a step and the question answer with, and what a load and a step hand out.
use Rattle.std.specs.Prelude.{Bool, true, false, List, ℕ, Result, Ok, Err, ◌+◌, ◌*◌, ◌%◌, ◌^◌}
use Rattle.trace.specs.Answer as Trace
use Rattle.trace.specs.Answer.{Answer}
use Rattle.loader.specs.Load.{load}
use Rattle.planner.specs.Step as Step
use Rattle.planner.specs.Step.{stepped}
use Rattle.planner.specs.declared.NoSuchJob.{NoSuchJob}
use Rattle.planner.specs.declared.StepRefusal.{StepRefusal}
use Rattle.gpu_planner.specs.Held.{held_plan, plan_in}
use Rattle.gpu_planner.specs.declared.held.HeldPlan.{HeldPlan}
use Rattle.gpu_planner.specs.declared.lent.Handed.{Handed}

-- the number of a refusal, or 0, in the upper 32 bits; a place or a count in the lower
abbrev pub word_of : ℕ → ℕ → ℕ
word_of number value = number * 2 ^ 32 + value % 2 ^ 32

-- how many decisions a step made
abbrev pub count_of : Result ℕ StepRefusal → ℕ
count_of (Ok n) = n
count_of (Err e) = 0

abbrev pub load_word : Answer → ℕ
load_word a = word_of (Trace.number_of a) (Trace.place_of a)

abbrev pub step_word : Result ℕ StepRefusal → ℕ
step_word t = word_of (Step.number_of t) (count_of t)

-- 1 for yes, 0 for no; 13 is the number where there is no such job
abbrev pub place_word : Result Bool NoSuchJob → ℕ
place_word (Ok true) = 1
place_word (Ok false) = 0
place_word (Err e) = word_of 13 0

-- what a load hands out
abbrev pub load_held : List ℕ → Handed
load_held trace = record { word = load_word (load trace).answer; plan = held_plan (load trace).plan }

-- and what a step hands out, of a buffer of so many words
abbrev pub step_held : HeldPlan → ℕ → Handed
step_held h size = record { word = step_word (stepped (plan_in h) size).answer; plan = held_plan (stepped (plan_in h) size).plan }
