-- The run of a loaded plan: steps until one is refused, each with its decisions behind those before.
use Rattle.std.specs.Prelude.{List, Result, Ok, Err, ◌++◌, ℕ, zero, suc, ◌+◌, ◌-◌, ◌*◌, min, length, take, drop}
use Rattle.model.specs.declared.plan.Plan.{Plan}
use Rattle.decision_log.specs.Log.{most}
use Rattle.planner.specs.Step.{stepped, words_after}
use Rattle.planner.specs.declared.StepRefusal.{StepRefusal}
use Rattle.planner.specs.declared.StepRefusal.TheVariants.{ShortBuffer, NoEvent, NotPermitted}
use Rattle.gpu_planner.specs.Head.{ended_head}
use Rattle.gpu_planner.specs.declared.head.Head.{Head}

-- the steps that are tried: nine accepted ones for each of 128 jobs, and the one that is refused
abbrev pub turns : ℕ
turns = 1153

-- the place behind the head and so many decisions
abbrev pub behind : ℕ → ℕ
behind count = 4 + 4 * count

-- the words after a step that is lent those behind so many decisions
abbrev pub words_on : Plan → ℕ → List ℕ → List ℕ
words_on p count ws = take (behind count) ws ++ words_after p (drop (behind count) ws)

-- what a run leaves
pub record Run : Type 0 where
  pub head : Head
  pub words : List ℕ

-- a run's answer by the refusal that ends it: 0 where no event is left
abbrev pub end_number : StepRefusal → ℕ
end_number NoEvent = 0
end_number NotPermitted = 12
end_number ShortBuffer = 10

-- A step's answer ends the run, or it goes on with so many decisions more.
abbrev pub goes_on : Result ℕ StepRefusal → ℕ → ℕ → List ℕ → (ℕ → Run) → Run
goes_on (Ok n) steps count ws on = on (count + min n most)
goes_on (Err e) steps count ws on = record { head = ended_head (end_number e) steps count; words = ws }

-- At most m steps more, from a plan after so many steps and decisions.
unfoldable pub run_to : ℕ → Plan → ℕ → ℕ → List ℕ → Run
run_to zero p steps count ws = record { head = ended_head 10 steps count; words = ws }
run_to (suc m) p steps count ws =
    let s = stepped p (length ws - behind count) in
    let after = words_on p count ws in
    goes_on s.answer steps count after (λ told. run_to m s.plan (steps + 1) told after)
