-- One turn of the run, in the terms of the code: the words behind the decisions are lent to a step and come back.
use Rattle.std.specs.Prelude.{◌≡◌, refl, true, Result, Ok, is_ok, List, [], ◌++◌, ℕ, suc, ◌+◌, ◌-◌, ◌<◌, ◌≤◌, min, length, take, drop}
use Rattle.std.proofs.Common.{sym, ap, ◌∙◌, append-nil, arith, length-drop, drop_of_length-le, take_all}
use Rattle.model.specs.declared.plan.Plan.{Plan}
use Rattle.decision_log.specs.Log.{most}
use Rattle.room.specs.Top.{free_from, top_after}
use Rattle.planner.specs.Step.{words_needed, number_of, stepped, words_after}
use Rattle.planner.specs.StepLaws.{accepted_for}
use Rattle.planner.specs.Lent.{left_in, Left, step_taken}
use Rattle.planner.specs.TopLaws.{left_top}
use Rattle.planner.specs.declared.Stepped.{Stepped}
use Rattle.planner.specs.declared.StepRefusal.{StepRefusal}
use Rattle.gpu_planner.specs.Head.{ended_head}
use Rattle.gpu_planner.specs.Run.{Run, behind, words_on, goes_on, run_to, turns}
use Rattle.gpu_planner.specs.declared.head.Head.{Head}

-- what is lent: all words from a place on
abbrev pub lent : ℕ → List ℕ → List ℕ
lent at ws = take (length ws - at) (drop at ws)

-- and the words when it is back
abbrev pub back : ℕ → List ℕ → List ℕ → List ℕ
back at ws out = take at ws ++ (out ++ drop (length ws - at) (drop at ws))

lent_is : (at : ℕ) (ws : List ℕ) → lent at ws ≡ drop at ws
lent_is at ws = take_all (length ws - at) (drop at ws) (omega (arith, length-drop at ws))

back_is : (at : ℕ) (ws out : List ℕ) → back at ws out ≡ take at ws ++ out
back_is at ws out =
    let e : drop (length ws - at) (drop at ws) ≡ [] = drop_of_length-le (drop at ws) {i = length ws - at} (omega (arith, length-drop at ws)) in
    rw (e, append-nil out)

-- the run is the turn and what follows
turn_step : (p : Plan) (steps count : ℕ) (ws : List ℕ) → steps < turns →
    run_to (turns - steps) p steps count ws ≡ goes_on (stepped p (length ws - behind count)).answer steps count (words_on p count ws)
    (λ told. run_to (turns - (steps + 1)) (stepped p (length ws - behind count)).plan (steps + 1) told (words_on p count ws))
unfolding run_to
turn_step p steps count ws h = let e : turns - steps ≡ suc (turns - (steps + 1)) = omega arith in rw e

-- with no turn left
pub turns_over : (p : Plan) (steps count : ℕ) (ws : List ℕ) → turns ≤ steps →
    run_to (turns - steps) p steps count ws ≡ record { head = ended_head 10 steps count; words = ws }
unfolding run_to
turns_over p steps count ws h = let e : turns - steps ≡ 0 = omega arith in rw e

module _ (p : Plan) (steps count : ℕ) (ws out : List ℕ) (s : Stepped) (whole : Run) (is : s ≡ stepped p (length (lent (behind count) ws)))
    (wrote : out ≡ words_after p (lent (behind count) ws)) (more : steps < turns) (inv : run_to (turns - steps) p steps count ws ≡ whole) where
  -- what follows a step's answer is the whole
  pub turn_is : goes_on s.answer steps count (back (behind count) ws out)
      (λ told. run_to (turns - (steps + 1)) s.plan (steps + 1) told (back (behind count) ws out)) ≡ whole
  turn_is =
      let n : length (lent (behind count) ws) ≡ length ws - behind count = ap length (lent_is (behind count) ws) ∙ length-drop (behind count) ws in
      let w : back (behind count) ws out ≡ words_on p count ws = back_is (behind count) ws out ∙ rw (wrote, lent_is (behind count) ws) in
      let t : s ≡ stepped p (length ws - behind count) = rw (← n) is in
      rw (w, t) (sym (turn_step p steps count ws more) ∙ inv)

  -- an accepted step was lent what it asks for
  pub lent_enough : (n : ℕ) → s.answer ≡ Ok n → words_needed ≤ length ws - behind count
  lent_enough n e =
      let z : number_of (stepped p (length (lent (behind count) ws))).answer ≡ 0 = rw (← is, e) in
      omega (arith, (accepted_for p (lent (behind count) ws) z).0, ap length (lent_is (behind count) ws), length-drop (behind count) ws)

  -- it goes on, and the decisions stand inside the words
  pub turn_on_lem : (n m : ℕ) → s.answer ≡ Ok n → m ≡ min n most → length (back (behind count) ws out) ≡ length ws → behind count ≤ length ws →
      (behind (count + m) ≤ length (back (behind count) ws out)) × (run_to (turns - (steps + 1)) s.plan (steps + 1) (count + m) (back (behind count) ws out) ≡ whole)
  turn_on_lem n m e f l b = (omega (arith, lent_enough n e), rw f (rw e at turn_is))

-- the same of a step of a lent plan, which is q after it
module _ (p : Plan) (steps count : ℕ) (ws out : List ℕ) (a : Result ℕ StepRefusal) (q : Plan) (whole : Run) (told : Left p (lent (behind count) ws) a q out)
    (more : steps < turns) (inv : run_to (turns - steps) p steps count ws ≡ whole) where
  abbrev whole_step : Stepped
  whole_step = stepped p (length (lent (behind count) ws))

  pub lent_turn_is : goes_on a steps count (back (behind count) ws out)
      (λ told. run_to (turns - (steps + 1)) whole_step.plan (steps + 1) told (back (behind count) ws out)) ≡ whole
  lent_turn_is = rw told.0 (turn_is p steps count ws out whole_step whole refl told.1.1 more inv)

  pub lent_turn_on : (n m : ℕ) → a ≡ Ok n → m ≡ min n most → length (back (behind count) ws out) ≡ length ws → behind count ≤ length ws →
      (behind (count + m) ≤ length (back (behind count) ws out)) × (run_to (turns - (steps + 1)) q (steps + 1) (count + m) (back (behind count) ws out) ≡ whole)
  lent_turn_on n m e f l b =
      let s : whole_step.answer ≡ Ok n = sym told.0 ∙ e in
      let t : is_ok whole_step.answer ≡ true = rw s in
      let o : (behind (count + m) ≤ length (back (behind count) ws out)) ×
      (run_to (turns - (steps + 1)) whole_step.plan (steps + 1) (count + m) (back (behind count) ws out) ≡ whole) =
      turn_on_lem p steps count ws out whole_step whole refl told.1.1 more inv n m s f l b in
      let k : q ≡ whole_step.plan = told.1.0 ∙ step_taken p (lent (behind count) ws) t in
      (o.0, rw k o.1)

-- what a step leaves of a lent plan has no event from the next top on
pub next_top : (p q : Plan) (size top above : ℕ) → free_from top p.events → q ≡ left_in p size → above ≡ top_after q.events top → free_from above q.events
next_top p q size top above free e a = rw (a, e) (left_top p size top free)

-- the head and the words of a run that is known
pub both_of : (whole : Run) (h r : Head) (ws : List ℕ) → record { head = h; words = ws } ≡ whole → r ≡ h → (r ≡ whole.head) × (ws ≡ whole.words)
both_of whole h r ws e q = (q ∙ ap (λ (x : Run). x.head) e, ap (λ (x : Run). x.words) e)
