-- One step: refusals 10, 11 and 12 in that order, plan and buffer as they were; else the plan after it, and its decisions in front of the buffer.
use Rattle.std.specs.Prelude.{◌≡◌, List, ℕ, Result, Ok, Err, ◌<◌, ◌≤◌, length}
use Rattle.std.proofs.Math.Bool.{true, false}
use Rattle.std.proofs.Math.Dec.{ltb}
use borrow.Author.Tests.{lt-ltb, le-ltb}
use Rattle.laws.specs.Choice.{pick}
use Rattle.model.specs.declared.plan.Plan.{Plan}
use Rattle.decision_log.specs.Log.{words, decisions}
use Rattle.decision_log.specs.Words.{over}
use Rattle.engine.specs.Advance.{has_event, advanced}
use Rattle.happen.specs.declared.Moment.{Moment}
use Rattle.planner.specs.declared.StepRefusal.{StepRefusal}
use Rattle.planner.specs.declared.StepRefusal.TheVariants.{ShortBuffer, NoEvent, NotPermitted}
use Rattle.planner.specs.declared.Stepped.{Stepped}

-- what a buffer needs: four words for each of 129 decisions
abbrev pub words_needed : ℕ
words_needed = 516

-- 10: the buffer is too short; 11: no event is left; 12: a number that the step would store is not permitted; 0 stands for none.
abbrev pub number_of : Result ℕ StepRefusal → ℕ
number_of (Ok n) = 0
number_of (Err ShortBuffer) = 10
number_of (Err NoEvent) = 11
number_of (Err NotPermitted) = 12

-- The answer and the plan, of a buffer of so many words.
unfoldable pub stepped : Plan → ℕ → Stepped
stepped p size =
    let m = advanced p in
    pick (ltb size words_needed) (record { answer = Err ShortBuffer; plan = p })
    (pick (has_event p)
    (pick m.ok (record { answer = Ok m.log.count; plan = m.plan }) (record { answer = Err NotPermitted; plan = p }))
    (record { answer = Err NoEvent; plan = p }))

-- Every word of the buffer.
unfoldable pub words_after : Plan → List ℕ → List ℕ
words_after p buffer =
    let m = advanced p in
    pick (ltb (length buffer) words_needed) buffer
    (pick (has_event p) (pick m.ok (over (words (decisions m.log)) buffer) buffer) buffer)

-- ---- one case for each return of the code: the answer with the plan, and the buffer

-- the answer, the plan and every word of the buffer are those of the step
abbrev pub Done : Plan → List ℕ → Stepped → List ℕ → Type 0
Done p buffer r out = (r ≡ stepped p (length buffer)) × (out ≡ words_after p buffer)

module _ (p : Plan) (buffer : List ℕ) where
  pub done_short : length buffer < words_needed → Done p buffer (record { answer = Err ShortBuffer; plan = p }) buffer
  unfolding stepped words_after
  done_short h = let e : ltb (length buffer) words_needed ≡ true = lt-ltb _ _ h in (rw e, rw e)

  module _ (h : words_needed ≤ length buffer) where
    pub done_none : has_event p ≡ false → Done p buffer (record { answer = Err NoEvent; plan = p }) buffer
    unfolding stepped words_after
    done_none n = let e : ltb (length buffer) words_needed ≡ false = le-ltb _ _ h in (rw (e, n), rw (e, n))

    module _ (n : has_event p ≡ true) (m : Moment) (is : m ≡ advanced p) where
      pub done_barred : m.ok ≡ false → Done p buffer (record { answer = Err NotPermitted; plan = p }) buffer
      unfolding stepped words_after
      done_barred k = let e : ltb (length buffer) words_needed ≡ false = le-ltb _ _ h in (rw (e, n, ← is, k), rw (e, n, ← is, k))

      pub done_taken : (out : List ℕ) → m.ok ≡ true → out ≡ over (words (decisions m.log)) buffer →
          Done p buffer (record { answer = Ok m.log.count; plan = m.plan }) out
      unfolding stepped words_after
      done_taken out k o = let e : ltb (length buffer) words_needed ≡ false = le-ltb _ _ h in (rw (e, n, ← is, k), rw (e, n, ← is, k) o)
