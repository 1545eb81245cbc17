-- One step of a plan that is lent: what it holds after the step, and the step of a plan by value.
use Rattle.std.specs.Prelude.{◌≡◌, refl, List, ℕ, Result, Ok, Err, is_ok, ◌<◌, ◌≤◌, length}
use Rattle.std.proofs.Common.{sym, ap, ◌∙◌}
use Rattle.std.proofs.Math.Bool.{true, false}
use Rattle.std.proofs.Math.Dec.{ltb}
use borrow.Author.Tests.{lt-ltb, le-ltb}
use Rattle.laws.specs.Choice.{pick}
use Rattle.laws.specs.Tests.{never_both}
use Rattle.model.specs.declared.plan.Plan.{Plan}
use Rattle.decision_log.specs.Log.{words, decisions}
use Rattle.decision_log.specs.Words.{over}
use Rattle.happen.specs.declared.Moment.{Moment}
use Rattle.engine.specs.Advance.{has_event, advanced}
use Rattle.planner.specs.Step.{words_needed, stepped, words_after, Done, done_short, done_none, done_barred, done_taken}
use Rattle.planner.specs.StepLaws.{step_cases}
use Rattle.planner.specs.declared.Stepped.{Stepped}
use Rattle.planner.specs.declared.StepRefusal.{StepRefusal}
use Rattle.planner.specs.declared.StepRefusal.TheVariants.{ShortBuffer, NoEvent, NotPermitted}

-- what the lent plan holds after a step with a buffer of so many words: also one that is not permitted
unfoldable pub left_in : Plan → ℕ → Plan
left_in p size = pick (ltb size words_needed) p (pick (has_event p) (advanced p).plan p)

-- ---- one case for each return of the code: the answer, the lent plan, and the buffer

module _ (p : Plan) (buffer : List ℕ) where
  abbrev pub Left : Result ℕ StepRefusal → Plan → List ℕ → Type 0
  Left a q out = (a ≡ (stepped p (length buffer)).answer) × ((q ≡ left_in p (length buffer)) × (out ≡ words_after p buffer))

  left_of : (r : Stepped) (q : Plan) (out : List ℕ) → Done p buffer r out → q ≡ left_in p (length buffer) → Left r.answer q out
  left_of r q out (e, w) l = (ap (λ (s : Stepped). s.answer) e, (l, w))

  pub left_short : length buffer < words_needed → Left (Err ShortBuffer) p buffer
  unfolding left_in
  left_short h = let e : ltb (length buffer) words_needed ≡ true = lt-ltb _ _ h in left_of _ p buffer (done_short p buffer h) (rw e)

  module _ (h : words_needed ≤ length buffer) where
    pub left_none : has_event p ≡ false → Left (Err NoEvent) p buffer
    unfolding left_in
    left_none n = let e : ltb (length buffer) words_needed ≡ false = le-ltb _ _ h in left_of _ p buffer (done_none p buffer h n) (rw (e, n))

    module _ (n : has_event p ≡ true) (m : Moment) (is : m ≡ advanced p) where
      left_advanced : m.plan ≡ left_in p (length buffer)
      unfolding left_in
      left_advanced = let e : ltb (length buffer) words_needed ≡ false = le-ltb _ _ h in rw (e, n, is)

      pub left_barred : m.ok ≡ false → Left (Err NotPermitted) m.plan buffer
      left_barred k = left_of _ m.plan buffer (done_barred p buffer h n m is k) left_advanced

      pub left_taken : (out : List ℕ) → m.ok ≡ true → out ≡ over (words (decisions m.log)) buffer → Left (Ok m.log.count) m.plan out
      left_taken out k o = left_of _ m.plan out (done_taken p buffer h n m is out k o) left_advanced

-- ---- the step of the whole plan: the lent plan stands where it was taken

module _ (p : Plan) (buffer : List ℕ) where
  pub step_taken : is_ok (stepped p (length buffer)).answer ≡ true → left_in p (length buffer) ≡ (stepped p (length buffer)).plan
  step_taken =
      step_cases p buffer
      (λ r out. is_ok r.answer ≡ true → left_in p (length buffer) ≡ r.plan)
      (λ h k. absurd (never_both k refl))
      (λ h n k. absurd (never_both k refl))
      (λ h n o k. absurd (never_both k refl))
      (λ h n o k. sym (left_advanced p buffer h n (advanced p) refl))

  pub step_refused : is_ok (stepped p (length buffer)).answer ≡ false → p ≡ (stepped p (length buffer)).plan
  step_refused =
      step_cases p buffer
      (λ r out. is_ok r.answer ≡ false → p ≡ r.plan)
      (λ h k. refl)
      (λ h n k. refl)
      (λ h n o k. refl)
      (λ h n o k. absurd (never_both refl k))

  module _ (a : Result ℕ StepRefusal) (q : Plan) (out : List ℕ) (l : Left p buffer a q out) where
    pub done_lent : is_ok a ≡ true → Done p buffer (record { answer = a; plan = q }) out
    done_lent t =
        let e : a ≡ (stepped p (length buffer)).answer = l.0 in
        let f : q ≡ (stepped p (length buffer)).plan = l.1.0 ∙ step_taken (rw (← e) t) in
        (rw (e, f), l.1.1)

    pub done_kept : is_ok a ≡ false → Done p buffer (record { answer = a; plan = p }) out
    done_kept t =
        let e : a ≡ (stepped p (length buffer)).answer = l.0 in
        let f : p ≡ (stepped p (length buffer)).plan = step_refused (rw (← e) t) in
        (ap (λ (x : Result ℕ StepRefusal). record { answer = x; plan = p }) e ∙ ap (λ (x : Plan). record { answer = (stepped p (length buffer)).answer; plan = x }) f, l.1.1)
