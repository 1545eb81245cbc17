-- One history a trace: after the same number of accepted steps plan and decisions are the same, and every history is a front of the whole one.
use Rattle.std.specs.Prelude.{◌≡◌, refl, ◌⊎◌, true, false, List, [], ◌++◌, ℕ, ◌+◌, ◌≤◌, length, take, replicate}
use Rattle.std.proofs.Common.{sym, ap, ◌∙◌, ⊎_elim, append_assoc, append-nil, arith}
use Rattle.std.proofs.lemmas.List.{length-replicate}
use Rattle.std.proofs.Math.Seq.{take-append_seam}
use Rattle.laws.specs.Tests.{never_both, le_or_lt}
use Rattle.model.specs.declared.plan.Plan.{Plan}
use Rattle.decision_log.specs.Log.{decisions}
use Rattle.decision_log.specs.declared.Decision.{Decision}
use Rattle.loader.specs.Load.{load}
use Rattle.engine.specs.Advance.{has_event, advanced}
use Rattle.planner.specs.Step.{number_of, stepped, done_taken}
use Rattle.planner.specs.StepLaws.{accepted_for, accepted_plan}
use Rattle.planner.specs.declared.Stepped.{Stepped}
use Rattle.promises.specs.Conditions.{Reached, begin, onward}

-- no step is accepted any more: 0, no event is left; 12, the next would store a number that is not permitted
abbrev pub Ends : Plan → ℕ → Type 0
Ends p answer = ((answer ≡ 0) × (has_event p ≡ false)) ⊎ ((answer ≡ 12) × (has_event p ≡ true) × ((advanced p).ok ≡ false))

-- The history of a trace to its end.
pub record Whole (trace : List ℕ) : Type 0 where
  pub answer : ℕ
  pub steps : ℕ
  pub plan : Plan
  pub told : List Decision
  pub reached : Reached trace steps plan told
  pub ends : Ends plan answer

-- the history after the first k of its steps
record Front (trace : List ℕ) (k : ℕ) (h : List Decision) : Type 0 where
  plan : Plan
  told : List Decision
  rest : List Decision
  reached : Reached trace k plan told
  whole : h ≡ told ++ rest

module _ (trace : List ℕ) where
  -- an accepted step, told by the event and its numbers
  pub step_on : {k : ℕ} {p : Plan} {h : List Decision} → Reached trace k p h → has_event p ≡ true → (advanced p).ok ≡ true →
      Reached trace (k + 1) (advanced p).plan (h ++ decisions (advanced p).log)
  step_on {k} {p} {h} r e f =
      let b : List ℕ = replicate 516 0 in
      let s : record { answer = _; plan = (advanced p).plan } ≡ stepped p (length b) =
      (done_taken p b (omega (arith, length-replicate {A = ℕ} 516 0)) e (advanced p) refl _ f refl).0 in
      rw (ap (λ (x : Stepped). x.plan) s) (onward r b (ap (λ (x : Stepped). number_of x.answer) (sym s)))

  -- After the same number of steps plan and decisions are the same, whatever buffers were lent.
  pub one_history : (k n : ℕ) (p q : Plan) (g h : List Decision) → Reached trace k p g → Reached trace n q h → k ≡ n → (p ≡ q) × (g ≡ h)
  one_history k n p q g h (begin e) (begin f) s = (refl, refl)
  one_history k n p q g h (begin e) (onward {k = m} r b f) s = absurd (omega (arith, s))
  one_history k n p q g h (onward {k = m} r b e) (begin f) s = absurd (omega (arith, s))
  one_history k n p q g h (onward {k = m} {p = p'} {h = g'} r b e) (onward {k = l} {p = q'} {h = h'} t c f) s =
      let i : (p' ≡ q') × (g' ≡ h') = one_history m l p' q' g' h' r t (omega (arith, s)) in
      let x : (stepped p' (length b)).plan ≡ (advanced p').plan = ap (λ (y : Stepped). y.plan) (accepted_plan p' b e) in
      let y : (stepped q' (length c)).plan ≡ (advanced q').plan = ap (λ (y : Stepped). y.plan) (accepted_plan q' c f) in
      (x ∙ ap (λ (z : Plan). (advanced z).plan) i.0 ∙ sym y, rw (i.0, i.1))

  -- ---- fronts

  front : (k n : ℕ) (p : Plan) (h : List Decision) → Reached trace n p h → k ≤ n → Front trace k h
  front k n p h (begin e) l = let z : k ≡ 0 = omega arith in record { plan = (load trace).plan; told = []; rest = []; reached = rw z (begin e); whole = refl }
  front k n p h (onward {k = m} {p = q} {h = g} r b e) l =
      ⊎_elim
      (λ a. let z : k ≡ m + 1 = omega (arith, a, l) in record {
        plan = (stepped q (length b)).plan;
        told = g ++ decisions (advanced q).log;
        rest = [];
        reached = rw z (onward r b e);
        whole = sym (append-nil (g ++ decisions (advanced q).log));
      })
      (λ a.
      let f : Front trace k g = front k m q g r (omega (arith, a)) in
      record {
        plan = f.plan;
        told = f.told;
        rest = f.rest ++ decisions (advanced q).log;
        reached = f.reached;
        whole =
            ap (λ (x : List Decision). x ++ decisions (advanced q).log) f.whole ∙ append_assoc f.told f.rest (decisions (advanced q).log);
      })
      (le_or_lt (m + 1) k)

  module _ (w : Whole trace) where
    -- where the history ends no step is accepted
    no_step : (p : Plan) (buffer : List ℕ) → p ≡ w.plan → number_of (stepped p (length buffer)).answer ≡ 0 → ⊥
    no_step p buffer e a =
        let f : _ = accepted_for p buffer a in
        let has : has_event w.plan ≡ true = ap has_event (sym e) ∙ f.1 in
        let ok : (advanced w.plan).ok ≡ true = ap (λ (x : Plan). (advanced x).ok) (sym e) ∙ f.2 in
        ⊎_elim (λ x. never_both has x.1) (λ x. never_both ok x.2) w.ends

    few : (k : ℕ) (p : Plan) (h : List Decision) → Reached trace k p h → k ≤ w.steps
    few k p h (begin e) = omega arith
    few k p h (onward {k = n} {p = q} {h = g} r b e) =
        let l : n ≤ w.steps = few n q g r in
        ⊎_elim
        (λ a. absurd (no_step q b (one_history n w.steps q w.plan g w.told r w.reached (omega (arith, l, a))).0 e))
        (λ a. omega (arith, a))
        (le_or_lt w.steps n)

    -- No history goes further: each is a front of the whole one.
    pub front_of_whole : (k : ℕ) (p : Plan) (h : List Decision) → Reached trace k p h → (k ≤ w.steps) × (take (length h) w.told ≡ h)
    front_of_whole k p h r =
        let f : Front trace k w.told = front k w.steps w.plan w.told w.reached (few k p h r) in
        let e : f.told ≡ h = (one_history k k f.plan p f.told h f.reached r refl).1 in
        (few k p h r, rw (f.whole, e) (take-append_seam h f.rest))

  -- a plan ends in one way
  ends_one : (p q : Plan) (a b : ℕ) → p ≡ q → Ends p a → Ends q b → a ≡ b
  ends_one p q a b e x y =
      ⊎_elim
      (λ (u : (a ≡ 0) × (has_event p ≡ false)). ⊎_elim (λ v. u.0 ∙ sym v.0) (λ v. absurd (never_both v.1 (ap has_event (sym e) ∙ u.1))) y)
      (λ (u : (a ≡ 12) × (has_event p ≡ true) × ((advanced p).ok ≡ false)). ⊎_elim (λ v. absurd (never_both u.1 (ap has_event e ∙ v.1))) (λ v. u.0 ∙ sym v.0) y)
      x

  -- So the whole history is one.
  pub one_whole : (v w : Whole trace) → (v.answer ≡ w.answer) × (v.steps ≡ w.steps) × (v.told ≡ w.told)
  one_whole v w =
      let n : v.steps ≡ w.steps = omega (arith, few w v.steps v.plan v.told v.reached, few v w.steps w.plan w.told w.reached) in
      let s : (v.plan ≡ w.plan) × (v.told ≡ w.told) = one_history v.steps w.steps v.plan w.plan v.told w.told v.reached w.reached n in
      (ends_one v.plan w.plan v.answer w.answer s.0 v.ends w.ends, n, s.1)
