-- What a step promises, for a reader: refused it leaves all as it was, accepted it has its event and good numbers, and 10, 11, 12 come in this order.
use Rattle.std.specs.Prelude.{◌≡◌, refl, true, false, List, ℕ, Ok, Err, ◌+◌, ◌-◌, ◌*◌, ◌<◌, ◌≤◌, ltb, length, take, drop}
use Rattle.std.proofs.Common.{◌∙◌, arith, length-take, drop-drop, ltb-true, ltb-false}
use Rattle.std.proofs.Math.Seq.{take-append_seam, drop-append-add}
use Rattle.laws.specs.Tests.{split, never_both}
use Rattle.model.specs.declared.plan.Plan.{Plan}
use Rattle.decision_log.specs.Log.{words, decisions}
use Rattle.decision_log.specs.Words.{over}
use Rattle.decision_log.specs.WordsLaws.{words_length}
use Rattle.engine.specs.Advance.{has_event, advanced}
use Rattle.planner.specs.Step.{words_needed, number_of, stepped, words_after, Done, done_short, done_none, done_barred, done_taken}
use Rattle.planner.specs.declared.StepRefusal.TheVariants.{ShortBuffer, NoEvent, NotPermitted}
use Rattle.planner.specs.declared.Stepped.{Stepped}

-- what is behind the words in front is as it was
over_add : (ws out : List ℕ) (k : ℕ) → drop (length ws + k) (over ws out) ≡ drop (length ws + k) out
over_add ws out k = drop-append-add ws (drop (length ws) out) k ∙ drop-drop k (length ws) out

pub over_behind : (ws out : List ℕ) (n : ℕ) → length ws ≤ n → drop n (over ws out) ≡ drop n out
over_behind ws out n h =
    let e : length ws + (n - length ws) ≡ n = omega arith in
    rw e at (over_add ws out (n - length ws))

module _ (p : Plan) (buffer : List ℕ) where
  -- the words of the step's decisions
  abbrev pub told : List ℕ
  told = words (decisions (advanced p).log)

  -- document 01's number of the answer
  abbrev pub number : ℕ
  number = number_of (stepped p (length buffer)).answer

  -- ---- the four cases

  carried : (P : Stepped → List ℕ → Type 0) (r : Stepped) (out : List ℕ) → Done p buffer r out → P r out → P (stepped p (length buffer)) (words_after p buffer)
  carried P r out (e, f) x = rw (← e, ← f) x

  pub step_cases :
      (P : Stepped → List ℕ → Type 0) →
      (length buffer < words_needed → P (record { answer = Err ShortBuffer; plan = p }) buffer) →
      (words_needed ≤ length buffer → has_event p ≡ false → P (record { answer = Err NoEvent; plan = p }) buffer) →
      (words_needed ≤ length buffer → has_event p ≡ true → (advanced p).ok ≡ false → P (record { answer = Err NotPermitted; plan = p }) buffer) →
      (words_needed ≤ length buffer → has_event p ≡ true → (advanced p).ok ≡ true →
      P (record { answer = Ok (advanced p).log.count; plan = (advanced p).plan }) (over told buffer)) →
      P (stepped p (length buffer)) (words_after p buffer)
  step_cases P short none barred taken =
      split
      (ltb (length buffer) words_needed)
      (λ s. let h : length buffer < words_needed = ltb-true _ _ s in carried P _ _ (done_short p buffer h) (short h))
      (λ s.
      let h : words_needed ≤ length buffer = ltb-false _ _ s in
      split
      (has_event p)
      (λ n.
      split
      (advanced p).ok
      (λ k. carried P _ _ (done_taken p buffer h n (advanced p) refl (over told buffer) k refl) (taken h n k))
      (λ k. carried P _ _ (done_barred p buffer h n (advanced p) refl k) (barred h n k)))
      (λ n. carried P _ _ (done_none p buffer h n) (none h n)))

  -- ---- refused: the plan and every word of the buffer are those that came in

  pub refused_leaves : (number ≡ 0 → ⊥) → ((stepped p (length buffer)).plan ≡ p) × (words_after p buffer ≡ buffer)
  refused_leaves =
      step_cases
      (λ r out. (number_of r.answer ≡ 0 → ⊥) → (r.plan ≡ p) × (out ≡ buffer))
      (λ h k. (refl, refl))
      (λ h n k. (refl, refl))
      (λ h n o k. (refl, refl))
      (λ h n o k. absurd (k refl))

  -- ---- accepted: there was an event, and every number that the step stores is permitted

  pub accepted_for : number ≡ 0 → (words_needed ≤ length buffer) × (has_event p ≡ true) × ((advanced p).ok ≡ true)
  accepted_for =
      step_cases
      (λ r out. number_of r.answer ≡ 0 → (words_needed ≤ length buffer) × (has_event p ≡ true) × ((advanced p).ok ≡ true))
      (λ h k. absurd (omega (arith, k)))
      (λ h n k. absurd (omega (arith, k)))
      (λ h n o k. absurd (omega (arith, k)))
      (λ h n o k. (h, n, o))

  -- the plan is the one after the step, and the answer the number of decisions
  pub accepted_plan : number ≡ 0 → stepped p (length buffer) ≡ record { answer = Ok (advanced p).log.count; plan = (advanced p).plan }
  accepted_plan =
      step_cases
      (λ r out. number_of r.answer ≡ 0 → r ≡ record { answer = Ok (advanced p).log.count; plan = (advanced p).plan })
      (λ h k. absurd (omega (arith, k)))
      (λ h n k. absurd (omega (arith, k)))
      (λ h n o k. absurd (omega (arith, k)))
      (λ h n o k. refl)

  -- no more than four words for each decision
  told_most : length told ≤ 4 * (advanced p).log.count
  told_most =
      omega (arith, words_length (decisions (advanced p).log), length-take (advanced p).log.count (advanced p).log.table)

  -- the decisions stand in front, and the words behind them, from four for each on, are as they were
  pub accepted_words : number ≡ 0 → (take (length told) (words_after p buffer) ≡ told) ×
      (drop (4 * (advanced p).log.count) (words_after p buffer) ≡ drop (4 * (advanced p).log.count) buffer)
  accepted_words =
      step_cases
      (λ r out. number_of r.answer ≡ 0 → (take (length told) out ≡ told) × (drop (4 * (advanced p).log.count) out ≡ drop (4 * (advanced p).log.count) buffer))
      (λ h k. absurd (omega (arith, k)))
      (λ h n k. absurd (omega (arith, k)))
      (λ h n o k. absurd (omega (arith, k)))
      (λ h n o k. (take-append_seam told (drop (length told) buffer), over_behind told buffer (4 * (advanced p).log.count) told_most))

  -- ---- 10, 11, 12 in this order, each exactly when it is due

  -- a short buffer gives 10, whatever the plan
  pub short_is_10 : length buffer < words_needed → number ≡ 10
  short_is_10 s =
      step_cases
      (λ r out. number_of r.answer ≡ 10)
      (λ h. refl)
      (λ h n. absurd (omega (arith, h, s)))
      (λ h n o. absurd (omega (arith, h, s)))
      (λ h n o. absurd (omega (arith, h, s)))

  pub 10_is_short : number ≡ 10 → length buffer < words_needed
  10_is_short =
      step_cases
      (λ r out. number_of r.answer ≡ 10 → length buffer < words_needed)
      (λ h k. h)
      (λ h n k. absurd (omega (arith, k)))
      (λ h n o k. absurd (omega (arith, k)))
      (λ h n o k. absurd (omega (arith, k)))

  module _ (long : words_needed ≤ length buffer) where
    -- with no event left, 11
    pub none_is_11 : has_event p ≡ false → number ≡ 11
    none_is_11 e =
        step_cases
        (λ r out. number_of r.answer ≡ 11)
        (λ h. absurd (omega (arith, h, long)))
        (λ h n. refl)
        (λ h n o. absurd (never_both n e))
        (λ h n o. absurd (never_both n e))

    pub 11_is_none : number ≡ 11 → has_event p ≡ false
    11_is_none =
        step_cases
        (λ r out. number_of r.answer ≡ 11 → has_event p ≡ false)
        (λ h k. absurd (omega (arith, k)))
        (λ h n k. n)
        (λ h n o k. absurd (omega (arith, k)))
        (λ h n o k. absurd (omega (arith, k)))

    -- with an event 12, exactly if a number is not permitted
    pub barred_is_12 : has_event p ≡ true → (advanced p).ok ≡ false → number ≡ 12
    barred_is_12 e f =
        step_cases
        (λ r out. number_of r.answer ≡ 12)
        (λ h. absurd (omega (arith, h, long)))
        (λ h n. absurd (never_both e n))
        (λ h n o. refl)
        (λ h n o. absurd (never_both o f))

    pub 12_is_barred : number ≡ 12 → (advanced p).ok ≡ false
    12_is_barred =
        step_cases
        (λ r out. number_of r.answer ≡ 12 → (advanced p).ok ≡ false)
        (λ h k. absurd (omega (arith, k)))
        (λ h n k. absurd (omega (arith, k)))
        (λ h n o k. o)
        (λ h n o k. absurd (omega (arith, k)))
