-- What `planner_run` leaves in the words lent to it: the whole history of the trace, to its end, with nothing cut and no other word touched.
use Rattle.std.specs.Prelude.{◌≡◌, refl, true, false, List, [], ◌∷◌, ◌++◌, ℕ, zero, suc, ◌+◌, ◌-◌, ◌≤◌, ◌<◌, min, take, drop}
use Rattle.std.proofs.Common.{sym, ap, ◌∙◌, inl, inr, ⊎_elim, append_assoc, append-nil, arith, length-append, take-append-drop, length-take-le, take_at, drop_at, drop-drop}
use Rattle.std.proofs.Math.ListN.{length, length-drop}
use Rattle.laws.specs.Tests.{split}
use Rattle.model.specs.declared.plan.Plan.{Plan}
use Rattle.decision_log.specs.Log.{most, words, decisions}
use Rattle.decision_log.specs.Words.{over}
use Rattle.decision_log.specs.WordsLaws.{words_length}
use Rattle.decision_log.specs.declared.Decision.{Decision}
use Rattle.trace.specs.Answer.{accepted, number_of, place_of}
use Rattle.trace.specs.AnswerLaws.{accepted_is, number_most}
use Rattle.loader.specs.Load.{load}
use Rattle.engine.specs.Advance.{has_event, advanced}
use Rattle.planner.specs.Step.{words_needed}
use Rattle.planner.specs.StepLaws.{step_cases}
use Rattle.gpu_planner.specs.Head.{head_words, refused_head, ended_head}
use Rattle.gpu_planner.specs.Run.{Run, behind, goes_on, run_to, turns}
use Rattle.gpu_planner.specs.Ran.{run_words, ran_answer, ran_words, ran, Done, done_short, done_ran, ran_refused, ran_loaded}
use Rattle.promises.specs.Between.{Between}
use Rattle.promises.specs.Conditions.{Reached, begin, first, reached_between, few_steps}
use Rattle.promises.specs.OneHistory.{Ends, Whole, step_on, one_whole}
use Rattle.promises.specs.ToldFew.{few_decisions, step_decisions}

-- ---- the words with a history behind the head

-- the words of two histories in a row
words_append : (g h : List Decision) → words (g ++ h) ≡ words g ++ words h
unfolding words
words_append [] h = refl
words_append (d ∷ g) h = rw (words_append g h)

-- the head's words as they were, the decisions, and the rest as it was
abbrev image : List ℕ → List Decision → List ℕ
image ws h = (take 4 ws ++ words h) ++ drop (behind (length h)) ws

module _ (ws : List ℕ) (h : List Decision) (inside : behind (length h) ≤ length ws) where
  front_length : length (take 4 ws ++ words h) ≡ behind (length h)
  front_length =
      omega (arith, length-append (take 4 ws) (words h), words_length h, length-take-le 4 ws (omega arith))

  image_front : take (behind (length h)) (image ws h) ≡ take 4 ws ++ words h
  image_front = take_at (take 4 ws ++ words h) (drop (behind (length h)) ws) (behind (length h)) front_length

  image_rest : drop (behind (length h)) (image ws h) ≡ drop (behind (length h)) ws
  image_rest = drop_at (take 4 ws ++ words h) (drop (behind (length h)) ws) (behind (length h)) front_length

  image_length : length (image ws h) ≡ length ws
  image_length = omega (arith, length-append (take 4 ws ++ words h) (drop (behind (length h)) ws), front_length, length-drop (behind (length h)) ws)

  -- one step's decisions behind those before
  image_on : (ds : List Decision) → take (behind (length h)) (image ws h) ++ over (words ds) (drop (behind (length h)) (image ws h)) ≡ image ws (h ++ ds)
  image_on ds =
      let n : behind (length h) + length (words ds) ≡ behind (length (h ++ ds)) = omega (arith, words_length ds, length-append h ds) in
      rw (image_front, image_rest, drop-drop (length (words ds)) (behind (length h)) ws, n, words_append h ds)
      (sym (append_assoc (take 4 ws ++ words h) (words ds) (drop (behind (length (h ++ ds))) ws))
      ∙ ap (λ (l : List ℕ). l ++ drop (behind (length (h ++ ds))) ws) (append_assoc (take 4 ws) (words h) (words ds)))

-- ---- one turn

module _ (P : Run → Type 0) (m : ℕ) (p : Plan) (k c : ℕ) (ws : List ℕ) (room : words_needed ≤ length ws - behind c) where
  -- with room for its words a step ends the run, by 0 or by 12, or is told behind those before
  turn_cases :
      (has_event p ≡ false → P (record { head = ended_head 0 k c; words = take (behind c) ws ++ drop (behind c) ws })) →
      (has_event p ≡ true → (advanced p).ok ≡ false → P (record { head = ended_head 12 k c; words = take (behind c) ws ++ drop (behind c) ws })) →
      (has_event p ≡ true → (advanced p).ok ≡ true →
      P (run_to m (advanced p).plan (k + 1) (c + min (advanced p).log.count most)
      (take (behind c) ws ++ over (words (decisions (advanced p).log)) (drop (behind c) ws)))) →
      P (run_to (suc m) p k c ws)
  unfolding run_to
  turn_cases none barred taken =
      let n : length (drop (behind c) ws) ≡ length ws - behind c = length-drop (behind c) ws in
      rw (← n)
      (step_cases
      p
      (drop (behind c) ws)
      (λ r out. P (goes_on r.answer k c (take (behind c) ws ++ out) (λ told. run_to m r.plan (k + 1) told (take (behind c) ws ++ out))))
      (λ h. absurd (omega (arith, h, n, room)))
      (λ h e. none e)
      (λ h e f. barred e f)
      (λ h e f. taken e f))

-- ---- the run

-- 128 jobs at most, so 1,152 steps and 1,152 decisions at most
within : (trace : List ℕ) (k : ℕ) (p : Plan) (h : List Decision) → Reached trace k p h → (k ≤ 1152) × (length h ≤ 1152)
within trace k p h r =
    let b : Between (first trace).jobs k h p × (p.setting ≡ (first trace).setting) = reached_between trace k p h r in
    let n : (first trace).setting.jobs ≤ 128 = omega (arith, b.0.loaded, ap (λ s. s.jobs) b.1) in
    (omega (arith, n, few_steps trace k p h r), omega (arith, n, few_decisions trace k p h r))

-- the run leaves a whole history: its head, and its decisions behind the head
record Leaves (trace ws : List ℕ) (r : Run) : Type 0 where
  whole : Whole trace
  left : r ≡ record { head = ended_head whole.answer whole.steps (length whole.told); words = image ws whole.told }

module _ (trace ws : List ℕ) (enough : run_words ≤ length ws) where
  over_now : (k : ℕ) (p : Plan) (h : List Decision) (answer : ℕ) → Reached trace k p h → Ends p answer →
      Leaves trace ws (record { head = ended_head answer k (length h); words = take (behind (length h)) (image ws h) ++ drop (behind (length h)) (image ws h) })
  over_now k p h answer r e =
      record { whole = record { answer = answer; steps = k; plan = p; told = h; reached = r; ends = e }; left = rw (take-append-drop (behind (length h)) (image ws h)) }

  -- one turn of it
  turn_leaves : (m k : ℕ) (p : Plan) (h : List Decision) → Reached trace k p h →
      ((q : Plan) (g : List Decision) → Reached trace (k + 1) q g → Leaves trace ws (run_to m q (k + 1) (length g) (image ws g))) →
      Leaves trace ws (run_to (suc m) p k (length h) (image ws h))
  turn_leaves m k p h r on =
      let inside : behind (length h) + words_needed ≤ length ws = omega (arith, enough, (within trace k p h r).1) in
      let fits : behind (length h) ≤ length ws = omega (arith, inside) in
      let room : words_needed ≤ length (image ws h) - behind (length h) = omega (arith, inside, image_length ws h fits) in
      turn_cases (Leaves trace ws) m p k (length h) (image ws h) room
      (λ n. over_now k p h 0 r (inl (refl, n)))
      (λ n b. over_now k p h 12 r (inr (refl, n, b)))
      (λ n o.
      let ds : List Decision = decisions (advanced p).log in
      let d : (length ds ≡ (advanced p).log.count) × ((advanced p).log.count ≤ 129) = step_decisions trace k p h r n in
      let c : length h + min (advanced p).log.count most ≡ length (h ++ ds) = omega (arith, d.0, d.1, length-append h ds) in
      rw (c, image_on ws h fits ds) (on (advanced p).plan (h ++ ds) (step_on trace r n o)))

  -- with a turn for every step that can still come, the run does not run short
  run_leaves : (m k : ℕ) (p : Plan) (h : List Decision) → Reached trace k p h → m + k ≡ turns → Leaves trace ws (run_to m p k (length h) (image ws h))
  run_leaves zero k p h r e = absurd (omega (arith, e, (within trace k p h r).0))
  run_leaves (suc m) k p h r e = turn_leaves m k p h r (λ q g t. run_leaves m (k + 1) q g t (omega (arith, e)))

-- ---- what stands in the words

-- no decision yet: the words as they were
image_none : (ws : List ℕ) → image ws [] ≡ ws
unfolding words
image_none ws = rw (append-nil (take 4 ws)) (take-append-drop 4 ws)

-- the head over the words of a history
head_over : (a s : ℕ) (ws : List ℕ) (h : List Decision) → 4 ≤ length ws →
    over (head_words (ended_head a s (length h))) (image ws h) ≡ over (a ∷ 0 ∷ s ∷ length h ∷ words h) ws
head_over a s ws h l =
    let f : length (take 4 ws) ≡ 4 = length-take-le 4 ws l in
    let e : drop 4 (image ws h) ≡ words h ++ drop (behind (length h)) ws =
    ap (drop 4) (append_assoc (take 4 ws) (words h) (drop (behind (length h)) ws)) ∙ drop_at (take 4 ws) (words h ++ drop (behind (length h)) ws) 4 f in
    let n : length (a ∷ 0 ∷ s ∷ length h ∷ words h) ≡ behind (length h) = omega (arith, words_length h) in
    ap (λ (l : List ℕ). a ∷ 0 ∷ s ∷ length h ∷ l) (e ∙ ap (λ (k : ℕ). words h ++ drop k ws) (sym n))

-- The words after a run of a loaded trace: answer, 0, steps, the number of decisions and every decision of its whole history; the others as they were.
pub record Planned (trace ws : List ℕ) : Type 0 where
  pub whole : Whole trace
  pub answer : ran_answer trace ws ≡ whole.answer
  pub words_are : ran_words trace ws ≡ over (whole.answer ∷ 0 ∷ whole.steps ∷ length whole.told ∷ words whole.told) ws

module _ (trace ws : List ℕ) where
  -- Too few words: 10, and none is changed.
  pub few_words : length ws < run_words → (ran_answer trace ws ≡ 10) × (ran_words trace ws ≡ ws)
  few_words h = let d : Done trace ws 10 ws = done_short trace ws h in (sym d.0, sym d.1)

  module _ (enough : run_words ≤ length ws) where
    -- A refused load: its number and place in front, no step, no decision; the others as they were.
    pub refused_words : accepted (load trace).answer ≡ false →
        (ran_answer trace ws ≡ number_of (load trace).answer) × (ran_words trace ws ≡ over (number_of (load trace).answer ∷ place_of (load trace).answer ∷ 0 ∷ 0 ∷ []) ws)
    refused_words e =
        let h = refused_head (load trace).answer in
        let q : (h ≡ (ran trace ws).head) × (ws ≡ (ran trace ws).words) = ran_refused trace ws (load trace) refl e h refl in
        let d : Done trace ws _ _ = done_ran trace ws enough h ws _ q.0 q.1 refl in
        (sym d.0, sym d.1)

    -- A loaded trace: its whole history, whatever the words were and however many there are.
    pub planned : accepted (load trace).answer ≡ true → Planned trace ws
    planned e =
        let r : Leaves trace ws (run_to turns (first trace) 0 (length {A = Decision} []) (image ws [])) =
        run_leaves trace ws enough turns 0 (first trace) [] (begin (accepted_is (load trace).answer e)) refl in
        let f : run_to turns (first trace) 0 0 ws ≡ record
        { head = ended_head r.whole.answer r.whole.steps (length r.whole.told); words = image ws r.whole.told } =
        ap (run_to turns (first trace) 0 0) (sym (image_none ws)) ∙ r.left in
        let h = ended_head r.whole.answer r.whole.steps (length r.whole.told) in
        let out = image ws r.whole.told in
        let q : (h ≡ (ran trace ws).head) × (out ≡ (ran trace ws).words) =
        ran_loaded trace ws (load trace) refl e h out (sym (ap (λ (x : Run). x.head) f)) (sym (ap (λ (x : Run). x.words) f)) in
        let d : Done trace ws _ _ = done_ran trace ws enough h out _ q.0 q.1 refl in
        record {
          whole = r.whole;
          answer = sym d.0;
          words_are = sym d.1
              ∙ head_over r.whole.answer r.whole.steps ws r.whole.told (omega (arith, enough));
        }

    -- With enough words the answer is never 10.
    pub never_short : ran_answer trace ws ≡ 10 → ⊥
    never_short t =
        split
        (accepted (load trace).answer)
        (λ e. let p : Planned trace ws = planned e in ⊎_elim (λ x. omega (arith, t, p.answer, x.0)) (λ x. omega (arith, t, p.answer, x.0)) p.whole.ends)
        (λ e. omega (arith, t, (refused_words e).0, number_most (load trace).answer))

-- With enough words the answer does not depend on them.
pub one_answer : (trace ws vs : List ℕ) → run_words ≤ length ws → run_words ≤ length vs → ran_answer trace ws ≡ ran_answer trace vs
one_answer trace ws vs l m =
    split
    (accepted (load trace).answer)
    (λ e.
    let p : Planned trace ws = planned trace ws l e in
    let q : Planned trace vs = planned trace vs m e in
    p.answer ∙ (one_whole trace p.whole q.whole).0 ∙ sym q.answer)
    (λ e. (refused_words trace ws l e).0 ∙ sym (refused_words trace vs m e).0)
