-- How the words of the decisions come to stand in front of a buffer, decision after decision.
use Rattle.std.specs.Prelude.{◌≡◌, refl, List, [], ◌∷◌, ◌++◌, ℕ, suc, ◌+◌, ◌*◌, ◌<◌, ◌≤◌, length, get_or, take, drop, set}
use Rattle.std.proofs.Common.{ap, ◌∙◌, append_assoc, arith, add-one, length-append, drop-cons, take-suc, take_all, length-take-le}
use Rattle.std.proofs.Math.Seq.{set-append_seam}
use Rattle.decision_log.specs.Log.{kind_word, words_of, words}
use Rattle.decision_log.specs.Words.{over, put_words}
use Rattle.decision_log.specs.declared.Decision.{Decision}

-- a word behind those in front
put_next : (ws out : List ℕ) (k x : ℕ) → length ws ≡ k → k < length out → set (ws ++ drop k out) k x ≡ (ws ++ (x ∷ [])) ++ drop (k + 1) out
put_next ws out k x e h =
    rw (drop-cons out k 0 h, ← e, add-one (length ws), append_assoc ws (x ∷ []) (drop (suc (length ws)) out))
    (set-append_seam ws (get_or out (length ws) 0) (drop (suc (length ws)) out) x)

-- the next place, written otherwise
at_next : (ws out : List ℕ) (k n x : ℕ) → length ws ≡ k → n ≡ k + 1 → k < length out → set (ws ++ drop k out) k x ≡ (ws ++ (x ∷ [])) ++ drop n out
at_next ws out k n x e m h = rw m (put_next ws out k x e h)

-- one word more
more : (ws : List ℕ) (k n x : ℕ) → length ws ≡ k → n ≡ k + 1 → length (ws ++ (x ∷ [])) ≡ n
more ws k n x e m = omega (arith, length-append ws (x ∷ []))

-- the four words of a decision
pub put_four : (ws out : List ℕ) (k : ℕ) (d : Decision) → length ws ≡ k → k + 4 ≤ length out → put_words (ws ++ drop k out) k d ≡ (ws ++ words_of d) ++ drop (k + 4) out
put_four ws out k d e h =
    let a : List ℕ = ws ++ (d.time ∷ []) in
    let b : List ℕ = a ++ (kind_word d.kind ∷ []) in
    let c : List ℕ = b ++ (d.job ∷ []) in
    let ae : length a ≡ k + 1 = more ws k (k + 1) d.time e refl in
    let be : length b ≡ k + 2 = more a (k + 1) (k + 2) (kind_word d.kind) ae (omega arith) in
    let ce : length c ≡ k + 3 = more b (k + 2) (k + 3) d.job be (omega arith) in
    rw (
      at_next ws out k (k + 1) d.time e refl (omega arith),
      at_next a out (k + 1) (k + 2) (kind_word d.kind) ae (omega arith) (omega arith),
      at_next b out (k + 2) (k + 3) d.job be (omega arith) (omega arith),
      at_next c out (k + 3) (k + 4) d.other ce (omega arith) (omega arith),
    )
    (ap (λ (l : List ℕ). l ++ drop (k + 4) out) (four_behind ws d.time (kind_word d.kind) d.job d.other))
  where
    four_behind : (ws : List ℕ) (x y z w : ℕ) → (((ws ++ (x ∷ [])) ++ (y ∷ [])) ++ (z ∷ [])) ++ (w ∷ []) ≡ ws ++ (x ∷ y ∷ z ∷ w ∷ [])
    four_behind [] x y z w = refl
    four_behind (v ∷ ws) x y z w = rw (four_behind ws x y z w)

-- the words of one more decision
pub words_snoc : (l : List Decision) (d : Decision) → words (l ++ (d ∷ [])) ≡ words l ++ words_of d
unfolding words
words_snoc [] d = refl
words_snoc (x ∷ l) d = rw (words_snoc l d)

-- four words a decision
pub words_length : (l : List Decision) → length (words l) ≡ 4 * length l
unfolding words
words_length [] = omega arith
words_length (x ∷ l) = omega (arith, words_length l)

-- a turn writes the decision at hand
pub words_turn : (table : List Decision) (out before : List ℕ) (i : ℕ) (d : Decision) → i < length table → 4 * i + 4 ≤ length before →
    out ≡ words (take i table) ++ drop (4 * i) before → put_words out (4 * i) (get_or table i d) ≡ words (take (i + 1) table) ++ drop (4 * (i + 1)) before
words_turn table out before i d h k e =
    let n : length (words (take i table)) ≡ 4 * i = words_length (take i table) ∙ ap (λ (m : ℕ). 4 * m) (length-take-le i table (omega arith)) in
    let m : 4 * (i + 1) ≡ 4 * i + 4 = omega arith in
    rw (e, m, add-one i, take-suc table i d h, words_snoc (take i table) (get_or table i d)) (put_four (words (take i table)) before (4 * i) (get_or table i d) n k)

-- past the last decision all stand in front
pub words_done : (table : List Decision) (out before : List ℕ) (i : ℕ) → i ≡ length table → out ≡ words (take i table) ++ drop (4 * i) before →
    out ≡ over (words table) before
words_done table out before i e h = h ∙ rw (e, take_all (length table) table (omega arith), words_length table)
