-- What one more decision tells.
use Rattle.std.specs.Prelude.{◌≡◌, refl, Bool, false, ◌&&◌, List, [], ◌∷◌, ◌++◌, ℕ, zero, suc, ◌+◌, ◌≤◌, eqb, length, get_or, take}
use Rattle.std.proofs.Common.{◌∙◌, arith, take-suc, eq-eqb, ne_eqb}
use Rattle.laws.specs.Tests.{split, and_right}
use Rattle.laws.specs.Sums.{sum_over, bit, sum_snoc}
use Rattle.decision_log.specs.declared.Kind.{Kind}
use Rattle.decision_log.specs.declared.Decision.{Decision}
use Rattle.history.specs.Told.{told_of, says_runs, after_one, runs_from, runs_after, sum_to}

-- ---- counts

-- the job that it names
pub told_here : (test : Kind → Bool) (k : ℕ) (h : List Decision) (d : Decision) → d.job ≡ k → told_of test k (h ++ (d ∷ [])) ≡ told_of test k h + bit (test d.kind)
told_here test k h d e =
    let s : told_of test k (h ++ (d ∷ [])) ≡ told_of test k h + bit (test d.kind && eqb d.job k) = sum_snoc (λ d. bit (test d.kind && eqb d.job k)) h d in
    s ∙ rw (eq-eqb d.job k e) (split (test d.kind) (λ t. rw t) (λ f. rw f))

-- any other
pub told_other : (test : Kind → Bool) (k : ℕ) (h : List Decision) (d : Decision) → (d.job ≡ k → ⊥) → told_of test k (h ++ (d ∷ [])) ≡ told_of test k h
told_other test k h d e =
    let s : told_of test k (h ++ (d ∷ [])) ≡ told_of test k h + bit (test d.kind && eqb d.job k) = sum_snoc (λ d. bit (test d.kind && eqb d.job k)) h d in
    let z : test d.kind && eqb d.job k ≡ false = and_right (test d.kind) (eqb d.job k) (ne_eqb d.job k e) in
    s ∙ rw z (omega arith)

-- ---- who runs

runs_append : (k : ℕ) (b : Bool) (h : List Decision) (d : Decision) → runs_from k b (h ++ (d ∷ [])) ≡ after_one k (runs_from k b h) d
unfolding runs_from
runs_append k b [] d = refl
runs_append k b (x ∷ h) d = runs_append k (after_one k b x) h d

pub runs_here : (k : ℕ) (h : List Decision) (d : Decision) → d.job ≡ k → runs_after (h ++ (d ∷ [])) k ≡ says_runs d.kind (runs_after h k)
runs_here k h d e = runs_append k false h d ∙ rw (eq-eqb d.job k e)

pub runs_other : (k : ℕ) (h : List Decision) (d : Decision) → (d.job ≡ k → ⊥) → runs_after (h ++ (d ∷ [])) k ≡ runs_after h k
runs_other k h d e = runs_append k false h d ∙ rw (ne_eqb d.job k e)

-- ---- sums by number

-- a sum by number is the sum over a table's front
pub sum_front : {A : Type 0} (g : A → ℕ) (l : List A) (n : ℕ) (d : A) → n ≤ length l → sum_to (λ k. g (get_or l k d)) n ≡ sum_over g (take n l)
unfolding sum_to sum_over
sum_front g l zero d h = refl
sum_front g l (suc n) d h =
    let s : sum_over g (take (suc n) l) ≡ sum_over g (take n l) + g (get_or l n d) = rw (take-suc l n d (omega arith)) (sum_snoc g (take n l) (get_or l n d)) in
    omega (arith, sum_front g l n d (omega arith))

-- what is nowhere greater has no greater sum
pub sum_below : (f g : ℕ → ℕ) (n : ℕ) → ((k : ℕ) → f k ≤ g k) → sum_to f n ≤ sum_to g n
unfolding sum_to
sum_below f g zero h = omega arith
sum_below f g (suc n) h = omega (arith, h n, sum_below f g n h)
