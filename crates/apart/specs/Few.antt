-- Distinct numbers below a bound are no more than the bound.
use Rattle.std.specs.Prelude.{◌≡◌, refl, true, false, List, [], ◌∷◌, ℕ, ◌+◌, ◌<◌, ◌≤◌, length}
use Rattle.std.proofs.Common.{sym, subst, arith, ne_eqb}
use Rattle.laws.specs.Tests.{fails, never_both}
use Rattle.laws.specs.Lists.{All, Apart, Distinct, all_members}
use Rattle.laws.specs.Search.{has, has_all, has_here, member_has, those, those_none, those_one_more, those_length}

-- a number apart from all of a list is not in it
pub apart_has : (k : ℕ) (l : List ℕ) → Apart k l → has k l ≡ false
apart_has k l h = fails (has k l) (λ e. has_all (λ y. k ≡ y → ⊥) k l h e refl)

-- and back
pub has_apart : (k : ℕ) (l : List ℕ) → has k l ≡ false → Apart k l
has_apart k l h =
    all_members
    (λ y. k ≡ y → ⊥)
    l
    (λ y m e. let s : y ≡ k = sym e in never_both (subst (λ z. has z l ≡ true) s (member_has y l m)) h)

-- as many numbers below n stand in the list as it is long
distinct_those : (n : ℕ) (l : List ℕ) → Distinct l → All (λ k. k < n) l → length (those (λ k. has k l) n 0) ≡ length l
distinct_those n [] d h = let e : those (λ k. has k []) n 0 ≡ [] = those_none (λ k. has k []) n 0 (λ k a b. refl) in rw e
distinct_those n (x ∷ l) d h =
    let r : length (those (λ k. has k l) n 0) ≡ length l = distinct_those n l d.1 h.1 in
    let m : length (those (λ k. has k (x ∷ l)) n 0) ≡ length (those (λ k. has k l) n 0) + 1 =
    those_one_more
    (λ k. has k l)
    (λ k. has k (x ∷ l))
    x
    n
    0
    (omega arith)
    (omega (arith, h.0))
    (apart_has x l d.0)
    (has_here x x l refl)
    (λ k e. rw (ne_eqb k x e)) in
    omega arith

pub distinct_few : (n : ℕ) (l : List ℕ) → Distinct l → All (λ k. k < n) l → length l ≤ n
distinct_few n l d h = omega (arith, distinct_those n l d h, those_length (λ k. has k l) n 0)
