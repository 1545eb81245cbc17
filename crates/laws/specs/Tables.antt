-- Tables read and written at any index.
use Rattle.std.specs.Prelude.{◌≡◌, refl, List, [], ◌∷◌, ℕ, zero, suc, ◌-◌, ◌<◌, ◌≤◌, min, length, get_or, set, take, drop}
use Rattle.std.proofs.Common.{sym, ⊎_elim, arith, length-drop, drop_of_length-le, take_all}
use Rattle.std.proofs.Math.ListN.{get_or-eq_default}
use Rattle.std.proofs.Math.Seq.{set_out}
use Rattle.laws.specs.Tests.{le_or_lt}

-- inside a table what stands past its end does not matter
pub get_d_any : {A : Type 0} (l : List A) (i : ℕ) (d e : A) → i < length l → get_or l i d ≡ get_or l i e
get_d_any [] i d e h = absurd (omega arith)
get_d_any (x ∷ l) zero d e h = refl
get_d_any (x ∷ l) (suc i) d e h = get_d_any l i d e (omega arith)

-- past the end a read gives the default and a write changes nothing
pub past_read : {A : Type 0} (l : List A) (i : ℕ) (d : A) → length l ≤ i → d ≡ get_or l i d
past_read l i d h = sym (get_or-eq_default l d h)

pub past_put : {A : Type 0} (l : List A) (i : ℕ) (x : A) → length l ≤ i → l ≡ set l i x
past_put l i x h = sym (set_out l i x h)

-- the part of a list from a place on
pub rest : {A : Type 0} (l : List A) (at : ℕ) → take (length l - at) (drop at l) ≡ drop at l
rest l at = take_all (length l - at) (drop at l) (omega (arith, length-drop at l))

-- the first n of a table are the first of as many as it can have
pub take_least : {A : Type 0} (n m : ℕ) (l : List A) → length l ≤ m → take (min n m) l ≡ take n l
take_least n m l h =
    ⊎_elim
    (λ a. let e : min n m ≡ n = omega arith in rw e)
    (λ a. let e : min n m ≡ m = omega arith in rw (e, take_all m l h, take_all n l (omega arith)))
    (le_or_lt n m)

-- and all but the first n are all but those
pub drop_least : {A : Type 0} (n m : ℕ) (l : List A) → length l ≤ m → drop (min n m) l ≡ drop n l
drop_least n m l h =
    ⊎_elim
    (λ a. let e : min n m ≡ n = omega arith in rw e)
    (λ a. let e : min n m ≡ m = omega arith in
    let p : drop m l ≡ [] = drop_of_length-le l h in
    let q : drop n l ≡ [] = drop_of_length-le l {i = n} (omega arith) in
    rw (e, p, q))
    (le_or_lt n m)
