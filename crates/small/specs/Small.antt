-- Small rules on numbers.
use Rattle.std.specs.Prelude.{◌≡◌, List, [], ◌∷◌, ◌++◌, ℕ, ◌+◌, ◌<◌, ◌≤◌, ltb, length, take, set}
use Rattle.std.proofs.Common.{arith, add-one, take-suc-set, lt-ltb, ltb-true}
use Rattle.laws.specs.Choice.{pick}
use Rattle.laws.specs.Tests.{split}

-- A number as it is kept where 0 stands for none; the greatest of 16 bits has no number after it.
abbrev pub plus_one : ℕ → ℕ
plus_one x = pick (ltb x 65535) (x + 1) 0

-- The count of a table's entries after one more; a full table takes none.
abbrev pub onward : ℕ → ℕ → ℕ
onward n size = pick (ltb n size) (n + 1) n

-- ---- what they come to

pub plus_one_lem : (x : ℕ) → x < 65535 → plus_one x ≡ x + 1
plus_one_lem x h = rw (lt-ltb x 65535 h)

pub onward_room : (n size : ℕ) → n < size → onward n size ≡ n + 1
onward_room n size h = rw (lt-ltb n size h)

-- a count that fits the table still does
pub onward_fits : (n size : ℕ) → n ≤ size → onward n size ≤ size
onward_fits n size h =
    split
    (ltb n size)
    (λ e. rw e (omega (arith, ltb-true n size e)))
    (λ e. rw e h)

-- one more entry stands behind those before it
pub onward_take : {A : Type 0} (t : List A) (n size : ℕ) (x : A) → length t ≡ size → n < size → take (onward n size) (set t n x) ≡ take n t ++ (x ∷ [])
onward_take t n size x e h = rw (onward_room n size h, add-one n) (take-suc-set t n x (omega arith))
