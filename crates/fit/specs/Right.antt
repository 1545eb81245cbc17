-- A right choice: as many GPUs as asked, each of the list at hand, none twice.
use Rattle.std.specs.Prelude.{◌≡◌, Bool, true, List, ℕ, ◌≤◌, ◌<◌, length, take}
use Rattle.std.proofs.Common.{length-take-le}
use Rattle.laws.specs.Lists.{All, Distinct, all_of, all_take, distinct_take, pad_take}
use Rattle.laws.specs.Search.{has, has_at, Rising, rising_before}
use Rattle.laws.specs.Sort.{only_keeps, only_distinct}
use Rattle.eligible.specs.Chosen.{list_of, keyed, with_key}
use Rattle.fit.specs.declared.first.Choice.{Choice}
use Rattle.fit.specs.First.{took, first_fit}

-- the list that was chosen
abbrev pub got : Choice → List ℕ
got c = list_of c.chosen

-- each of r is of l
abbrev pub Of : List ℕ → List ℕ → Type 0
Of l r = All (λ k. has k l ≡ true) r

-- count GPUs are chosen, each of l, none twice
pub record Right (l : List ℕ) (count : ℕ) (c : Choice) : Type 0 where
  pub size : length (got c) ≡ count
  pub inside : Of l (got c)
  pub once : Distinct (got c)

-- a list is of itself
pub of_self : (l : List ℕ) → Of l l
of_self l = all_of (λ k. has k l ≡ true) l 0 (λ i h. has_at l i 0 h)

-- those with a key are of the list, and none comes in twice
pub of_key : (keys l : List ℕ) (k : ℕ) → Of l (with_key keys k l)
unfolding with_key
of_key keys l k = only_keeps (λ x. has x l ≡ true) (keyed keys k) l (of_self l)

pub key_distinct : (keys l : List ℕ) (k : ℕ) → Distinct l → Distinct (with_key keys k l)
unfolding with_key
key_distinct keys l k h = only_distinct (keyed keys k) l h

-- what was taken is what was chosen
pub got_took : (r : List ℕ) (p : Bool) → got (took r p) ≡ r
got_took r p = pad_take 128 0 r

-- a list of the right length, of l, without repeats
pub right_took : (l r : List ℕ) (count : ℕ) (p : Bool) → length r ≡ count → Of l r → Distinct r → Right l count (took r p)
right_took l r count p n a d =
    record {
      size = rw (got_took r p) n;
      inside = rw (got_took r p) a;
      once = rw (got_took r p) d;
    }

-- the first count of a list without repeats whose members are of l
pub right_first : (l r : List ℕ) (count : ℕ) (p : Bool) → count ≤ length r → Of l r → Distinct r → Right l count (took (take count r) p)
right_first l r count p n a d =
    right_took l (take count r) count p (length-take-le count r n) (all_take (λ k. has k l ≡ true) count r a) (distinct_take count r d)

-- ---- first fit

-- it is a right choice
pub first_right : (l : List ℕ) (count : ℕ) (p : Bool) → Distinct l → count ≤ length l → Right l count (took (first_fit l count) p)
first_right l count p d n = right_first l l count p n (of_self l) d

-- in table order: whatever stands before a chosen one is chosen too
pub first_first : (l : List ℕ) (count j k : ℕ) → Rising 0 l → j < k → has j l ≡ true → has k (first_fit l count) ≡ true → has j (first_fit l count) ≡ true
first_first l count j k r h a b = rising_before 0 count j k l r h a b
