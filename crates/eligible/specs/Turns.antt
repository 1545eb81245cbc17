-- A turn of each loop over a list of GPU numbers.
use Rattle.std.specs.Prelude.{◌≡◌, refl, Bool, true, false, List, [], ◌∷◌, ◌++◌, map, ℕ, zero, suc, ◌+◌, ◌-◌, ◌≤◌, ◌<◌, min, length, get_or, take, set, replicate}
use Rattle.std.proofs.Math.Path.{sym}
use Rattle.std.proofs.Common.{⊎_elim, ap, ◌∙◌, append_assoc, append-nil, arith, length-append, take_all, eq-eqb, ne_eqb}
use Rattle.std.proofs.Math.ListN.{length-take}
use Rattle.std.proofs.lemmas.List.{length-map}
use Rattle.laws.specs.Lists.{pad, pad_set, pad_full, pad_take}
use Rattle.laws.specs.Search.{those, those_length, those_next_take, those_next_skip}
use Rattle.laws.specs.Sort.{only}
use Rattle.laws.specs.Tests.{le_or_lt}
use Rattle.eligible.specs.More.{take_next, take_past, each_const, only_length, only_take, only_skip, map_next, each, each_same, each_set, each_get, each_length}
use Rattle.laws.specs.Tables.{past_read, take_least}
use Rattle.eligible.specs.declared.chosen.Chosen.{Chosen}
use Rattle.eligible.specs.Chosen.{chosen, list_of, keyed, with_key, count_of, tally_of}

-- l is kept so far: k numbers at the front of the table, zeros behind
pub record Kept (ids : List ℕ) (k : ℕ) (l : List ℕ) : Type 0 where
  pub table : ids ≡ pad 128 0 l
  pub size : k ≡ length l

-- nothing yet
pub kept_none : (ids : List ℕ) (k : ℕ) → ids ≡ pad 128 0 [] → k ≡ 0 → Kept ids k []
kept_none ids k e f = record { table = e; size = f }

-- one more
pub kept_add : (ids : List ℕ) (k x : ℕ) (l : List ℕ) → length l < 128 → Kept ids k l → Kept (set ids k x) (k + 1) (l ++ (x ∷ []))
kept_add ids k x l h r =
    record {
      table = rw (r.table, r.size) (pad_set 128 0 l x h);
      size = rw r.size (sym (length-append l (x ∷ [])));
    }

-- handed back
pub kept_done : (ids : List ℕ) (k : ℕ) (l : List ℕ) → Kept ids k l → record { ids = ids; count = k } ≡ chosen l
kept_done ids k l r = rw (r.table, r.size)

-- ---- one more number

-- with room it stands behind the others
pub push_room : (ids : List ℕ) (k x : ℕ) (l : List ℕ) → record { ids = ids; count = k } ≡ chosen l → k < 128 →
    record { ids = set ids k x; count = k + 1 } ≡ chosen (take 128 (l ++ (x ∷ [])))
push_room ids k x l e h =
    let r : Kept ids k l = record { table = ap (λ (c : Chosen). c.ids) e; size = ap (λ (c : Chosen). c.count) e } in
    let t : take 128 (l ++ (x ∷ [])) ≡ l ++ (x ∷ []) = take_all 128 (l ++ (x ∷ [])) (omega (arith, r.size, length-append l (x ∷ []))) in
    rw t (kept_done (set ids k x) (k + 1) (l ++ (x ∷ [])) (kept_add ids k x l (omega (arith, r.size)) r))

-- without it nothing changes
pub push_full : (c : Chosen) (x : ℕ) (l : List ℕ) → c ≡ chosen l → length c.ids ≡ 128 → 128 ≤ c.count → c ≡ chosen (take 128 (l ++ (x ∷ [])))
push_full c x l e m h =
    let k : c.count ≡ length l = ap (λ (c : Chosen). c.count) e in
    let t : c.ids ≡ l = ap (λ (c : Chosen). c.ids) e ∙ pad_full 128 0 l (omega arith) in
    let n : 128 - length l ≡ 0 = omega arith in
    let q : take 128 (l ++ (x ∷ [])) ≡ l = take_past 128 l (x ∷ []) (omega (arith, ap length t)) ∙ rw (n, append-nil) in
    rw q e

-- a list that is not full takes it
pub pushed : (c : Chosen) (l : List ℕ) (x : ℕ) → length l < 128 → c ≡ chosen (take 128 (l ++ (x ∷ []))) → c ≡ chosen (l ++ (x ∷ []))
pushed c l x h e =
    let t : take 128 (l ++ (x ∷ [])) ≡ l ++ (x ∷ []) = take_all 128 (l ++ (x ∷ [])) (omega (arith, length-append l (x ∷ []))) in rw t at e

-- ---- a list behind another

take_again : (n : ℕ) (l r : List ℕ) → take n (take n l ++ r) ≡ take n (l ++ r)
take_again zero l r = refl
take_again (suc n) [] r = refl
take_again (suc n) (x ∷ l) r = ap (λ (k : List ℕ). x ∷ k) (take_again n l r)

-- nothing yet
pub extend_none : (c : Chosen) (l : List ℕ) → length c.ids ≡ 128 → c ≡ chosen l → c ≡ chosen (take 128 (l ++ []))
extend_none c l m e =
    ⊎_elim
    (λ h. let t : take 128 l ≡ l = take_all 128 l h in rw (append-nil, t) e)
    (λ h. let k : c.count ≡ length l = ap (λ (c : Chosen). c.count) e in
    let t : c.ids ≡ l = ap (λ (c : Chosen). c.ids) e ∙ pad_full 128 0 l (omega arith) in
    absurd (omega (arith, ap length t)))
    (le_or_lt (length l) 128)

-- a turn that puts one more behind
pub extend_turn : (c d : Chosen) (l more : List ℕ) (i : ℕ) → i < length more → c ≡ chosen (take 128 (l ++ take i more)) →
    ((r : List ℕ) → c ≡ chosen r → d ≡ chosen (take 128 (r ++ (get_or more i 0 ∷ [])))) → d ≡ chosen (take 128 (l ++ take (i + 1) more))
extend_turn c d l more i h e f =
    f (take 128 (l ++ take i more)) e ∙ rw (
      take_again 128 (l ++ take i more) (get_or more i 0 ∷ []),
      take_next more i 0 h,
      append_assoc l (take i more) (get_or more i 0 ∷ []),
    )

-- the front of a list, put behind nothing
pub front_is : (count k : ℕ) (l : List ℕ) → length l ≤ 128 → k ≡ min count (length l) → take 128 ([] ++ take k l) ≡ take count l
front_is count k l h e =
    let s : take k l ≡ take count l = rw e (take_least count (length l) l (omega arith)) in
    rw s (take_all 128 (take count l) (omega (arith, length-take count l)))

-- ---- those that pass a test

module _ (p : ℕ → Bool) (l : List ℕ) (i : ℕ) (within : i < length l) where
  -- a turn that keeps the number at hand
  pub only_turn_take : (c d : Chosen) → length l ≤ 128 → p (get_or l i 0) ≡ true → c ≡ chosen (only p (take i l)) →
      ((r : List ℕ) → c ≡ chosen r → d ≡ chosen (take 128 (r ++ (get_or l i 0 ∷ [])))) → d ≡ chosen (only p (take (i + 1) l))
  only_turn_take c d h t e f =
      rw (only_take p l i 0 within t)
      (pushed d (only p (take i l)) (get_or l i 0) (omega (arith, only_length p (take i l), length-take i l)) (f (only p (take i l)) e))

  -- a turn that does not
  pub only_turn_skip : (c : Chosen) → p (get_or l i 0) ≡ false → c ≡ chosen (only p (take i l)) → c ≡ chosen (only p (take (i + 1) l))
  only_turn_skip c t e = rw (only_skip p l i 0 within t) e

-- ---- how many have each key

module _ (keys from : List ℕ) (i : ℕ) (within : i < length from) where
  -- the key of the number at hand is counted once more
  count_here : (k : ℕ) → get_or keys (get_or from i 0) 0 ≡ k → count_of keys (take (i + 1) from) k ≡ count_of keys (take i from) k + 1
  unfolding count_of with_key
  count_here k e =
      rw (only_take (keyed keys k) from i 0 within (eq-eqb (get_or keys (get_or from i 0) 0) k e)) (length-append (only (keyed keys k) (take i from)) (get_or from i 0 ∷ []))

  -- any other as before
  count_other : (k : ℕ) → (get_or keys (get_or from i 0) 0 ≡ k → ⊥) → count_of keys (take (i + 1) from) k ≡ count_of keys (take i from) k
  unfolding count_of with_key
  count_other k e = rw (only_skip (keyed keys k) from i 0 within (ne_eqb (get_or keys (get_or from i 0) 0) k e))

  -- a turn that counts
  pub tally_in : (t : List ℕ) (k : ℕ) → k ≡ get_or keys (get_or from i 0) 0 → k < 257 → t ≡ tally_of keys (take i from) →
      set t k (get_or t k 0 + 1) ≡ tally_of keys (take (i + 1) from)
  unfolding tally_of
  tally_in t k e h r =
      rw r
      (each_set
      (count_of keys (take i from))
      (count_of keys (take (i + 1) from))
      257
      k
      (get_or (each (count_of keys (take i from)) 257 0) k 0 + 1)
      h
      (rw (each_get (count_of keys (take i from)) 257 k 0 h) (sym (count_here k (sym e))))
      (λ j n. sym (count_other j (λ s. n (sym s ∙ sym e)))))

  -- a turn whose key is counted nowhere
  pub tally_out : (t : List ℕ) (k : ℕ) → k ≡ get_or keys (get_or from i 0) 0 → 257 ≤ k → t ≡ tally_of keys (take i from) → t ≡ tally_of keys (take (i + 1) from)
  unfolding tally_of
  tally_out t k e h r =
      r ∙ each_same (count_of keys (take i from)) (count_of keys (take (i + 1) from)) 257 0 (λ j a b. sym (count_other j (λ s. omega arith)))

-- nothing is counted yet
pub tally_none : (keys t : List ℕ) → t ≡ replicate 257 0 → t ≡ tally_of keys []
unfolding tally_of count_of with_key only
tally_none keys t e = e ∙ sym (each_const (count_of keys []) 0 257 0 (λ k. refl))

-- a key is counted at most as often as the list is long
pub count_most : (keys l : List ℕ) (k : ℕ) → count_of keys l k ≤ length l
unfolding count_of with_key
count_most keys l k = only_length (keyed keys k) l

-- what stands in a tally
pub tally_at : (keys l : List ℕ) (k : ℕ) → k < 257 → get_or (tally_of keys l) k 0 ≡ count_of keys l k
unfolding tally_of
tally_at keys l k h = each_get (count_of keys l) 257 k 0 h

-- past a tally nothing is counted
pub tally_past : (keys l : List ℕ) (k : ℕ) → 257 ≤ k → get_or (tally_of keys l) k 0 ≡ 0
unfolding tally_of
tally_past keys l k h = sym (past_read (each (count_of keys l) 257 0) k 0 (rw (each_length (count_of keys l) 257 0) h))

-- a count so far is at most the number looked at
pub tally_small : (keys from t : List ℕ) (i k : ℕ) → k < 257 → t ≡ tally_of keys (take i from) → get_or t k 0 ≤ i
tally_small keys from t i k h r =
    let e : get_or t k 0 ≡ count_of keys (take i from) k = rw r (tally_at keys (take i from) k h) in
    omega (arith, count_most keys (take i from) k, length-take i from)

-- ---- tables filled place by place

-- the next place is filled
store : (t l : List ℕ) (x i : ℕ) → length l ≡ i → i < 128 → t ≡ pad 128 0 l → set t i x ≡ pad 128 0 (l ++ (x ∷ []))
store t l x i e h r = rw (r, ← e) (pad_set 128 0 l x (omega arith))

-- a turn that stores the image of an element
pub map_turn : {A : Type 0} (f : A → ℕ) (t : List ℕ) (l : List A) (i : ℕ) (d : A) → i < length l → i < 128 → t ≡ pad 128 0 (map f (take i l)) →
    set t i (f (get_or l i d)) ≡ pad 128 0 (map f (take (i + 1) l))
map_turn f t l i d h b r =
    rw (map_next f l i d h) (store t (map f (take i l)) (f (get_or l i d)) i (length-map (take i l) f ∙ omega (arith, length-take i l)) b r)

-- ---- those with a property

module _ (p : ℕ → Bool) (i : ℕ) (ids : List ℕ) (k : ℕ) where
  -- a turn that keeps the number at hand
  pub those_turn_take : i < 128 → p i ≡ true → Kept ids k (those p i 0) → Kept (set ids k i) (k + 1) (those p (i + 1) 0)
  those_turn_take h t r =
      rw (those_next_take p i t) (kept_add ids k i (those p i 0) (omega (arith, those_length p i 0)) r)

  -- a turn that does not
  pub those_turn_skip : p i ≡ false → Kept ids k (those p i 0) → Kept ids k (those p (i + 1) 0)
  those_turn_skip t r = rw (those_next_skip p i t) r

  -- no more are kept than were looked at
  pub those_size : Kept ids k (those p i 0) → k ≤ i
  those_size r = omega (arith, r.size, those_length p i 0)

-- a turn of a loop that pushes the number at hand
pub those_push : (p : ℕ → Bool) (i : ℕ) (c d : Chosen) → i < 128 → p i ≡ true → c ≡ chosen (those p i 0) →
    ((r : List ℕ) → c ≡ chosen r → d ≡ chosen (take 128 (r ++ (i ∷ [])))) → d ≡ chosen (those p (i + 1) 0)
those_push p i c d h t e f =
    rw (those_next_take p i t) (pushed d (those p i 0) i (omega (arith, those_length p i 0)) (f (those p i 0) e))

-- a turn that does not
pub those_pass : (p : ℕ → Bool) (i : ℕ) (c : Chosen) → p i ≡ false → c ≡ chosen (those p i 0) → c ≡ chosen (those p (i + 1) 0)
those_pass p i c t e = rw (those_next_skip p i t) e

-- what a held list is
pub held : (c : Chosen) (l : List ℕ) → c ≡ chosen l → (list_of c ≡ l) × (c.ids ≡ pad 128 0 (list_of c ++ []))
held c l e =
    let q : take (length l) (pad 128 0 l) ≡ l = pad_take 128 0 l in
    (rw (e, q), rw (e, q, append-nil))

-- a held list is at most as long as the table
pub held_length : (c : Chosen) → length c.ids ≡ 128 → length (list_of c) ≤ 128
held_length c e = omega (arith, length-take c.count c.ids)
