-- An accepted field: the number that stands there, in its range, and the bytes that the numbers so far take.
use Rattle.std.specs.Prelude.{◌≡◌, refl, Bool, true, false, List, [], ◌∷◌, ◌++◌, ℕ, ◌+◌, ◌≤◌, ◌<◌, ltb, length, take, drop, Result, Ok, Err, IfOk}
use Rattle.std.proofs.Common.{sym, ◌∙◌, append_assoc, append-nil, arith, take-add, ltb-false}
use Rattle.laws.specs.Choice.{pick}
use Rattle.laws.specs.Lists.{all_drop}
use Rattle.trace.specs.Answer.{OutOfRange, ◌>>=◌}
use Rattle.trace.specs.Number.{Number, Value, number}
use Rattle.promises.specs.FormLaws.{Bytes, form, reads_form, number_some}
use Rattle.trace.specs.Field.{Field, field, got, ranged}
use Rattle.trace.specs.declared.answer.Refusal.{Refusal}
use Rattle.trace.specs.declared.number.NumberFault.TheVariants as N
use Rattle.trace.specs.declared.record.Read.{Read}

-- a field that is accepted at a place: the number read there, at least least and at most most, and where it ends
pub record Found (s : List ℕ) (at least most : ℕ) (f : Field) : Type 0 where
  pub size : ℕ
  pub reads : number (drop at s) ≡ Value f.value size
  pub low : least ≤ f.value
  pub high : f.value ≤ most
  pub ends : f.end ≡ at + size

ranged_found : (s : List ℕ) (at least most : ℕ) (r : Number) → number (drop at s) ≡ r → IfOk (ranged (length s) at least most r) (Found s at least most)
ranged_found s at least most (Ok p) e = by_test (ltb p.0 least) (ltb most p.0) refl refl
  where
    by_test : (x y : Bool) → ltb p.0 least ≡ x → ltb most p.0 ≡ y →
        IfOk (pick x (OutOfRange at) (pick y (OutOfRange at) (Ok (got p.0 (at + p.1))))) (Found s at least most)
    by_test true y f g = tt
    by_test false true f g = tt
    by_test false false f g = record { size = p.1; reads = e; low = ltb-false p.0 least f; high = ltb-false most p.0 g; ends = refl }
ranged_found s at least most (Err N.Ends) e = tt
ranged_found s at least most (Err N.Padded) e = tt
ranged_found s at least most (Err N.Oversized) e = tt

-- an accepted field is a number in its range
pub field_found : (s : List ℕ) (at least most : ℕ) → IfOk (field s at least most) (Found s at least most)
unfolding field
field_found s at least most = ranged_found s at least most (number (drop at s)) refl

-- and so is the field in front of what is accepted
pub found_then : (s : List ℕ) (at least most : ℕ) (Q : Read → Type 0) (f : Field → Result Read Refusal) →
    ((x : Field) → Found s at least most x → IfOk (f x) Q) → IfOk (field s at least most >>= f) Q
found_then s at least most Q f k = by_field (field s at least most) (field_found s at least most)
  where
    by_field : (r : Result Field Refusal) → IfOk r (Found s at least most) → IfOk (r >>= f) Q
    by_field (Ok x) h = k x h
    by_field (Err e) h = tt

-- the forms of numbers, one behind the other
unfoldable pub forms : List ℕ → List ℕ
forms [] = []
forms (n ∷ ns) = form n ++ forms ns

-- one number more at the end
pub forms_snoc : (ns : List ℕ) (n : ℕ) → forms (ns ++ (n ∷ [])) ≡ forms ns ++ form n
unfolding forms
forms_snoc [] n = append-nil (form n)
forms_snoc (m ∷ ns) n = rw (forms_snoc ns n, append_assoc (form m) (forms ns) (form n))

-- the bytes up to a place, one at least, are the forms of these numbers
pub record Said (s ns : List ℕ) (at : ℕ) : Type 0 where
  pub some : 1 ≤ at
  pub bytes : Bytes s → take at s ≡ forms ns

-- a first field
pub said_first : (s : List ℕ) (least most : ℕ) (f : Field) → Found s 0 least most f → Said s (f.value ∷ []) f.end
unfolding forms
said_first s least most f h =
    let z : f.end ≡ h.size = omega (arith, h.ends) in
    record {
      some = omega (arith, number_some s f.value h.size h.reads);
      bytes = λ b. rw z ((reads_form f.value h.size s b h.reads).1 ∙ sym (append-nil (form f.value)));
    }

-- one field more
pub said_next : (s ns : List ℕ) (at least most : ℕ) (f : Field) → Said s ns at → Found s at least most f → Said s (ns ++ (f.value ∷ [])) f.end
said_next s ns at least most f t h = record {
  some = omega arith;
  bytes = λ b. rw (
    h.ends,
    take-add at h.size s,
    forms_snoc ns f.value,
    t.bytes b,
    (reads_form f.value h.size (drop at s) (all_drop (λ c. c < 256) at s b) h.reads).1,
  );
}
