-- Laws of the arrivals: how many, one more, and over an empty room.
use Rattle.std.specs.Prelude.{◌≡◌, refl, List, [], ◌∷◌, ◌++◌, ℕ, suc, ◌+◌, ◌<◌, length, min, take, set, get_or, replicate}
use Rattle.std.proofs.Common.{sym, ap, add-one, arith, length-take, take-suc, length-take-le}
use Rattle.std.proofs.lemmas.List.Edits.{sets}
use Rattle.laws.specs.Lists.{pad_sets}
use Rattle.laws.specs.Tables.{take_least}
use Rattle.model.specs.Sizes as Sizes
use Rattle.model.specs.Event.{empty_event}
use Rattle.model.specs.declared.job.Job.{Job}
use Rattle.model.specs.declared.event.Event.{Event}
use Rattle.loader.specs.Arrivals.{arrival_of, arrivals_from, arrivals, arrivals_over}

pub arrivals_length : (i : ℕ) (js : List Job) → length (arrivals_from i js) ≡ length js
unfolding arrivals_from
arrivals_length i [] = refl
arrivals_length i (j ∷ js) = ap suc (arrivals_length (i + 1) js)

-- one more in a run of stores
sets_snoc : {A : Type 0} (l : List A) (i : ℕ) (vs : List A) (a : A) → sets l i (vs ++ (a ∷ [])) ≡ set (sets l i vs) (i + length vs) a
sets_snoc l i [] a = let e : i + 0 ≡ i = omega arith in rw e
sets_snoc l i (v ∷ vs) a = let e : i + suc (length vs) ≡ suc i + length vs = omega arith in rw (e, sets_snoc (set l i v) (suc i) vs a)

pub arrivals_snoc : (i : ℕ) (js : List Job) (j : Job) → arrivals_from i (js ++ (j ∷ [])) ≡ arrivals_from i js ++ (arrival_of (i + length js) j ∷ [])
unfolding arrivals_from
arrivals_snoc i [] j = let e : i + 0 ≡ i = omega arith in rw e
arrivals_snoc i (k ∷ js) j = let e : i + 1 + length js ≡ i + suc (length js) = omega arith in rw (arrivals_snoc (i + 1) js j, e)

-- before the first job the room is as it was
pub over_none : (room : List Event) (jobs : List Job) → room ≡ arrivals_over room jobs 0
unfolding arrivals_over arrivals_from
over_none room jobs = refl

-- one more job is written at its number
pub over_more : (room : List Event) (jobs : List Job) (i : ℕ) (none : Job) → i < length jobs →
    set (arrivals_over room jobs i) i (arrival_of i (get_or jobs i none)) ≡ arrivals_over room jobs (i + 1)
unfolding arrivals_over
over_more room jobs i none h =
    let n : length (take i jobs) ≡ i = length-take-le i jobs (omega arith) in
    let m : 0 + length (arrivals_from 0 (take i jobs)) ≡ i = rw (arrivals_length 0 (take i jobs)) (omega arith) in
    let z : 0 + length (take i jobs) ≡ i = omega arith in
    let t : arrivals_from 0 (take (i + 1) jobs) ≡ arrivals_from 0 (take i jobs) ++ (arrival_of i (get_or jobs i none) ∷ []) =
    rw (add-one, take-suc jobs i none h, arrivals_snoc 0 (take i jobs) (get_or jobs i none), z) in
    sym (rw (t, sets_snoc room 0 (arrivals_from 0 (take i jobs)) (arrival_of i (get_or jobs i none)), m))

-- past the table nothing is added
pub over_least : (room : List Event) (jobs : List Job) (n : ℕ) → length jobs ≡ Sizes.jobs → arrivals_over room jobs (min n Sizes.jobs) ≡ arrivals_over room jobs n
unfolding arrivals_over
over_least room jobs n h = rw (take_least n Sizes.jobs jobs (omega arith))

-- over an empty room they are the arrivals
pub over_empty : (jobs : List Job) (n : ℕ) → length jobs ≡ Sizes.jobs → arrivals_over (replicate Sizes.events empty_event) jobs n ≡ arrivals jobs n
unfolding arrivals_over arrivals
over_empty jobs n full =
    let m = arrivals_length 0 (take n jobs) in
    let k = length-take n jobs in
    pad_sets Sizes.events empty_event (arrivals_from 0 (take n jobs)) (omega (arith, m, k))
