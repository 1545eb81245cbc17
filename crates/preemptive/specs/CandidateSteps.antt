-- The candidates as the code finds them and sorts them.
use Rattle.std.specs.Prelude.{◌≡◌, refl, Bool, false, ◌&&◌, ◌||◌, List, map, ℕ, ◌-◌, leb, ltb, eqb, length, get_or, replicate}
use Rattle.std.proofs.Math.Path.{fun_ext}
use Rattle.std.proofs.Common.{◌∙◌, ⊎_elim, arith, lt-ltb, le-ltb, eq-eqb, ne_eqb, le-leb}
use Rattle.std.proofs.Math.ListN.{get_or-map}
use Rattle.std.proofs.Math.Seq.{take-append_seam, drop-append_seam}
use Rattle.std.proofs.lemmas.Bool.{lt-leb}
use Rattle.laws.specs.Tests.{le_or_lt, eq_or_ne}
use Rattle.laws.specs.Lists.{pad, all_get_d, all_replicate}
use Rattle.laws.specs.Sort.{sort, sort_length}
use Rattle.model.specs.Job.{no_job, new_job}
use Rattle.model.specs.declared.job.Ask.{Ask}
use Rattle.model.specs.declared.job.Job.{Job}
use Rattle.model.specs.declared.setting.Setting.{Setting}
use Rattle.order.specs.Order.{by_numbers, sorted_front}
use Rattle.cluster.specs.Queue.{priority_of}
use Rattle.eligible.specs.Chosen.{chosen}
use Rattle.eligible.specs.declared.chosen.Chosen.{Chosen}
use Rattle.preemptive.specs.Candidate.{candidates_by_number, lower, candidates}

-- ---- the order by numbers, all second numbers 0, is the order by priority

no_number : (m x : ℕ) → ◌≡◌ {A = ℕ} (get_or (replicate m 0) x 0) 0
no_number m x = all_get_d (λ (y : ℕ). y ≡ 0) (replicate m 0) x 0 (all_replicate (λ (y : ℕ). y ≡ 0) m 0 refl) refl

no_second : (a b : ℕ) → (ltb a b || (eqb a b && leb 0 0)) ≡ leb a b
no_second a b =
    ⊎_elim
    (λ h. ⊎_elim
    (λ e. simp (le-ltb a b (omega arith), eq-eqb a b e, le-leb a b h))
    (λ e. simp (lt-ltb a b (omega arith), le-leb a b h))
    (eq_or_ne a b))
    (λ h. simp (le-ltb a b (omega arith), ne_eqb a b (λ e. omega arith), lt-leb a b h))
    (le_or_lt a b)

lower_numbers : (jobs : List Job) (m x y : ℕ) → by_numbers false (map priority_of jobs) (replicate m 0) x y ≡ lower jobs x y
unfolding by_numbers no_job new_job
lower_numbers jobs m x y =
    let a : get_or (map priority_of jobs) x 0 ≡ priority_of (get_or jobs x no_job) = get_or-map priority_of jobs x no_job in
    let b : get_or (map priority_of jobs) y 0 ≡ priority_of (get_or jobs y no_job) = get_or-map priority_of jobs y no_job in
    rw (a, b, no_number m x, no_number m y) (no_second (priority_of (get_or jobs x no_job)) (priority_of (get_or jobs y no_job)))

-- ---- a sorted list as it is held

sorted_held : (before : ℕ → ℕ → Bool) (l : List ℕ) → sorted_front before (length l) (pad 128 0 l) ≡ pad 128 0 (sort before l)
unfolding sorted_front pad
sorted_held before l =
    rw (take-append_seam l (replicate (128 - length l) 0), drop-append_seam l (replicate (128 - length l) 0), sort_length before l)

-- the candidates in job order, sorted by these numbers, are the candidates
pub candidates_sorted : (s : Setting) (jobs : List Job) (ask : Ask) (found : Chosen) (first second ids : List ℕ) →
    found ≡ chosen (candidates_by_number s.options.aware jobs s.jobs ask) → first ≡ map priority_of jobs → second ≡ replicate 128 0 →
    ids ≡ sorted_front (by_numbers false first second) found.count found.ids → record { ids = ids; count = found.count } ≡ chosen (candidates s jobs ask)
unfolding candidates
candidates_sorted s jobs ask found first second ids f a b e =
    let l : List ℕ = candidates_by_number s.options.aware jobs s.jobs ask in
    let o : by_numbers false (map priority_of jobs) (replicate 128 0) ≡ lower jobs = fun_ext (λ x. fun_ext (λ y. lower_numbers jobs 128 x y)) in
    let i : ids ≡ pad 128 0 (sort (lower jobs) l) = e ∙ rw (f, a, b, o) (sorted_held (lower jobs) l) in
    rw (i, f, sort_length (lower jobs) l)
