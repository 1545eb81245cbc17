-- A plan as loaded has what holds between two steps: no step was taken and nothing was told.
use Rattle.std.specs.Prelude.{◌≡◌, refl, Bool, true, false, ◌&&◌, ℕ, zero, suc, ◌+◌, ◌≤◌, eqb, length, get_or, take}
use Rattle.std.proofs.Math.Path.{sym}
use Rattle.std.proofs.Common.{⊎_elim, arith, get_or-take, length-take-le, ne_eqb}
use mathlib.Core.List.{List, [], ◌∷◌}
use Rattle.std.proofs.Math.Seq.{take-nil}
use Rattle.laws.specs.Choice.{pick}
use Rattle.laws.specs.Tests.{le_or_lt, eq_or_ne}
use Rattle.laws.specs.Lists.{All, all_of, all_take}
use Rattle.laws.specs.Sums.{sum_over, bit, sum_none, sum_first}
use Rattle.model.specs.Job.{new_job, no_job}
use Rattle.model.specs.Event.{empty_event}
use Rattle.model.specs.declared.job.Ask.{Ask}
use Rattle.model.specs.declared.job.Job.{Job}
use Rattle.model.specs.declared.plan.Plan.{Plan}
use Rattle.life.specs.Life.{timed}
use Rattle.cluster.specs.Usage.{holding, charge_to, usage, running}
use Rattle.life.specs.Life.{timed}
use Rattle.cluster.specs.UsageLaws.{charge_none}
use Rattle.history.specs.Told.{runs_from}
use Rattle.history.specs.Good.{job_at, JobOk, Good, Now}
use Rattle.history.proofs.Good.{good_now}
use Rattle.history.specs.Entries.{in_use, used_one, is_arrival, arrival_one, arriving, sum_ones}
use Rattle.history.specs.Owed.{events_of, all_events}
use Rattle.history.specs.Good.{came}
use Rattle.promises.specs.LoadedLaws.{Ready}
use Rattle.promises.specs.Between.{Between}

-- ---- a job that is new

record New (j : Job) : Type 0 where
  ok : JobOk j
  evicted : j.evictions ≡ 0
  started : j.run ≡ 0
  runs_not : running j ≡ false
  holds_not : holding j ≡ false
  owes_not : events_of j ≡ 0
  came_not : came j.state ≡ 0

new_so : (a : Ask) → New (new_job a)
unfolding new_job holding events_of
new_so a =
    record {
      ok = record { run_is = omega arith; few = omega arith; waits_few = omega arith };
      evicted = refl;
      started = refl;
      runs_not = refl;
      holds_not = refl;
      owes_not = owes (timed a);
      came_not = refl;
    }
  where
    owes : (b : Bool) → 0 + pick b (0 + 0) 0 ≡ 0
    owes true = refl
    owes false = refl

-- ---- sums over the room

-- where only one place weighs anything the sum is at most its weight
sum_only : {A : Type 0} (g : A → ℕ) (l : List A) (i : ℕ) (d : A) → g d ≡ 0 → ((k : ℕ) → (k ≡ i → ⊥) → g (get_or l k d) ≡ 0) → sum_over g l ≤ g (get_or l i d)
unfolding sum_over
sum_only g [] i d z f = omega arith
sum_only g (x ∷ l) zero d z f =
    let r : sum_over g l ≡ 0 = sum_none g l (all_of (λ y. g y ≡ 0) l d (λ k b. f (suc k) (λ e. omega arith))) in
    omega (arith, r)
sum_only g (x ∷ l) (suc i) d z f =
    let a : g x ≡ 0 = f 0 (λ e. omega arith) in
    omega (arith, a, sum_only g l i d z (λ k n. f (suc k) (λ e. n (omega arith))))

module _ (p : Plan) (r : Ready p) where
  new_at : (k : ℕ) → New (job_at p.jobs k)
  new_at k = let e : job_at p.jobs k ≡ new_job (job_at p.jobs k).ask = r.fresh k in rw e (new_so (job_at p.jobs k).ask)

  -- what an entry weighs among the arrivals of a job
  entry_other : (i k : ℕ) → (k ≡ i → ⊥) → arrival_one i (get_or p.events k empty_event) ≡ 0
  entry_other i k n =
      ⊎_elim
      (λ past. rw (r.empty k past))
      (λ inside. rw (r.arrival k inside, ne_eqb k i n))
      (le_or_lt p.setting.jobs k)

  entry_few : (i k : ℕ) → arrival_one i (get_or p.events k empty_event) ≤ 1
  entry_few i k = bit_few (is_arrival (get_or p.events k empty_event).kind && eqb (get_or p.events k empty_event).job i)
    where
      bit_few : (b : Bool) → bit b ≤ 1
      bit_few true = omega arith
      bit_few false = omega arith

  arrives_once : (i : ℕ) → arriving i p.events ≤ 1
  arrives_once i = omega (arith, sum_only (arrival_one i) p.events i empty_event refl (entry_other i), entry_few i i)

  entry_past : (i k : ℕ) → p.setting.jobs ≤ i → k ≡ i → arrival_one i (get_or p.events k empty_event) ≡ 0
  entry_past i k past e = let q : p.setting.jobs ≤ k = omega (arith, past, e) in rw (r.empty k q)

  arrives_not : (i : ℕ) → p.setting.jobs ≤ i → arriving i p.events ≡ 0
  arrives_not i past =
      sum_none (arrival_one i) p.events
      (all_of (λ e. arrival_one i e ≡ 0) p.events empty_event (λ k b. ⊎_elim (λ s. entry_past i k past s) (λ n. entry_other i k n) (eq_or_ne k i)))

  -- each arrival takes an entry
  used_all : in_use p.events ≡ p.setting.jobs
  used_all =
      let n : ℕ = p.setting.jobs in
      let e : sum_over used_one p.events ≡ sum_over used_one (take n p.events) = sum_first used_one n p.events empty_event (λ k past. rw (r.empty k past)) in
      let l : length (take n p.events) ≡ n = length-take-le n p.events (omega (arith, r.event_size, r.job_room)) in
      let ones : All (λ x. used_one x ≡ 1) (take n p.events) =
      all_of (λ x. used_one x ≡ 1) (take n p.events) empty_event
      (λ k b. rw (get_or-take n p.events k empty_event (omega (arith, b, l)), r.arrival k (omega (arith, b, l)))) in
      omega (arith, e, l, sum_ones used_one (take n p.events) ones)

  nothing_owed : all_events p.jobs ≡ 0
  nothing_owed = sum_none events_of p.jobs (all_of (λ j. events_of j ≡ 0) p.jobs no_job (λ k b. (new_at k).owes_not))

  nothing_used : (tenant : ℕ) → usage p.jobs p.setting.jobs tenant ≡ 0
  unfolding usage
  nothing_used tenant =
      sum_none (charge_to tenant) (take p.setting.jobs p.jobs)
      (all_take (λ j. charge_to tenant j ≡ 0) p.setting.jobs p.jobs
      (all_of (λ j. charge_to tenant j ≡ 0) p.jobs no_job (λ k b. charge_none tenant (job_at p.jobs k) (new_at k).holds_not)))

  first_now : (m : ℕ) → Now p.setting p.jobs (take m [])
  unfolding sum_over runs_from
  first_now m =
      rw (take-nil m)
      (good_now p.setting p.jobs p.jobs [] r.job_size (λ k. refl) (λ k. (new_at k).ok) (λ k. sym (new_at k).evicted)
      (λ k. sym (new_at k).started) (λ k. sym (new_at k).runs_not) (λ tenant z f. omega (arith, f, nothing_used tenant)) tt)

  good_first : Good p.setting p.jobs p.jobs []
  unfolding sum_over runs_from
  good_first =
      record {
        size = r.job_size;
        asks = λ k. refl;
        each = λ k. (new_at k).ok;
        evicted = λ k. sym (new_at k).evicted;
        started = λ k. sym (new_at k).started;
        told = λ k. sym (new_at k).runs_not;
        within = λ tenant z f. omega (arith, f, nothing_used tenant);
        own = tt;
        always = λ m. first_now m;
      }

  -- a plan as loaded, before the first step
  pub loaded_between : Between p.jobs 0 [] p
  loaded_between =
      record {
        loaded = r.job_room;
        gpus = r.gpu_size;
        queue = r.queue_size;
        good = good_first;
        rest = r.no_job_lem;
        counted = record { size = r.event_size; count = omega (arith, used_all, r.next) };
        given = omega (arith, nothing_owed, r.next);
        pends = λ i. omega (arith, arrives_once i, (new_at i).came_not);
        inside = arrives_not;
      }
