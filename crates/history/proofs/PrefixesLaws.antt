-- Each visit has one of three outcomes, and the evictions of a pass that name a job are those of the one visit at which it preempted, or none.
use Rattle.std.specs.Prelude.{◌≡◌, Bool, true, false, length, take, Float}
use Rattle.std.proofs.Math.Path.{refl, sym, ap}
use Rattle.std.proofs.Common.{◌∙◌, ⊎_elim, length-append, length-take-le, ne_eqb}
use mathlib.Core.List.{List, [], ◌∷◌, ◌++◌, map, append_assoc, append-nil}
use Prim.Native.Nat.{ℕ, zero, suc, ◌+◌, ◌≤◌, ◌<◌}
use native.Mathlib.Omega.{arith}
use Rattle.std.proofs.Math.ListN.{length-map}
use Rattle.laws.specs.Tests.{split, fails, never_both, le_or_lt, eq_or_ne, eqb_self}
use Rattle.laws.specs.Lists.{All, Distinct}
use Rattle.laws.specs.Loop.{through, through_last, through_keeps}
use Rattle.laws.specs.Search.{has, has_all}
use Rattle.laws.specs.Sort.{only}
use Rattle.eligible.specs.More.{only_append}
use Rattle.model.specs.declared.gpu.Gpu.{Gpu}
use Rattle.model.specs.declared.job.Job.{Job}
use Rattle.model.specs.declared.job.JobState.TheVariants.{Placed, Running}
use Rattle.model.specs.declared.setting.Options.{Options}
use Rattle.model.specs.declared.setting.Setting.{Setting}
use Rattle.model.specs.declared.totals.Totals.{Totals}
use Rattle.decision_log.specs.Log.{decisions}
use Rattle.decision_log.specs.declared.Decision.{Decision}
use Rattle.decision_log.specs.declared.Log.{Log}
use Rattle.life.specs.Life as Life
use Rattle.cluster.specs.Usage as Usage
use Rattle.preemptive.specs.Prefix.{made, preempted, evicted_all}
use Rattle.apart.specs.PrefixLaws.{shortest_prefix, preempted_victims}
use Rattle.line.specs.Keep.{waits_in, waits}
use Rattle.line.specs.Line.{new_line}
use Rattle.apart.specs.LineLaws.{Sized, victims_of, eviction_told, new_sized, joins_decisions}
use Rattle.line.specs.declared.join.Line.{Line}
use Rattle.starts.specs.Begin.{begun, begun_all}
use Rattle.apart.specs.StartsLaws.{starts_told, all_decisions}
use Rattle.starts.specs.declared.begin.Begun.{Begun}
use Rattle.starts.specs.declared.begin.Placing.{Placing}
use Rattle.pass.specs.Visit.{new_pass, placed_as, allocation, visited}
use Rattle.pass.specs.Walk.{sorted, visit_at, walked}
use Rattle.apart.specs.Standing.{Standing, Looked, InState, job_at, cleared, place_other, place_it, place_line, clear_room, clear_other, clear_standing, clear_looked}
use Rattle.apart.specs.Leaving.{preemption, leaving, leaving_may, leaving_once, may_run}
use Rattle.apart.specs.Keeps.{Kept, placing, sorted_standing, visit_keeps, waits_only}
use Rattle.apart.specs.VisitLaws.{visit_other, visit_victim, visit_places, visit_mig, visit_nobody, visit_preempts}
use Rattle.apart.specs.Told.{Told, told_kept}
use Rattle.apart.specs.PassLaws.{new_standing, pass_standing, pass_none_lost, pass_room}
use Rattle.pass.specs.declared.visit.Pass.{Pass}
use Rattle.history.specs.Told.{is_evicted}
use Rattle.history.specs.Prefixes.{fits_now, candidates_at, how_many, prefix, prefix_told, not_waiting, a_victim, no_prefix, Places, Preempts, Outcome, nothing, places, preempts, visitor, visits, after, evicts_for, Silent, Evicts, nobody, once, Prefixes}

-- ---- one visit

module _ (s : Setting) (clock : Float) (p : Pass) (id : ℕ) where
  -- as many leave as the definition says
  count_is : (preemption s clock p id).count ≡ how_many s clock p id
  unfolding preempted made
  count_is = refl

  -- and they are the prefix
  leaving_is : leaving s clock p id ≡ prefix s clock p id
  leaving_is = preempted_victims s clock p.gpus p.jobs (job_at p id) ∙ ap (λ (k : ℕ). take k (candidates_at s p id)) count_is

module _ (s : Setting) (clock : Float) (p : Pass) (id : ℕ) (so : Standing p) where
  places_so : Looked p id → fits_now s p id ≡ true → Places s p id (visited s clock p id)
  unfolding Life.placed
  places_so l f =
      let e : visited s clock p id ≡ placing s p id = visit_places s clock p id l f in
      record {
        looked = l;
        fits = f;
        is = e;
        placed = rw e (ap (λ (j : Job). j.state) (place_it p so id l (job_at p id) (allocation s p id (job_at p id))));
        told = rw (e, place_line p so id l (job_at p id) (allocation s p id (job_at p id)));
      }

  -- at most one decision of the step stands before those on the victims
  module _ (room : p.line.log.count ≤ p.line.evicted + 1) where
    -- the pass when the prefix has left
    abbrev gone : Pass
    gone = cleared clock p id (prefix s clock p id)

    prefix_runs : All (InState Running p.jobs) (prefix s clock p id)
    prefix_runs = rw (← leaving_is s clock p id) (may_run s clock p id (leaving s clock p id) (leaving_may s clock p id))

    prefix_once : Distinct (prefix s clock p id)
    prefix_once = rw (← leaving_is s clock p id) (leaving_once s clock p id)

    gone_told : decisions gone.line.log ≡ decisions p.line.log ++ prefix_told s clock p id
    unfolding cleared
    gone_told =
        joins_decisions
        clock
        (evicted_all clock p.jobs (prefix s clock p id))
        id
        p.line
        (prefix s clock p id)
        so.line
        (omega (arith, room, clear_room clock p so id (prefix s clock p id) prefix_runs prefix_once))

    preempts_so : Looked p id → (job_at p id).ask.profile ≡ 0 → fits_now s p id ≡ false → 0 < how_many s clock p id → Preempts s clock p id (visited s clock p id)
    unfolding Life.placed
    preempts_so l z f h =
        let so' : Standing gone = clear_standing clock p so id (prefix s clock p id) prefix_runs prefix_once in
        let c : (job_at gone id ≡ job_at p id) × Looked gone id = clear_looked clock p so id (prefix s clock p id) prefix_runs prefix_once l in
        let v : visited s clock p id ≡ placed_as gone id (job_at p id) (allocation s gone id (job_at p id)) =
        visit_preempts s clock p id l f z (rw (count_is s clock p id) h)
        ∙ ap (λ (vs : List ℕ). placed_as (cleared clock p id vs) id (job_at p id) (allocation s (cleared clock p id vs) id (job_at p id))) (leaving_is s clock p id) in
        let e : visited s clock p id ≡ placing s gone id = v ∙ ap (λ (j : Job). placed_as gone id j (allocation s gone id j)) (sym c.0) in
        record {
          looked = l;
          whole = z;
          full = f;
          some = h;
          least = shortest_prefix s clock p.gpus p.jobs (job_at p id) (candidates_at s p id);
          is = e;
          placed = rw e (ap (λ (j : Job). j.state) (place_it gone so' id c.1 (job_at gone id) (allocation s gone id (job_at gone id))));
          told = rw (e, place_line gone so' id c.1 (job_at gone id) (allocation s gone id (job_at gone id))) gone_told;
        }

    -- a job that is looked at and not placeable
    full_outcome : Looked p id → fits_now s p id ≡ false → Outcome s clock p id (visited s clock p id)
    full_outcome l f =
        ⊎_elim
        (λ z. ⊎_elim
        (λ n. let none : how_many s clock p id ≡ 0 = omega (arith, n) in
        nothing
        (no_prefix f (λ w. (shortest_prefix s clock p.gpus p.jobs (job_at p id) (candidates_at s p id)).none none))
        (visit_nobody s clock p id l f z (count_is s clock p id ∙ none)))
        (λ n. preempts (preempts_so l z f n))
        (le_or_lt (how_many s clock p id) 0))
        (λ z. nothing (no_prefix f (λ w. absurd (z w))) (visit_mig s clock p id l f z))
        (eq_or_ne (job_at p id).ask.profile 0)

    -- Each visit has one of the three outcomes.
    pub visit_outcome : Outcome s clock p id (visited s clock p id)
    visit_outcome =
        split
        (waits (job_at p id))
        (λ w. split
        (has id (victims_of p.line))
        (λ v. nothing (a_victim v) (visit_victim s clock p id v))
        (λ v. let l : Looked p id = record { waiting = waits_only (job_at p id).state w; spared = v } in
        split (fits_now s p id) (λ f. places (places_so l f)) (λ f. full_outcome l f)))
        (λ w. nothing (not_waiting w) (visit_other s clock p id w))

-- ---- which decisions name a job

-- those on its own victims do
only_own : (clock : Float) (id : ℕ) (vs : List ℕ) → only (evicts_for id) (map (eviction_told clock id) vs) ≡ map (eviction_told clock id) vs
unfolding only
only_own clock id [] = refl
only_own clock id (v ∷ vs) = rw (eqb_self id, only_own clock id vs)

-- those on another's do not
only_other : (clock : Float) (by id : ℕ) (vs : List ℕ) → (by ≡ id → ⊥) → only (evicts_for id) (map (eviction_told clock by) vs) ≡ []
unfolding only
only_other clock by id [] h = refl
only_other clock by id (v ∷ vs) h = rw (ne_eqb by id h, only_other clock by id vs h)

-- what is no eviction does not
only_none : (id : ℕ) (ds : List Decision) → All (λ d. is_evicted d.kind ≡ false) ds → only (evicts_for id) ds ≡ []
unfolding only
only_none id [] h = refl
only_none id (d ∷ ds) h = rw (h.0, only_none id ds h.1)

-- no start does
only_starts : (options : Options) (clock : Float) (id : ℕ) (b : Begun) (ps : List Placing) → only (evicts_for id) (starts_told options clock b ps) ≡ []
unfolding only starts_told
only_starts options clock id b [] = refl
only_starts options clock id b (p ∷ ps) = only_starts options clock id (begun options clock b p) ps

-- a job once placed stays placed to the end of the pass
placed_kept : (s : Setting) (clock : Float) (id : ℕ) → Kept s clock (λ p. (job_at p id).state ≡ Placed)
placed_kept s clock id =
    record {
      place = λ p k so l t h. rw (place_other p so k l (job_at p k) (allocation s p k (job_at p k)) id
          (λ e. never_both (ap waits_in l.waiting) (ap waits_in (rw e at h)))) h;
      clear = λ p k vs so l may once h. let run : All (InState Running p.jobs) vs = may_run s clock p k vs may in
          rw (clear_other clock p so k vs run once id
          (fails (has id vs) (λ e. never_both (ap Usage.runs (has_all (InState Running p.jobs) id vs run e).1) (ap Usage.runs h)))) h;
    }

-- who preempts evicts somebody
told_some : (s : Setting) (clock : Float) (p : Pass) (id : ℕ) (q : Pass) → Preempts s clock p id q → decisions q.line.log ≡ decisions p.line.log → ⊥
told_some s clock p id q x e =
    let n : length (prefix_told s clock p id) ≡ how_many s clock p id = length-map (prefix s clock p id) (eviction_told clock id)
    ∙ length-take-le (how_many s clock p id) (candidates_at s p id) x.least.within in
    let l : length (decisions p.line.log) ≡ length (decisions p.line.log) + length (prefix_told s clock p id) = ap length (sym e ∙ x.told)
    ∙ length-append (decisions p.line.log) (prefix_told s clock p id) in
    omega (arith, n, l, x.some)

-- For a job that preempts in one of the first n visits, the evictions that name it are the shortest prefix of its candidates then.
pub preempts_told : (s : Setting) (clock : Float) (p : Pass) (n i : ℕ) (ds : List Decision) → i < n →
    Preempts s clock (after s clock p i) (visitor p i) (after s clock p (i + 1)) → Evicts s clock p n (visitor p i) ds →
    ds ≡ prefix_told s clock (after s clock p i) (visitor p i)
preempts_told s clock p n i ds h x (nobody e f) = absurd (told_some s clock (after s clock p i) (visitor p i) (after s clock p (i + 1)) x (f i h refl))
preempts_told s clock p n i ds h x (once k a v y e f t) =
    ⊎_elim
    (λ z. e ∙ ap (λ (m : ℕ). prefix_told s clock (after s clock p m) (visitor p i)) (sym z))
    (λ z. absurd (told_some s clock (after s clock p i) (visitor p i) (after s clock p (i + 1)) x (f i h refl z)))
    (eq_or_ne i k)

-- ---- a pass

-- the pass is all its visits
pub walked_visits : (s : Setting) (clock : Float) (p : Pass) → walked s clock p ≡ after s clock p (visits p)
unfolding walked
walked_visits s clock p = refl

-- nobody is evicted as it begins, and at most the event's own decision is told
module _ (s : Setting) (clock : Float) (p : Pass) (so : Standing p) (begins : p.line.evicted ≡ 0) (own : p.line.log.count ≤ 1) where
  -- what holds after any number of visits
  abbrev Then : Pass → Type 0
  Then q = Standing q × Told clock (decisions p.line.log) p.line.log.count q

  begin_told : Told clock (decisions p.line.log) p.line.log.count (sorted p)
  unfolding sorted
  begin_told = record { evictions = []; all = sym (append-nil (decisions p.line.log)); jobs = rw begins; each = tt; count = omega (arith, begins) }

  then : (n : ℕ) → Then (after s clock p n)
  then n =
      through_keeps
      (visit_at s clock (sorted p).line.queue)
      Then
      (λ q i b. visit_keeps s clock (Told clock (decisions p.line.log) p.line.log.count)
      (told_kept s clock (decisions p.line.log) p.line.log.count own) q (visitor p i) b)
      (sorted p)
      n
      0
      (sorted_standing p so, begin_told)

  -- one visit more
  next : (n : ℕ) → after s clock p (n + 1) ≡ visited s clock (after s clock p n) (visitor p n)
  next n =
      let e : 0 + n ≡ n = omega arith in
      rw e at (through_last (visit_at s clock (sorted p).line.queue) (sorted p) n 0)

  -- Each visit of the pass has one of the three outcomes.
  pub each_visit : (n : ℕ) → Outcome s clock (after s clock p n) (visitor p n) (after s clock p (n + 1))
  each_visit n =
      rw (next n)
      (visit_outcome s clock (after s clock p n) (visitor p n) (then n).0 (omega (arith, (then n).1.count, own)))

  -- a job that is placed stays so
  stays_placed : (n id : ℕ) → (job_at (after s clock p n) id).state ≡ Placed → (job_at (after s clock p (n + 1)) id).state ≡ Placed
  stays_placed n id h =
      rw (next n) (visit_keeps s clock (λ q. (job_at q id).state ≡ Placed) (placed_kept s clock id) (after s clock p n) (visitor p n) ((then n).0, h)).1

  -- visits before n that are silent, and then visit n
  one_more : (n id i : ℕ) → (visitor p n ≡ id → Silent s clock p n) → i < n + 1 → visitor p i ≡ id → (i < n → Silent s clock p i) → Silent s clock p i
  one_more n id i q h v f =
      ⊎_elim
      (λ a. f (omega (arith, a)))
      (λ a. let e : i ≡ n = omega (arith, h, a) in rw e (q (rw e at v)))
      (le_or_lt (i + 1) n)

  -- a visit that tells nothing for the job
  quiet : (n id : ℕ) (ds : List Decision) → (visitor p n ≡ id → Silent s clock p n) → Evicts s clock p n id ds → Evicts s clock p (n + 1) id ds
  quiet n id ds q (nobody e f) = nobody e (λ i h v. one_more n id i q h v (λ a. f i a v))
  quiet n id ds q (once i h v x e f t) =
      once i (omega (arith, h)) v x e (λ k b w d. one_more n id k q b w (λ a. f k a w d)) (stays_placed n id t)

  -- a visit that tells nothing
  quiet_visit : (n : ℕ) → Prefixes s clock p n → Silent s clock p n → Prefixes s clock p (n + 1)
  quiet_visit n g e =
      record { told = g.told; all = e ∙ g.all; each = λ id. quiet n id (only (evicts_for id) g.told) (λ v. e) (g.each id) }

  -- the visit of a job that preempts: it did not before, since it would be placed
  first_time : (n : ℕ) (ds : List Decision) → Preempts s clock (after s clock p n) (visitor p n) (after s clock p (n + 1)) →
      Evicts s clock p n (visitor p n) ds → Evicts s clock p (n + 1) (visitor p n) (ds ++ prefix_told s clock (after s clock p n) (visitor p n))
  first_time n ds x (nobody e f) = once n (omega arith) refl x (rw e) (λ k h v d. f k (omega (arith, h, d)) v) x.placed
  first_time n ds x (once i h v y e f t) = absurd (never_both (ap waits_in x.looked.waiting) (ap waits_in t))

  -- a visit at which a job preempts
  loud_visit : (n : ℕ) → Prefixes s clock p n → Preempts s clock (after s clock p n) (visitor p n) (after s clock p (n + 1)) → Prefixes s clock p (n + 1)
  loud_visit n g x =
      record {
        told = g.told ++ prefix_told s clock (after s clock p n) (visitor p n);
        all = x.told ∙ rw g.all (append_assoc (decisions p.line.log) g.told (prefix_told s clock (after s clock p n) (visitor p n)));
        each = λ id. rw (only_append (evicts_for id) g.told (prefix_told s clock (after s clock p n) (visitor p n)))
            (⊎_elim (λ e. own_visit id e) (λ e. other_visit id e) (eq_or_ne (visitor p n) id));
      }
    where
      vs : List ℕ
      vs = prefix s clock (after s clock p n) (visitor p n)

      own_visit : (id : ℕ) → visitor p n ≡ id →
          Evicts s clock p (n + 1) id (only (evicts_for id) g.told ++ only (evicts_for id) (map (eviction_told clock (visitor p n)) vs))
      own_visit id e =
          rw (← e, only_own clock (visitor p n) vs) (first_time n (only (evicts_for (visitor p n)) g.told) x (g.each (visitor p n)))

      other_visit : (id : ℕ) → (visitor p n ≡ id → ⊥) →
          Evicts s clock p (n + 1) id (only (evicts_for id) g.told ++ only (evicts_for id) (map (eviction_told clock (visitor p n)) vs))
      other_visit id e =
          rw (only_other clock (visitor p n) id vs e, append-nil (only (evicts_for id) g.told))
          (quiet n id (only (evicts_for id) g.told) (λ v. absurd (e v)) (g.each id))

  by_outcome : (n : ℕ) → Prefixes s clock p n → Outcome s clock (after s clock p n) (visitor p n) (after s clock p (n + 1)) → Prefixes s clock p (n + 1)
  by_outcome n g (nothing i e) = quiet_visit n g (ap (λ (q : Pass). decisions q.line.log) e)
  by_outcome n g (places x) = quiet_visit n g x.told
  by_outcome n g (preempts x) = loud_visit n g x

  -- After any number of visits, for each job: nobody left for it, or at one visit the shortest prefix.
  pub visits_prefixes : (n : ℕ) → Prefixes s clock p n
  unfolding through sorted only
  visits_prefixes zero =
      record { told = []; all = sym (append-nil (decisions p.line.log)); each = λ id. nobody refl (λ i h v. absurd (omega (arith, h))) }
  visits_prefixes (suc n) = let e : suc n ≡ n + 1 = omega arith in rw e (by_outcome n (visits_prefixes n) (each_visit n))

-- ---- the pass of a step: told is the log as it begins, with at most the event's own decision

module _ (s : Setting) (clock : Float) (gpus : List Gpu) (jobs : List Job) (queue : List ℕ) (waiting : ℕ) (totals : Totals) (told : Log) (ok : Bool)
    (gpus-size : length gpus ≡ 128) (jobs-size : length jobs ≡ 128) (queue_size : length queue ≡ 128) (told-size : length told.table ≡ 129)
    (own : told.count ≤ 1) where
  abbrev line : Line
  line = new_line queue waiting totals told ok

  -- as it begins, and as it ends
  abbrev pub begin : Pass
  begin = new_pass gpus jobs line

  abbrev pub end : Pass
  end = walked s clock begin

  begin_standing : Standing begin
  unfolding new_line
  begin_standing = new_standing s clock gpus jobs line gpus-size jobs-size (new_sized queue waiting totals told ok queue_size told-size) refl

  -- Each of its visits has one of the three outcomes.
  pub pass_visit : (i : ℕ) → Outcome s clock (after s clock begin i) (visitor begin i) (after s clock begin (i + 1))
  unfolding new_pass new_line
  pass_visit i = each_visit s clock begin begin_standing refl own i

  -- For each job: nobody left for it, or at one visit the shortest prefix of its candidates.
  pub pass_prefixes : Prefixes s clock begin (visits begin)
  unfolding new_pass new_line
  pass_prefixes = visits_prefixes s clock begin begin_standing refl own (visits begin)

  -- what the pass told stands behind the decision before it
  pub pass_all : decisions end.line.log ≡ decisions told ++ pass_prefixes.told
  unfolding new_pass new_line
  pass_all = rw (walked_visits s clock begin) pass_prefixes.all

  -- who starts, in the order of placing
  abbrev starts : List Placing
  starts = take end.count end.placed

  -- their decisions fit behind those of the pass
  end_room : end.line.log.count + length starts ≤ 129
  unfolding new_line
  end_room =
      let sized : Sized line = new_sized queue waiting totals told ok queue_size told-size in
      omega (
        arith,
        pass_room s clock gpus jobs line gpus-size jobs-size sized refl own,
        (pass_none_lost s clock gpus jobs line gpus-size jobs-size sized refl).1,
        length-map starts (λ x. x.job),
      )

  end_sized : length end.line.log.table ≡ 129
  unfolding new_line
  end_sized = (pass_standing s clock gpus jobs line gpus-size jobs-size (new_sized queue waiting totals told ok queue_size told-size) refl).line.log

  -- The same of all decisions of the step, the starts told behind the pass: the evictions among them that name a job are none, or those of the shortest prefix.
  pub step_prefixes : All (λ d. is_evicted d.kind ≡ false) (decisions told) → (options : Options) (b : Begun) → b.log ≡ end.line.log →
      (id : ℕ) → Evicts s clock begin (visits begin) id (only (evicts_for id) (decisions (begun_all options clock b (take end.count end.placed)).log))
  step_prefixes none options b e id = rw all_of (pass_prefixes.each id)
    where
      behind : List Decision
      behind = starts_told options clock b starts

      step_told : decisions (begun_all options clock b starts).log ≡ (decisions told ++ pass_prefixes.told) ++ behind
      step_told =
          all_decisions options clock b starts (rw e end_sized) (rw e end_room) ∙ ap (λ (ds : List Decision). ds ++ behind) (ap decisions e ∙ pass_all)

      all_of : only (evicts_for id) (decisions (begun_all options clock b starts).log) ≡ only (evicts_for id) pass_prefixes.told
      all_of =
          rw (
            step_told,
            only_append (evicts_for id) (decisions told ++ pass_prefixes.told) behind,
            only_append (evicts_for id) (decisions told) pass_prefixes.told,
            only_none id (decisions told) none,
            only_starts options clock id b starts,
            append-nil (only (evicts_for id) pass_prefixes.told),
          )

  -- So for each job that preempts in the step, the evictions that name it are the shortest prefix of its candidates at its visit.
  pub step_preempts : All (λ d. is_evicted d.kind ≡ false) (decisions told) → (options : Options) (b : Begun) → b.log ≡ end.line.log → (i : ℕ) →
      i < visits begin → Preempts s clock (after s clock begin i) (visitor begin i) (after s clock begin (i + 1)) →
      only (evicts_for (visitor begin i)) (decisions (begun_all options clock b (take end.count end.placed)).log) ≡ prefix_told s clock
      (after s clock begin i) (visitor begin i)
  step_preempts none options b e i h x =
      preempts_told
      s
      clock
      begin
      (visits begin)
      i
      (only (evicts_for (visitor begin i)) (decisions (begun_all options clock b starts).log))
      h
      x
      (step_prefixes none options b e (visitor begin i))
