-- The clock never falls: over any step of a plan reached from a loaded trace, and from any point of a history to any later one.
use Rattle.std.specs.Prelude.{◌≡◌, refl, true, List, [], ◌∷◌, ℕ, ◌≤◌, ltb, length, Float}
use Rattle.std.proofs.Common.{ap, ⊎_elim, le_trans, le_of_eq, le-leb}
use native.Mathlib.Omega.{arith}
use Rattle.laws.specs.Choice.{pick_cases, pick_either}
use Rattle.laws.specs.Tests.{le_or_lt, never_both}
use Rattle.laws.specs.Lists.{All, all_append, all_get_d}
use Rattle.model.specs.Sizes.{permitted_bits}
use Rattle.model.specs.Number.{bits_of, permitted, zero·0}
use Rattle.model.specs.Setting.{default_options}
use Rattle.model.specs.Job.{no_ask, new_job}
use Rattle.model.specs.declared.job.Ask.{Ask}
use Rattle.model.specs.declared.plan.Plan.{Plan}
use Rattle.decision_log.specs.declared.Decision.{Decision}
use Rattle.trace.specs.declared.record.Record.{Record}
use Rattle.trace.specs.declared.record.Record.TheVariants as R
use Rattle.loader.specs.Load.{load}
use Rattle.room.specs.Room.{used, event_at}
use Rattle.engine.specs.Advance.{has_event, advanced}
use Rattle.planner.specs.Step.{words_needed, stepped}
use Rattle.planner.specs.StepLaws.{accepted_for, accepted_plan}
use Rattle.planner.specs.declared.Stepped.{Stepped}
use Rattle.history.specs.Good.{job_at}
use Rattle.history.proofs.SumLaws.{permitted_plus, bits_plus}
use Rattle.history.specs.TimesLaws.{OnTime, Fair}
use Rattle.promises.specs.RecordFormLaws.{Ranged, bits_back}
use Rattle.promises.specs.RunLaws.{records_of}
use Rattle.promises.specs.ListedLaws.{gather, ask_in, asks_of, options_in, options_of}
use Rattle.promises.specs.NothingDroppedLaws.{Exactly, load_exactly}
use Rattle.promises.specs.LoadedLaws.{Ready, load_ready, job_at_lem}
use Rattle.promises.specs.Conditions.{Reached, begin, onward, first, reached_between}
use Rattle.promises.specs.OneHistory.{one_history}
use Rattle.promises.specs.TimesSteps.{Punctual, next_on_time, step_on_time, clock_is}

-- ---- a plan as loaded

-- what each record says has a property that it has in its ranges
gather_all : {A : Type 0} (f : Record → List A) (P : A → Type 0) → ((r : Record) → Ranged r → All P (f r)) → (rs : List Record) → All Ranged rs → All P (gather f rs)
unfolding gather
gather_all f P k [] h = tt
gather_all f P k (r ∷ rs) h = all_append P (f r) (gather f rs) (k r h.0) (gather_all f P k rs h.1)

-- a number that stands in its range
small_permitted : (x : Float) → bits_of x ≤ permitted_bits → permitted x ≡ true
small_permitted x h = le-leb (bits_of x) permitted_bits h

zero_bits : bits_of zero·0 ≡ 0
zero_bits = bits_back 0 (omega arith)

zero_permitted : permitted zero·0 ≡ true
zero_permitted = small_permitted zero·0 (omega (arith, zero_bits))

-- of a job its arrival and its duration
abbrev FairAsk : Ask → Type 0
FairAsk a = (permitted a.arrival ≡ true) × (permitted a.duration ≡ true)

ask_fair : (r : Record) → Ranged r → All FairAsk (ask_in r)
ask_fair R.End h = tt
ask_fair (R.Node site) h = tt
ask_fair (R.Gpu card) h = tt
ask_fair (R.Quota tenant quota) h = tt
ask_fair (R.Profile profile most) h = tt
ask_fair (R.Job ask) h = ((small_permitted ask.arrival h.arrival, small_permitted ask.duration h.duration), tt)
ask_fair (R.Options options) h = tt

options_fair : (r : Record) → Ranged r → All Fair (options_in r)
options_fair R.End h = tt
options_fair (R.Node site) h = tt
options_fair (R.Gpu card) h = tt
options_fair (R.Quota tenant quota) h = tt
options_fair (R.Profile profile most) h = tt
options_fair (R.Job ask) h = tt
options_fair (R.Options options) h = (
  record {
    seconds = permitted_plus options.seconds (small_permitted options.seconds h.0);
    penalty = permitted_plus options.penalty (small_permitted options.penalty h.1);
    multiplier = permitted_plus options.multiplier (small_permitted options.multiplier (omega (arith, h.3)));
  },
  tt,
)

default_fair : Fair default_options
default_fair =
    record { seconds = bits_plus 0x403e000000000000 (omega arith); penalty = bits_plus 0 (omega arith); multiplier = bits_plus 0x3ff0000000000000 (omega arith) }

loaded_on_time : (rs : List Record) (p : Plan) → Exactly rs p → Ready p → Punctual p.jobs true p
unfolding new_job
loaded_on_time rs p x r =
    let asks : All FairAsk (asks_of rs) = gather_all ask_in FairAsk ask_fair rs x.ranged in
    let ask : (i : ℕ) → FairAsk (job_at p.jobs i).ask =
    λ i. rw (job_at_lem rs p x i) (all_get_d FairAsk (asks_of rs) i no_ask asks (zero_permitted, zero_permitted)) in
    record {
      clock = rw r.clock zero_permitted;
      room = λ o i u. ⊎_elim
          (λ past. absurd (never_both u (ap used (r.empty i past))))
          (λ inside. rw (r.arrival i inside, r.clock)
          (record { fine = (ask i).0; after = omega (arith, zero_bits); arrival = λ t. refl }))
          (le_or_lt p.setting.jobs i);
      remains = λ i. rw (r.remaining i) (permitted_plus (job_at p.jobs i).ask.duration (ask i).1);
      fair = rw x.options (all_get_d Fair (options_of rs) 0 default_options (gather_all options_in Fair options_fair rs x.ranged) default_fair);
    }

-- ---- every plan reached

reached_on_time : (trace : List ℕ) (k : ℕ) (p : Plan) (h : List Decision) → Reached trace k p h → Punctual (first trace).jobs true p
reached_on_time trace k p h (begin e) = loaded_on_time (records_of trace) (load trace).plan (load_exactly trace e) (load_ready trace e)
reached_on_time trace k p h (onward {k = n} {p = q} {h = g} r buffer e) =
    let s : (stepped q (length buffer)).plan ≡ (advanced q).plan = ap (λ x. x.plan) (accepted_plan q buffer e) in
    let a : _ = accepted_for q buffer e in
    let t : Punctual (first trace).jobs (advanced q).ok (advanced q).plan =
    step_on_time (first trace).jobs n g q (reached_between trace n q g r).0 a.1 (reached_on_time trace n q g r) in
    rw s (rw a.2 at t)

module _ (trace : List ℕ) (k : ℕ) (p : Plan) (h : List Decision) (r : Reached trace k p h) where
  -- The clock is a permitted number,
  pub clock_permitted : permitted p.clock ≡ true
  clock_permitted = (reached_on_time trace k p h r).clock

  -- so is the time of every event ahead, and none is before the clock.
  pub none_before_clock : (i : ℕ) → used (event_at p.events i) ≡ true →
      (permitted (event_at p.events i).time ≡ true) × (bits_of p.clock ≤ bits_of (event_at p.events i).time)
  none_before_clock i u = let t : OnTime (first trace).jobs p.clock (event_at p.events i) = (reached_on_time trace k p h r).room refl i u in (t.fine, t.after)

  next_rises : has_event p ≡ true → bits_of p.clock ≤ bits_of (advanced p).plan.clock
  next_rises has =
      rw (clock_is p) (next_on_time (first trace).jobs k h p (reached_between trace k p h r).0 has (reached_on_time trace k p h r)).after

  -- No step, accepted or refused, takes the clock back, whatever buffer is lent. Times are compared by their bits, as events are.
  pub clock_rises : (n : ℕ) → bits_of p.clock ≤ bits_of (stepped p n).plan.clock
  unfolding stepped
  clock_rises n =
      let same : bits_of p.clock ≤ bits_of p.clock = omega arith in
      pick_either (λ (x : Stepped). bits_of p.clock ≤ bits_of x.plan.clock) (ltb n words_needed) _ _ same
      (pick_cases (λ (x : Stepped). bits_of p.clock ≤ bits_of x.plan.clock) (has_event p) _ _
      (λ has. pick_either (λ (x : Stepped). bits_of p.clock ≤ bits_of x.plan.clock) (advanced p).ok _ _ (next_rises has) same)
      (λ none. same))

-- Of two points of a trace's history the later one's clock is not less.
pub clock_never_falls : (trace : List ℕ) (k n : ℕ) (p q : Plan) (g h : List Decision) → Reached trace k p g → Reached trace n q h → k ≤ n →
    bits_of p.clock ≤ bits_of q.clock
clock_never_falls trace k n p q g h r (begin e) l =
    let z : p ≡ q = (one_history trace k n p q g h r (begin e) (omega arith)).0 in le_of_eq (ap (λ (x : Plan). bits_of x.clock) z)
clock_never_falls trace k n p q g h r (onward {k = m} {p = q'} {h = h'} r' buffer e) l =
    ⊎_elim
    (λ a. le_trans (clock_never_falls trace k m p q' g h' r r' a) (clock_rises trace m q' h' r' (length buffer)))
    (λ a. let z : p ≡ q = (one_history trace k n p q g h r (onward r' buffer e) (omega arith)).0 in le_of_eq (ap (λ (x : Plan). bits_of x.clock) z))
    (le_or_lt k m)
