-- The top of a loaded plan: its arrivals stand below the number of its jobs.
use Rattle.std.specs.Prelude.{◌≡◌, refl, List, [], ◌∷◌, ℕ, suc, ◌+◌, ◌≤◌, Result, Ok, Err, length, get_or, set, take, replicate}
use Rattle.std.proofs.Common.{ap, ◌∙◌, arith, length-take, get_or-set_other}
use Rattle.std.proofs.lemmas.List.{get_or-replicate}
use Rattle.std.proofs.lemmas.List.Edits.{sets}
use Rattle.laws.specs.Lists.{pad_past}
use Rattle.model.specs.Sizes as Sizes
use Rattle.model.specs.Event.{empty_event}
use Rattle.model.specs.Plan.{empty_plan}
use Rattle.model.specs.declared.event.Event.{Event}
use Rattle.model.specs.declared.job.Job.{Job}
use Rattle.trace.specs.declared.answer.Refusal.{Refusal}
use Rattle.loader.specs.declared.loading.Tables.{Tables}
use Rattle.loader.specs.Tables.{empty_tables}
use Rattle.loader.specs.Arrivals.{arrivals_from, arrivals, arrivals_over}
use Rattle.loader.specs.ArrivalLaws.{arrivals_length}
use Rattle.loader.specs.Load.{plan_of, load_into, refused, loaded, load}
use Rattle.room.specs.Room.{used, event_at}
use Rattle.room.specs.Top.{free_from}

-- behind a run of stores the table is as it was
sets_past : {A : Type 0} (l : List A) (i : ℕ) (vs : List A) (k : ℕ) (d : A) → i + length vs ≤ k → get_or (sets l i vs) k d ≡ get_or l k d
sets_past l i [] k d h = refl
sets_past l i (v ∷ vs) k d h = sets_past (set l i v) (suc i) vs k d (omega arith) ∙ get_or-set_other l i k v d (λ e. omega arith)

-- Behind the arrivals of n jobs an empty room is free.
pub first_top : (events : List Event) (jobs : List Job) (n : ℕ) →
    events ≡ arrivals_over (replicate Sizes.events empty_event) jobs n → free_from n events
unfolding arrivals_over
first_top events jobs n e i t h =
    let room : List Event = replicate Sizes.events empty_event in
    let written : List Event = arrivals_from 0 (take n jobs) in
    let few : 0 + length written ≤ i = omega (arith, arrivals_length 0 (take n jobs), length-take n jobs) in
    let empty : event_at room i ≡ empty_event = get_or-replicate Sizes.events i empty_event empty_event h in
    ap used (ap (λ (l : List Event). event_at l i) e ∙ sets_past room 0 written i empty_event few ∙ empty)

-- So are the arrivals of n jobs with the room filled up.
arrivals_free : (jobs : List Job) (n : ℕ) → free_from n (arrivals jobs n)
unfolding arrivals
arrivals_free jobs n i t h =
    let l : List Event = arrivals_from 0 (take n jobs) in
    let few : length l ≤ i = omega (arith, arrivals_length 0 (take n jobs), length-take n jobs) in
    ap used (pad_past Sizes.events empty_event l i empty_event few h)

-- of the plan of loaded tables
pub plan_free : (t : Tables) → free_from t.setting.jobs (plan_of t).events
unfolding plan_of
plan_free t = arrivals_free t.jobs t.setting.jobs

loaded_free : (r : Result Tables Refusal) → free_from (loaded r).plan.setting.jobs (loaded r).plan.events
unfolding loaded refused plan_of empty_plan
loaded_free (Ok t) = plan_free t
loaded_free (Err e) = λ i t h. ap used (get_or-replicate Sizes.events i empty_event empty_event h)

-- of every load
pub load_free : (trace : List ℕ) → free_from (load trace).plan.setting.jobs (load trace).plan.events
unfolding load
load_free trace = loaded_free (load_into trace empty_tables)
