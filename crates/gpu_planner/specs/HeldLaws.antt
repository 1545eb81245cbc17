-- What is held of a plan gives that plan back.
use Rattle.std.specs.Prelude.{◌≡◌, refl, List, [], ◌∷◌, map}
use Rattle.model.specs.declared.event.EventKind.{EventKind}
use Rattle.model.specs.declared.event.EventKind.TheVariants.{Empty, Arrival, Completion, Timeout}
use Rattle.model.specs.declared.event.Event.{Event}
use Rattle.model.specs.declared.job.JobState.{JobState}
use Rattle.model.specs.declared.job.JobState.TheVariants.{Pending, Waiting, Placed, Running, Finished, Failed}
use Rattle.model.specs.declared.job.Job.{Job}
use Rattle.model.specs.declared.plan.Plan.{Plan}
use Rattle.gpu_planner.specs.Held.{state_number, state_of, kind_number, kind_of, held_job, job_in, held_event, event_in, held_plan, plan_in}

-- ---- held and read again

state_back : (s : JobState) → state_of (state_number s) ≡ s
state_back Pending = refl
state_back Waiting = refl
state_back Placed = refl
state_back Running = refl
state_back Finished = refl
state_back Failed = refl

kind_back : (k : EventKind) → kind_of (kind_number k) ≡ k
kind_back Empty = refl
kind_back Arrival = refl
kind_back Completion = refl
kind_back Timeout = refl

job_back : (j : Job) → job_in (held_job j) ≡ j
unfolding held_job job_in
job_back j = rw (state_back j.state)

event_back : (e : Event) → event_in (held_event e) ≡ e
unfolding held_event event_in
event_back e = rw (kind_back e.kind)

jobs_back : (l : List Job) → map job_in (map held_job l) ≡ l
jobs_back [] = refl
jobs_back (j ∷ l) = rw (job_back j, jobs_back l)

events_back : (l : List Event) → map event_in (map held_event l) ≡ l
events_back [] = refl
events_back (e ∷ l) = rw (event_back e, events_back l)

-- so the plan that a step reads is the plan that the load or the step before it handed out
pub plan_back : (p : Plan) → plan_in (held_plan p) ≡ p
unfolding held_plan plan_in
plan_back p = rw (jobs_back p.jobs, events_back p.events)
