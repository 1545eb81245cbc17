-- What an event says keeps what holds between two steps: an arrival, a completion, a timeout, a stale one.
use Rattle.std.specs.Prelude.{◌≡◌, refl, Bool, true, List, [], ◌∷◌, ◌++◌, map, ℕ, ◌+◌, ◌*◌, ◌≤◌, ◌<◌, length, set, Float}
use Rattle.std.proofs.Common.{ap, ◌∙◌, append-nil, arith, length-set}
use Rattle.std.proofs.lemmas.List.{length-map, length-replicate}
use Rattle.laws.specs.Lists.{set_at, pad, pad_length}
use Rattle.laws.specs.Sums.{bit}
use Rattle.small.specs.Small.{plus_one}
use Rattle.model.specs.Job.{no_job}
use Rattle.model.specs.Number.{bits_of, permitted}
use Rattle.model.specs.declared.event.Event.{Event}
use Rattle.model.specs.declared.job.Ask.{Ask}
use Rattle.model.specs.declared.job.Job.{Job}
use Rattle.model.specs.declared.job.JobState.{JobState}
use Rattle.model.specs.declared.job.JobState.TheVariants.{Pending, Waiting, Placed, Running, Finished, Failed}
use Rattle.model.specs.declared.plan.Plan.{Plan}
use Rattle.decision_log.specs.Log.{empty_log, told, decisions, no_decision, told_behind}
use Rattle.decision_log.specs.declared.Decision.{Decision}
use Rattle.decision_log.specs.declared.Kind.{Kind}
use Rattle.decision_log.specs.declared.Kind.TheVariants as Kinds
use Rattle.life.specs.Life as Life
use Rattle.life.specs.Life.{timed}
use Rattle.mig.specs.Owner.{freed}
use Rattle.line.specs.Keep.{still_waiting}
use Rattle.room.specs.declared.ahead.Ahead.{Ahead}
use Rattle.starts.specs.Timeout.{timeout_queued}
use Rattle.starts.specs.Begin.{amount}
use Rattle.happen.specs.Happen.{job_of, stale, said, joins, with_ahead, arrives, completes, times_out}
use Rattle.history.specs.Good.{job_at, Good}
use Rattle.history.specs.Changes.{in_table}
use Rattle.history.proofs.Changes.{good_waits, good_fails, good_ends}
use Rattle.history.specs.Entries.{arriving}
use Rattle.history.specs.Queued.{Grown, timeout_grown}
use Rattle.history.specs.Owed.{Rest, all_events, owed_waits, owed_fails, owed_ends, owed_set, rest_below, rest_set}
use Rattle.history.specs.Good.{came}
use Rattle.history.specs.PassOwed.{arrived_not}
use Rattle.promises.specs.Between.{Between, Amid, nine, still_most}

-- ---- the log

empty_table : length empty_log.table ≡ 129
unfolding empty_log
empty_table = length-replicate 129 no_decision

pub empty_told : decisions empty_log ≡ []
unfolding empty_log
empty_told = refl

one_table : (time : ℕ) (kind : Kind) (job other : ℕ) → length (told empty_log time kind job other).table ≡ 129
unfolding told
one_table time kind job other = length-set empty_log.table empty_log.count _ ∙ empty_table

one_count : (time : ℕ) (kind : Kind) (job other : ℕ) → (told empty_log time kind job other).count ≤ 1
unfolding told empty_log
one_count time kind job other = omega arith

-- one decision is told, at the clock
pub one_told : (p : Plan) (kind : Kind) (job other : ℕ) →
    decisions (told empty_log (bits_of p.clock) kind job other) ≡ record { time = bits_of p.clock; kind = kind; job = job; other = other } ∷ []
unfolding empty_log
one_told p kind job other =
    let d : Decision = record { time = bits_of p.clock; kind = kind; job = job; other = other } in
    told_behind empty_log (bits_of p.clock) kind job other empty_table (omega arith) ∙ ap (λ (l : List Decision). l ++ (d ∷ [])) empty_told

said_amid : (jobs₀ : List Job) (k : ℕ) (h : List Decision) (p : Plan) (ok : Bool) (kind : Kind) (job other : ℕ) →
    Between jobs₀ k (h ++ (record { time = bits_of p.clock; kind = kind; job = job; other = other } ∷ [])) p → Amid jobs₀ k h (said p ok kind job other)
unfolding said
said_amid jobs₀ k h p ok kind job other b =
    record { between = rw (one_told p kind job other) b; table = told_table; own = told_count }
  where
    told_table : length (told empty_log (bits_of p.clock) kind job other).table ≡ 129
    told_table = one_table (bits_of p.clock) kind job other

    told_count : (told empty_log (bits_of p.clock) kind job other).count ≤ 1
    told_count = one_count (bits_of p.clock) kind job other

-- ---- a stale event

pub stale_amid : (jobs₀ : List Job) (k : ℕ) (h : List Decision) (p : Plan) → Between jobs₀ k h p → Amid jobs₀ k h (stale p)
unfolding stale empty_log
stale_amid jobs₀ k h p b =
    record { between = rw (empty_told, append-nil) b; table = empty_table; own = omega arith }

-- ---- arrivals ahead after a change of one job

pends_set : (events events' : List Event) (jobs : List Job) (id : ℕ) (j : Job) → id < length jobs →
    ((i : ℕ) → arriving i events' ≤ arriving i events) → ((i : ℕ) → arriving i events + came (job_at jobs i).state ≤ 1) →
    arriving id events' + came j.state ≤ 1 → (i : ℕ) → arriving i events' + came (job_at (set jobs id j) i).state ≤ 1
pends_set events events' jobs id j b f p h i =
    set_at jobs id j no_job (λ i x. arriving i events' + came x.state ≤ 1) b h (λ i n. omega (arith, f i, p i)) i

-- ---- an arrival

-- a job that has not arrived is pending
pub not_came : (st : JobState) → came st ≡ 0 → st ≡ Pending
not_came Pending c = refl
not_came Waiting c = absurd (omega arith)
not_came Placed c = absurd (omega arith)
not_came Running c = absurd (omega arith)
not_came Finished c = absurd (omega arith)
not_came Failed c = absurd (omega arith)

waits_ask : (j : Job) (clock : Float) → (Life.waits j clock).ask ≡ j.ask
unfolding Life.waits
waits_ask j clock = refl

waits_came : (j : Job) (clock : Float) → came (Life.waits j clock).state ≡ 1
unfolding Life.waits
waits_came j clock = refl

-- the job that arrives had one arrival ahead, which was taken, and had not arrived
pub arrives_amid : (jobs₀ : List Job) (k : ℕ) (h : List Decision) (p : Plan) (id : ℕ) → 1 ≤ k → Between jobs₀ k h p → id < p.setting.jobs →
    arriving id p.events ≡ 0 → came (job_at p.jobs id).state ≡ 0 → Amid jobs₀ k h (arrives p id)
unfolding arrives joins
arrives_amid jobs₀ k h p id one b inside none new =
    let j : Job = Life.waits (job_of p id) p.clock in
    let a : Ahead = timeout_queued (record { events = p.events; next = p.next; ok = true }) id j j.ask.arrival in
    let q : Plan = with_ahead (joins p id j) a in
    let small : id < 128 = omega (arith, inside, b.loaded) in
    let pending : (job_at p.jobs id).state ≡ Pending = not_came (job_at p.jobs id).state new in
    let jobs : List Job = set p.jobs id j in
    let good : Good p.setting jobs₀ jobs (h ++ (record { time = bits_of p.clock; kind = Kinds.Arrived; job = id; other = 0 } ∷ [])) =
    good_waits p.setting jobs₀ p.jobs h b.good id (bits_of p.clock) 0 p.clock small pending in
    let rest : Rest p.setting.jobs jobs = rest_set p.setting.jobs id p.jobs j inside b.rest in
    let owed : all_events jobs ≡ all_events p.jobs + bit (timed (job_at p.jobs id).ask) =
    owed_set p.jobs id (bit (timed (job_at p.jobs id).ask)) j (omega (arith, b.good.size, small)) (owed_waits (job_at p.jobs id) p.clock pending) in
    let asked : bit (timed j.ask) ≡ bit (timed (job_at p.jobs id).ask) = ap (λ (x : Ask). bit (timed x)) (waits_ask (job_at p.jobs id) p.clock) in
    let n9 : p.setting.jobs + all_events jobs ≤ 9 * p.setting.jobs = nine jobs₀ p.setting jobs _ b.loaded good rest in
    let g : Grown k (bit (timed j.ask)) (record { events = p.events; next = p.next; ok = true }) a =
    timeout_grown k (record { events = p.events; next = p.next; ok = true }) id j j.ask.arrival one
    (omega (arith, asked, owed, n9, b.given, b.loaded)) (record { size = b.counted.size; count = b.counted.count }) in
    said_amid jobs₀ k h q a.ok Kinds.Arrived id 0
    (record {
      loaded = b.loaded;
      gpus = b.gpus;
      queue = length-set p.queue p.waiting id ∙ b.queue;
      good = good;
      rest = rest;
      counted = record { size = g.counted.size; count = g.counted.count };
      given = omega (arith, g.next, asked, owed, b.given);
      pends = pends_set p.events a.events p.jobs id j (omega (arith, b.good.size, small)) g.arrivals b.pends
          (omega (arith, g.arrivals id, none, waits_came (job_at p.jobs id) p.clock));
      inside = λ i n. omega (arith, b.inside i n, g.arrivals i);
    })

-- ---- a completion

pub completes_amid : (jobs₀ : List Job) (k : ℕ) (h : List Decision) (p : Plan) (id : ℕ) → Between jobs₀ k h p → (job_at p.jobs id).state ≡ Running →
    Amid jobs₀ k h (completes p id)
unfolding completes Life.ends
completes_amid jobs₀ k h p id b run =
    let j : Job = Life.ends (job_of p id) in
    let q : Plan = record {
      setting = p.setting;
      gpus = map (freed (plus_one id)) p.gpus;
      jobs = set p.jobs id j;
      queue = p.queue;
      waiting = p.waiting;
      events = p.events;
      next = p.next;
      clock = p.clock;
      totals = p.totals;
    } in
    let there : (job_at p.jobs id).state ≡ Pending → ⊥ = arrived_not (job_at p.jobs id).state (ap came run) in
    let small : id < 128 = in_table p.jobs id b.good.size there in
    let owed : all_events (set p.jobs id j) ≡ all_events p.jobs + 0 =
    owed_set p.jobs id 0 j (omega (arith, b.good.size, small)) (owed_ends (job_at p.jobs id) run ∙ omega arith) in
    let c : came (job_at p.jobs id).state ≡ 1 = ap came run in
    said_amid jobs₀ k h q true Kinds.Completed id (amount (job_of p id).ask)
    (record {
      loaded = b.loaded;
      gpus = length-map p.gpus (freed (plus_one id)) ∙ b.gpus;
      queue = b.queue;
      good = good_ends p.setting jobs₀ p.jobs h b.good id (bits_of p.clock) (amount (job_of p id).ask) small run;
      rest = rest_set p.setting.jobs id p.jobs j (rest_below p.setting.jobs id p.jobs b.rest there) b.rest;
      counted = record { size = b.counted.size; count = b.counted.count };
      given = omega (arith, owed, b.given);
      pends = pends_set p.events p.events p.jobs id j (omega (arith, b.good.size, small)) (λ i. omega arith) b.pends (omega (arith, b.pends id, c));
      inside = b.inside;
    })

-- ---- a timeout

pub fails_amid : (jobs₀ : List Job) (k : ℕ) (h : List Decision) (p : Plan) (id : ℕ) → Between jobs₀ k h p → (job_at p.jobs id).state ≡ Waiting →
    Amid jobs₀ k h (times_out p id)
unfolding times_out Life.fails
fails_amid jobs₀ k h p id b wait =
    let j : Job = Life.fails (job_of p id) p.clock in
    let jobs : List Job = set p.jobs id j in
    let left : List ℕ = still_waiting jobs p.queue p.waiting in
    let q : Plan = record {
      setting = p.setting;
      gpus = p.gpus;
      jobs = jobs;
      queue = pad 128 0 left;
      waiting = length left;
      events = p.events;
      next = p.next;
      clock = p.clock;
      totals = p.totals;
    } in
    let there : (job_at p.jobs id).state ≡ Pending → ⊥ = arrived_not (job_at p.jobs id).state (ap came wait) in
    let small : id < 128 = in_table p.jobs id b.good.size there in
    let owed : all_events jobs ≡ all_events p.jobs + 0 =
    owed_set p.jobs id 0 j (omega (arith, b.good.size, small)) (owed_fails (job_at p.jobs id) p.clock wait ∙ omega arith) in
    let c : came (job_at p.jobs id).state ≡ 1 = ap came wait in
    said_amid jobs₀ k h q (permitted j.waited) Kinds.Failed id 0
    (record {
      loaded = b.loaded;
      gpus = b.gpus;
      queue = pad_length 128 0 left (still_most jobs p.queue p.waiting b.queue);
      good = good_fails p.setting jobs₀ p.jobs h b.good id (bits_of p.clock) 0 p.clock small wait;
      rest = rest_set p.setting.jobs id p.jobs j (rest_below p.setting.jobs id p.jobs b.rest there) b.rest;
      counted = record { size = b.counted.size; count = b.counted.count };
      given = omega (arith, owed, b.given);
      pends = pends_set p.events p.events p.jobs id j (omega (arith, b.good.size, small)) (λ i. omega arith) b.pends (omega (arith, b.pends id, c));
      inside = b.inside;
    })
