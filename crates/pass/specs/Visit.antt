-- A job is looked at: placed if it can be; a whole-GPU job that can't may preempt.
use Rattle.std.specs.Prelude.{◌≡◌, List, ℕ, eqb, get_or, take, set, replicate, Float}
use Rattle.std.proofs.Common.{sym, ◌∙◌}
use Rattle.std.proofs.Math.Bool.{true, false}
use borrow.Author.Tests.{eq-eqb, ne_eqb}
use Rattle.laws.specs.Choice.{pick, pick_cases}
use Rattle.laws.specs.Tests.{never_both}
use Rattle.laws.specs.Search.{has}
use Rattle.small.specs.Small.{plus_one, onward}
use Rattle.model.specs.Sizes as Sizes
use Rattle.model.specs.Job.{no_job}
use Rattle.model.specs.declared.gpu.Gpu.{Gpu}
use Rattle.model.specs.declared.job.Job.{Job}
use Rattle.model.specs.declared.setting.Setting.{Setting}
use Rattle.life.specs.Life as Life
use Rattle.resource.specs.Allocate.{allocated}
use Rattle.resource.specs.AllocateLaws.{placed_placeable, unplaced_same}
use Rattle.resource.specs.declared.allocate.Allocation.{Allocation}
use Rattle.preemptive.specs.Prefix.{freed_all, evicted_all, made, preempted}
use Rattle.preemptive.specs.declared.prefix.Preempted.{Preempted}
use Rattle.starts.specs.Begin.{no_placing}
use Rattle.line.specs.Line.{joined_all}
use Rattle.line.specs.Keep.{waits}
use Rattle.line.specs.declared.join.Line.{Line}
use Rattle.pass.specs.declared.visit.Pass.{Pass}
use Rattle.pass.specs.declared.visit.Turn.{Turn}

-- a pass that has placed nobody yet
unfoldable pub new_pass : List Gpu → List Job → Line → Pass
new_pass gpus jobs line = record { gpus = gpus; jobs = jobs; line = line; placed = replicate Sizes.jobs no_placing; count = 0 }

-- the same beside the tables
unfoldable pub new_turn : Line → Turn
new_turn line = record { line = line; placed = replicate Sizes.jobs no_placing; count = 0 }

-- the pass, with the tables of GPUs and jobs that were lent
abbrev pub whole_pass : Turn → List Gpu → List Job → Pass
whole_pass t gpus jobs = record { gpus = gpus; jobs = jobs; line = t.line; placed = t.placed; count = t.count }

-- the pass with other tables
abbrev pub with_tables : Pass → List Gpu → List Job → Pass
with_tables p gpus jobs = record { gpus = gpus; jobs = jobs; line = p.line; placed = p.placed; count = p.count }

-- What the job gets as things stand.
abbrev pub allocation : Setting → Pass → ℕ → Job → Allocation
allocation s p id j = allocated s p.gpus p.jobs j (plus_one id)

-- The job has what it got, and starts when the pass is over.
unfoldable pub placed_as : Pass → ℕ → Job → Allocation → Pass
placed_as p id j got =
    record {
      gpus = got.gpus;
      jobs = set p.jobs id (Life.placed j);
      line = p.line;
      placed = set p.placed p.count (record { job = id; cut = got.cut; penalised = got.penalised });
      count = onward p.count Sizes.jobs;
    }

-- it is placed if it can be
unfoldable pub settled : Setting → Pass → ℕ → Job → Pass
settled s p id j = let got = allocation s p id j in pick got.placed (placed_as p id j got) p

-- the victims have left, and joined the queue's end
unfoldable pub made_way : Float → Pass → ℕ → Preempted → Pass
made_way clock p id got =
    record {
      gpus = got.gpus;
      jobs = got.jobs;
      line = joined_all clock got.jobs id p.line (take got.count got.victims);
      placed = p.placed;
      count = p.count;
    }

-- The job preempts; where no prefix of the candidates helps all stands as before.
unfoldable pub preempting : Setting → Float → Pass → ℕ → Job → Pass
preempting s clock p id j =
    let got = preempted s clock p.gpus p.jobs j in
    pick (eqb got.count 0) p (settled s (made_way clock p id got) id j)

-- It is placed if it can be; a whole-GPU job that can't may preempt.
unfoldable pub considered : Setting → Float → Pass → ℕ → Job → Pass
considered s clock p id j =
    let got = allocation s p id j in
    pick got.placed (placed_as p id j got)
    (pick (eqb j.ask.profile 0) (preempting s clock p id j) p)

-- Each job that waits is looked at, victims of this pass excepted.
unfoldable pub visited : Setting → Float → Pass → ℕ → Pass
visited s clock p id =
    let j = get_or p.jobs id no_job in
    pick (waits j) (pick (has id (take p.line.evicted p.line.victims)) p (considered s clock p id j)) p

-- ---- one case for each return of the code

module _ (s : Setting) (p : Pass) (id : ℕ) (j : Job) (got : Allocation) (is : got ≡ allocation s p id j) where
  pub settled_placed : (r : Pass) → got.placed ≡ true → r ≡ placed_as p id j got → r ≡ settled s p id j
  unfolding settled
  settled_placed r t e =
      pick_cases (λ q. r ≡ q) (allocation s p id j).placed (placed_as p id j (allocation s p id j)) p (λ h. e ∙ rw is) (λ h. absurd (never_both t (rw is h)))

  pub settled_not : got.placed ≡ false → p ≡ settled s p id j
  unfolding settled
  settled_not f = let u : (allocation s p id j).placed ≡ false = rw (← is) f in rw u

  pub considered_placed : (clock : Float) (r : Pass) → got.placed ≡ true → r ≡ placed_as p id j got → r ≡ considered s clock p id j
  unfolding considered
  considered_placed clock r t e =
      pick_cases (λ q. r ≡ q) (allocation s p id j).placed (placed_as p id j (allocation s p id j))
      (pick (eqb j.ask.profile 0) (preempting s clock p id j) p) (λ h. e ∙ rw is) (λ h. absurd (never_both t (rw is h)))

  pub considered_whole : (clock : Float) (r : Pass) → got.placed ≡ false → j.ask.profile ≡ 0 → r ≡ preempting s clock p id j → r ≡ considered s clock p id j
  unfolding considered
  considered_whole clock r f z e = let u : (allocation s p id j).placed ≡ false = rw (← is) f in e ∙ rw (u, eq-eqb j.ask.profile 0 z)

  pub considered_mig : (clock : Float) → got.placed ≡ false → (j.ask.profile ≡ 0 → ⊥) → p ≡ considered s clock p id j
  unfolding considered
  considered_mig clock f z = let u : (allocation s p id j).placed ≡ false = rw (← is) f in rw (u, ne_eqb j.ask.profile 0 z)

module _ (s : Setting) (p : Pass) (id : ℕ) (j : Job) (got : Allocation) (is : got ≡ allocation s p id j) where
  -- where it is not placed the GPUs stay as they are
  not_given : got.placed ≡ false → got.gpus ≡ p.gpus
  not_given f =
      rw is (unplaced_same s p.gpus p.jobs j (plus_one id) (sym (placed_placeable s p.gpus p.jobs j (plus_one id)) ∙ rw (← is) f))

  -- the table of GPUs is the one that allocation gave back, whatever it was
  pub settled_given : (r : Pass) (gpus : List Gpu) → got.placed ≡ true → r ≡ placed_as (with_tables p gpus p.jobs) id j got → r ≡ settled s p id j
  unfolding placed_as
  settled_given r gpus t e = settled_placed s p id j got is r t e

  pub settled_none : got.placed ≡ false → with_tables p got.gpus p.jobs ≡ settled s p id j
  settled_none f = rw (not_given f) (settled_not s p id j got is f)

  pub considered_given : (clock : Float) (r : Pass) (gpus : List Gpu) → got.placed ≡ true → r ≡ placed_as (with_tables p gpus p.jobs) id j got →
      r ≡ considered s clock p id j
  unfolding placed_as
  considered_given clock r gpus t e = considered_placed s p id j got is clock r t e

  pub considered_then : (clock : Float) (r : Pass) → got.placed ≡ false → j.ask.profile ≡ 0 →
      r ≡ preempting s clock (with_tables p got.gpus p.jobs) id j → r ≡ considered s clock p id j
  considered_then clock r f z e = considered_whole s p id j got is clock r f z (e ∙ rw (not_given f))

  pub considered_none : (clock : Float) → got.placed ≡ false → (j.ask.profile ≡ 0 → ⊥) → with_tables p got.gpus p.jobs ≡ considered s clock p id j
  considered_none clock f z = rw (not_given f) (considered_mig s p id j got is clock f z)

-- where nobody leaves the tables stay as they are
nobody_left : (s : Setting) (clock : Float) (gpus : List Gpu) (jobs : List Job) (j : Job) → (preempted s clock gpus jobs j).count ≡ 0 →
    ((preempted s clock gpus jobs j).gpus ≡ gpus) × ((preempted s clock gpus jobs j).jobs ≡ jobs)
unfolding preempted made freed_all evicted_all
nobody_left s clock gpus jobs j z = (rw z, rw z)

module _ (s : Setting) (clock : Float) (p : Pass) (id : ℕ) (j : Job) (got : Preempted) (is : got ≡ preempted s clock p.gpus p.jobs j) where
  pub preempting_none : got.count ≡ 0 → p ≡ preempting s clock p id j
  unfolding preempting
  preempting_none z = let u : (preempted s clock p.gpus p.jobs j).count ≡ 0 = rw (← is) z in rw (eq-eqb (preempted s clock p.gpus p.jobs j).count 0 u)

  -- the tables are those that preemption gave back
  pub preempting_nobody : (r : Pass) → got.count ≡ 0 → r ≡ with_tables p got.gpus got.jobs → r ≡ preempting s clock p id j
  preempting_nobody r z e =
      let u : (preempted s clock p.gpus p.jobs j).count ≡ 0 = rw (← is) z in
      let g : got.gpus ≡ p.gpus = rw is (nobody_left s clock p.gpus p.jobs j u).0 in
      let k : got.jobs ≡ p.jobs = rw is (nobody_left s clock p.gpus p.jobs j u).1 in
      e ∙ rw (g, k) (preempting_none z)

  pub preempting_some : (r way : Pass) → (got.count ≡ 0 → ⊥) → way ≡ made_way clock p id got → r ≡ settled s way id j → r ≡ preempting s clock p id j
  unfolding preempting
  preempting_some r way z w e =
      let u : (preempted s clock p.gpus p.jobs j).count ≡ 0 → ⊥ = rw (← is) z in
      e ∙ rw (ne_eqb (preempted s clock p.gpus p.jobs j).count 0 u, w, is)

  -- the tables are those that preemption gave back, whatever they were
  pub preempting_way : (r way : Pass) (gpus : List Gpu) (jobs : List Job) → (got.count ≡ 0 → ⊥) →
      way ≡ made_way clock (with_tables p gpus jobs) id got → r ≡ settled s way id j → r ≡ preempting s clock p id j
  unfolding made_way
  preempting_way r way gpus jobs z w e = preempting_some r way z w e

module _ (s : Setting) (clock : Float) (p : Pass) (id : ℕ) (j : Job) (is : j ≡ get_or p.jobs id no_job) where
  pub visited_other : waits j ≡ false → p ≡ visited s clock p id
  unfolding visited
  visited_other f = let u : waits (get_or p.jobs id no_job) ≡ false = rw (← is) f in rw u

  pub visited_victim : waits j ≡ true → has id (take p.line.evicted p.line.victims) ≡ true → p ≡ visited s clock p id
  unfolding visited
  visited_victim t v = let u : waits (get_or p.jobs id no_job) ≡ true = rw (← is) t in rw (u, v)

  pub visited_waiting : (r : Pass) → waits j ≡ true → has id (take p.line.evicted p.line.victims) ≡ false → r ≡ considered s clock p id j →
      r ≡ visited s clock p id
  unfolding visited
  visited_waiting r t v e = let u : waits (get_or p.jobs id no_job) ≡ true = rw (← is) t in e ∙ rw (u, v, is)
