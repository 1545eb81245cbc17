-- What victims that join change of the line, and what they keep.
use Rattle.std.specs.Prelude.{◌≡◌, Bool, true, false, ℕ, ◌+◌, ◌<◌, ◌≤◌, length, get_or, take, Float}
use Rattle.std.proofs.Math.Path.{refl, sym, ap}
use Rattle.std.proofs.Common.{◌∙◌}
use mathlib.Core.List.{List, [], ◌∷◌, ◌++◌, map, append-nil, append_assoc}
use native.Mathlib.Omega.{arith}
use Rattle.std.proofs.Math.ListN.{length-set}
use Rattle.laws.specs.Tests.{and_both, fails, never_both}
use Rattle.laws.specs.Lists.{All, pad_length}
use Rattle.small.specs.Small.{onward_room, onward_take}
use Rattle.model.specs.Job.{no_job}
use Rattle.model.specs.Number.{permitted, bits_of}
use Rattle.model.specs.declared.job.Job.{Job}
use Rattle.model.specs.declared.totals.Totals.{Totals}
use Rattle.decision_log.specs.Log.{told, decisions, told_behind}
use Rattle.decision_log.specs.declared.Decision.{Decision}
use Rattle.decision_log.specs.declared.Kind.TheVariants.{Evicted}
use Rattle.decision_log.specs.declared.Log.{Log}
use Rattle.line.specs.Line.{new_line, joined, joined_all}
use Rattle.line.specs.declared.join.Line.{Line}

-- the tables have the length that the code gives them
pub record Sized (line : Line) : Type 0 where
  pub queue : length line.queue ≡ 128
  pub victims : length line.victims ≡ 128
  pub log : length line.log.table ≡ 129

-- who waits, in the order of the queue
abbrev pub queue_of : Line → List ℕ
queue_of line = take line.waiting line.queue

-- the victims so far, in the order of eviction
abbrev pub victims_of : Line → List ℕ
victims_of line = take line.evicted line.victims

-- the decision that tells an eviction: who leaves, and for whom
abbrev pub eviction_told : Float → ℕ → ℕ → Decision
eviction_told clock by v = record { time = bits_of clock; kind = Evicted; job = v; other = by }

-- ---- a line as a pass begins

module _ (queue : List ℕ) (waiting : ℕ) (totals : Totals) (log : Log) (ok : Bool) where
  -- nobody was evicted
  pub new_victims : victims_of (new_line queue waiting totals log ok) ≡ []
  unfolding new_line
  new_victims = refl

  pub new_sized : length queue ≡ 128 → length log.table ≡ 129 → Sized (new_line queue waiting totals log ok)
  unfolding new_line
  new_sized q t = record { queue = q; victims = pad_length 128 0 [] (omega arith); log = t }

-- ---- one victim

module _ (clock : Float) (by : ℕ) (line : Line) (v : ℕ) (remaining : Float) where
  -- no table changes its length
  pub joined_sized : Sized line → Sized (joined clock by line v remaining)
  unfolding joined told
  joined_sized s =
      record {
        queue = length-set line.queue line.waiting v ∙ s.queue;
        victims = length-set line.victims line.evicted v ∙ s.victims;
        log = length-set line.log.table line.log.count (eviction_told clock by v) ∙ s.log;
      }

  -- with room left it counts
  pub joined_evicted : line.evicted < 128 → (joined clock by line v remaining).evicted ≡ line.evicted + 1
  unfolding joined
  joined_evicted h = onward_room line.evicted 128 h

  pub joined_waiting : line.waiting < 128 → (joined clock by line v remaining).waiting ≡ line.waiting + 1
  unfolding joined
  joined_waiting h = onward_room line.waiting 128 h

  pub joined_count : line.log.count < 129 → (joined clock by line v remaining).log.count ≡ line.log.count + 1
  unfolding joined told
  joined_count h = onward_room line.log.count 129 h

  -- it stands behind the victims before it
  pub joined_victims : Sized line → line.evicted < 128 → victims_of (joined clock by line v remaining) ≡ victims_of line ++ (v ∷ [])
  unfolding joined
  joined_victims s h = onward_take line.victims line.evicted 128 v s.victims h

  -- at the queue's end
  pub joined_queue : Sized line → line.waiting < 128 → queue_of (joined clock by line v remaining) ≡ queue_of line ++ (v ∷ [])
  unfolding joined
  joined_queue s h = onward_take line.queue line.waiting 128 v s.queue h

  -- and the decision behind those before it
  pub joined_decisions : Sized line → line.log.count < 129 → decisions (joined clock by line v remaining).log ≡ decisions line.log ++ (eviction_told clock by v ∷ [])
  unfolding joined
  joined_decisions s h = told_behind line.log (bits_of clock) Evicted v by s.log h

  -- all is permitted after only if it was before and what remains of it is
  pub joined_ok : (joined clock by line v remaining).ok ≡ true → (line.ok ≡ true) × (permitted remaining ≡ true)
  unfolding joined
  joined_ok h = and_both line.ok (permitted remaining) h

-- ---- several victims

module _ (clock : Float) (jobs : List Job) (by : ℕ) where
  -- what each join keeps, all keep
  pub joins_keep : (P : Line → Type 0) → ((line : Line) (v : ℕ) (remaining : Float) → P line → P (joined clock by line v remaining)) →
      (line : Line) (vs : List ℕ) → P line → P (joined_all clock jobs by line vs)
  unfolding joined_all
  joins_keep P k line [] h = h
  joins_keep P k line (v ∷ vs) h = joins_keep P k (joined clock by line v (get_or jobs v no_job).remaining) vs (k line v (get_or jobs v no_job).remaining h)

  -- no table changes its length
  pub joins_sized : (line : Line) (vs : List ℕ) → Sized line → Sized (joined_all clock jobs by line vs)
  joins_sized = joins_keep Sized (λ line v remaining s. joined_sized clock by line v remaining s)

  -- with room left each counts
  pub joins_evicted : (line : Line) (vs : List ℕ) → line.evicted + length vs ≤ 128 → (joined_all clock jobs by line vs).evicted ≡ line.evicted + length vs
  unfolding joined_all
  joins_evicted line [] h = omega arith
  joins_evicted line (v ∷ vs) h =
      let next : Line = joined clock by line v (get_or jobs v no_job).remaining in
      let e : next.evicted ≡ line.evicted + 1 = joined_evicted clock by line v (get_or jobs v no_job).remaining (omega arith) in
      omega (arith, joins_evicted next vs (omega arith))

  pub joins_waiting : (line : Line) (vs : List ℕ) → line.waiting + length vs ≤ 128 → (joined_all clock jobs by line vs).waiting ≡ line.waiting + length vs
  unfolding joined_all
  joins_waiting line [] h = omega arith
  joins_waiting line (v ∷ vs) h =
      let next : Line = joined clock by line v (get_or jobs v no_job).remaining in
      let e : next.waiting ≡ line.waiting + 1 = joined_waiting clock by line v (get_or jobs v no_job).remaining (omega arith) in
      omega (arith, joins_waiting next vs (omega arith))

  pub joins_count : (line : Line) (vs : List ℕ) → line.log.count + length vs ≤ 129 → (joined_all clock jobs by line vs).log.count ≡ line.log.count + length vs
  unfolding joined_all
  joins_count line [] h = omega arith
  joins_count line (v ∷ vs) h =
      let next : Line = joined clock by line v (get_or jobs v no_job).remaining in
      let e : next.log.count ≡ line.log.count + 1 = joined_count clock by line v (get_or jobs v no_job).remaining (omega arith) in
      omega (arith, joins_count next vs (omega arith))

  -- they stand behind the victims before them
  pub joins_victims : (line : Line) (vs : List ℕ) → Sized line → line.evicted + length vs ≤ 128 → victims_of (joined_all clock jobs by line vs) ≡ victims_of line ++ vs
  unfolding joined_all
  joins_victims line [] s h = sym (append-nil (victims_of line))
  joins_victims line (v ∷ vs) s h =
      let next : Line = joined clock by line v (get_or jobs v no_job).remaining in
      let e : next.evicted ≡ line.evicted + 1 = joined_evicted clock by line v (get_or jobs v no_job).remaining (omega arith) in
      joins_victims next vs (joined_sized clock by line v (get_or jobs v no_job).remaining s) (omega arith)
      ∙ ap (λ (l : List ℕ). l ++ vs) (joined_victims clock by line v (get_or jobs v no_job).remaining s (omega arith)) ∙ append_assoc (victims_of line) (v ∷ []) vs

  -- at the queue's end, in their order
  pub joins_queue : (line : Line) (vs : List ℕ) → Sized line → line.waiting + length vs ≤ 128 → queue_of (joined_all clock jobs by line vs) ≡ queue_of line ++ vs
  unfolding joined_all
  joins_queue line [] s h = sym (append-nil (queue_of line))
  joins_queue line (v ∷ vs) s h =
      let next : Line = joined clock by line v (get_or jobs v no_job).remaining in
      let e : next.waiting ≡ line.waiting + 1 = joined_waiting clock by line v (get_or jobs v no_job).remaining (omega arith) in
      joins_queue next vs (joined_sized clock by line v (get_or jobs v no_job).remaining s) (omega arith)
      ∙ ap (λ (l : List ℕ). l ++ vs) (joined_queue clock by line v (get_or jobs v no_job).remaining s (omega arith)) ∙ append_assoc (queue_of line) (v ∷ []) vs

  -- and their decisions behind those before them
  pub joins_decisions : (line : Line) (vs : List ℕ) → Sized line → line.log.count + length vs ≤ 129 →
      decisions (joined_all clock jobs by line vs).log ≡ decisions line.log ++ map (eviction_told clock by) vs
  unfolding joined_all
  joins_decisions line [] s h = sym (append-nil (decisions line.log))
  joins_decisions line (v ∷ vs) s h =
      let next : Line = joined clock by line v (get_or jobs v no_job).remaining in
      let e : next.log.count ≡ line.log.count + 1 = joined_count clock by line v (get_or jobs v no_job).remaining (omega arith) in
      joins_decisions next vs (joined_sized clock by line v (get_or jobs v no_job).remaining s) (omega arith)
      ∙ ap (λ (l : List Decision). l ++ map (eviction_told clock by) vs)
      (joined_decisions clock by line v (get_or jobs v no_job).remaining s (omega arith))
      ∙ append_assoc (decisions line.log) (eviction_told clock by v ∷ []) (map (eviction_told clock by) vs)

  -- all is permitted after only if it was before and what remains of each is
  pub joins_ok : (line : Line) (vs : List ℕ) → (joined_all clock jobs by line vs).ok ≡ true →
      (line.ok ≡ true) × All (λ v. permitted (get_or jobs v no_job).remaining ≡ true) vs
  unfolding joined_all
  joins_ok line [] h = (h, tt)
  joins_ok line (v ∷ vs) h =
      let r = joins_ok (joined clock by line v (get_or jobs v no_job).remaining) vs h in
      let o = joined_ok clock by line v (get_or jobs v no_job).remaining r.0 in (o.0, (o.1, r.1))

  -- what was not permitted before is not after
  pub joins_not_ok : (line : Line) (vs : List ℕ) → line.ok ≡ false → (joined_all clock jobs by line vs).ok ≡ false
  joins_not_ok line vs e = fails (joined_all clock jobs by line vs).ok (λ t. never_both (joins_ok line vs t).0 e)
