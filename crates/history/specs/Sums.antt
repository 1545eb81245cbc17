-- The running totals stay small: each counts no more than the decisions that were told, and the longest queue is at most the table.
use Rattle.std.specs.Prelude.{◌≡◌, Bool, true, false, List, [], ◌∷◌, ℕ, suc, ◌+◌, ◌≤◌, ltb, Float}
use Rattle.std.proofs.Common.{arith}
use Rattle.std.proofs.Math.ListN.{length}
use Rattle.laws.specs.Tests.{split}
use Rattle.laws.specs.Lists.{All, Distinct}
use Rattle.small.specs.Small.{onward, onward_fits}
use Rattle.model.specs.declared.job.Job.{Job}
use Rattle.model.specs.declared.setting.Options.{Options}
use Rattle.model.specs.declared.setting.Setting.{Setting}
use Rattle.model.specs.declared.totals.Totals.{Totals}
use Rattle.noted.specs.Noted as Noted
use Rattle.line.specs.Line.{joined, joined_all}
use Rattle.line.specs.declared.join.Line.{Line}
use Rattle.starts.specs.Begin as Begin
use Rattle.starts.specs.Begin.{begun_all}
use Rattle.starts.specs.declared.begin.Placing.{Placing}
use Rattle.starts.specs.declared.begin.Begun.{Begun}
use Rattle.apart.specs.Standing.{Standing, cleared, clear_room}
use Rattle.apart.specs.Leaving.{MayLeave, may_run}
use Rattle.apart.specs.LineLaws.{joins_evicted}
use Rattle.apart.specs.Keeps.{Kept, placing}
use Rattle.preemptive.specs.Prefix.{evicted_all}
use Rattle.pass.specs.Visit.{placed_as}
use Rattle.pass.specs.declared.visit.Pass.{Pass}

-- no total counts more than n
pub record Small (n : ℕ) (t : Totals) : Type 0 where
  pub evictions : t.evictions ≤ n
  pub cuts : t.cuts ≤ n
  pub penalised : t.penalised ≤ n
  pub longest : t.longest ≤ 128

larger_fits : (a b m : ℕ) → a ≤ m → b ≤ m → Noted.larger a b ≤ m
larger_fits a b m h k = split (ltb a b) (λ e. rw e k) (λ e. rw e h)

more_fits : (n m : ℕ) (b : Bool) → n ≤ m → Noted.more n b ≤ m + 1
more_fits n m true h = omega (arith, h)
more_fits n m false h = omega (arith, h)

-- a join
pub joined_small : (n queue : ℕ) (t : Totals) → queue ≤ 128 → Small n t → Small n (Noted.joined t queue)
unfolding Noted.joined
joined_small n queue t q s =
    record { evictions = s.evictions; cuts = s.cuts; penalised = s.penalised; longest = larger_fits t.longest queue 128 s.longest q }

-- an eviction
evicted_small : (n queue : ℕ) (t : Totals) → queue ≤ 128 → Small n t → Small (n + 1) (Noted.evicted t queue)
unfolding Noted.evicted
evicted_small n queue t q s =
    record {
      evictions = more_fits t.evictions n true s.evictions;
      cuts = omega (arith, s.cuts);
      penalised = omega (arith, s.penalised);
      longest = larger_fits t.longest queue 128 s.longest q;
    }

-- a start
started_small : (n : ℕ) (t : Totals) (cut penalised : Bool) (remaining multiplier : Float) → Small n t →
    Small (n + 1) (Noted.started t cut penalised remaining multiplier)
unfolding Noted.started
started_small n t cut penalised remaining multiplier s =
    record {
      evictions = omega (arith, s.evictions);
      cuts = more_fits t.cuts n cut s.cuts;
      penalised = more_fits t.penalised n penalised s.penalised;
      longest = s.longest;
    }

-- the victims join, and the queue fits its table
pub record Fits (n : ℕ) (line : Line) : Type 0 where
  pub small : Small n line.totals
  pub waiting : line.waiting ≤ 128

join_fits : (n : ℕ) (clock : Float) (by : ℕ) (line : Line) (v : ℕ) (remaining : Float) → Fits n line → Fits (n + 1) (joined clock by line v remaining)
unfolding joined
join_fits n clock by line v remaining f =
    let w : onward line.waiting 128 ≤ 128 = onward_fits line.waiting 128 f.waiting in
    record { small = evicted_small n (onward line.waiting 128) line.totals w f.small; waiting = w }

joins_fit : (n : ℕ) (clock : Float) (jobs : List Job) (by : ℕ) (line : Line) (vs : List ℕ) → Fits n line → Fits (n + length vs) (joined_all clock jobs by line vs)
unfolding joined_all
joins_fit n clock jobs by line [] f = let e : n + 0 ≡ n = omega arith in rw e f
joins_fit n clock jobs by line (v ∷ vs) f =
    let e : n + suc (length vs) ≡ n + 1 + length vs = omega arith in
    rw e (joins_fit (n + 1) clock jobs by _ vs (join_fits n clock by line v _ f))

-- ---- a pass and its starts

-- n were told before the pass
abbrev pub PassFits : ℕ → Pass → Type 0
PassFits n p = Fits (n + p.line.evicted) p.line

module _ (s : Setting) (clock : Float) (n : ℕ) where
  place_fits : (p : Pass) (id : ℕ) → PassFits n p → PassFits n (placing s p id)
  unfolding placed_as
  place_fits p id f = record { small = f.small; waiting = f.waiting }

  clear_fits : (p : Pass) (id : ℕ) (vs : List ℕ) → Standing p → All (MayLeave s clock p id) vs → Distinct vs → PassFits n p → PassFits n (cleared clock p id vs)
  unfolding cleared
  clear_fits p id vs so m d f =
      let room : p.line.evicted + length vs + p.count ≤ 128 = clear_room clock p so id vs (may_run s clock p id vs m) d in
      let x : (joined_all clock (evicted_all clock p.jobs vs) id p.line vs).evicted ≡ p.line.evicted + length vs =
      joins_evicted clock (evicted_all clock p.jobs vs) id p.line vs (omega (arith, room)) in
      let e : n + (joined_all clock (evicted_all clock p.jobs vs) id p.line vs).evicted ≡ n + p.line.evicted + length vs = omega (arith, x) in
      rw e (joins_fit (n + p.line.evicted) clock (evicted_all clock p.jobs vs) id p.line vs f)

  pub pass_fits : Kept s clock (PassFits n)
  pass_fits = record { place = λ p id so l t f. place_fits p id f; clear = λ p id vs so l m d f. clear_fits p id vs so m d f }

begun_small : (options : Options) (clock : Float) (n : ℕ) (b : Begun) (p : Placing) → Small n b.totals → Small (n + 1) (Begin.begun options clock b p).totals
unfolding Begin.begun
begun_small options clock n b p f = started_small n b.totals p.cut p.penalised _ _ f

pub starts_small : (options : Options) (clock : Float) (n : ℕ) (b : Begun) (ps : List Placing) → Small n b.totals →
    Small (n + length ps) (begun_all options clock b ps).totals
unfolding begun_all
starts_small options clock n b [] f = let e : n + 0 ≡ n = omega arith in rw e f
starts_small options clock n b (p ∷ ps) f =
    let e : n + suc (length ps) ≡ n + 1 + length ps = omega arith in
    rw e (starts_small options clock (n + 1) (Begin.begun options clock b p) ps (begun_small options clock n b p f))
