-- A pass over any queue: its victims and its placed jobs are apart, each job is changed as they say, and the decisions leave room for the starts.
use Rattle.std.specs.Prelude.{◌≡◌, List, [], ◌++◌, ◌+◌, ◌<◌, ◌≤◌, length, Float}
use Rattle.std.proofs.Math.Path.{refl, sym}
use Rattle.std.proofs.Common.{append-nil, arith}
use Rattle.std.proofs.Math.ListN.{length-replicate}
use Rattle.laws.specs.Lists.{All, Distinct}
use Rattle.model.specs.declared.gpu.Gpu.{Gpu}
use Rattle.model.specs.declared.job.Job.{Job}
use Rattle.model.specs.declared.setting.Setting.{Setting}
use Rattle.decision_log.specs.Log.{decisions}
use Rattle.apart.specs.LineLaws.{Sized, victims_of}
use Rattle.line.specs.declared.join.Line.{Line}
use Rattle.starts.specs.Begin.{no_placing}
use Rattle.pass.specs.Visit.{new_pass}
use Rattle.pass.specs.Walk.{sorted, walked}
use Rattle.apart.specs.Standing.{Standing, placed_of, all_below, few}
use Rattle.apart.specs.Keeps.{Kept, walk_keeps}
use Rattle.apart.specs.Changes.{Changes, changes_kept}
use Rattle.apart.specs.Told.{Told, told_kept}
use Rattle.apart.specs.KeptLaws.{Asks, walk_asks}
use Rattle.pass.specs.declared.visit.Pass.{Pass}

module _ (s : Setting) (clock : Float) (gpus : List Gpu) (jobs : List Job) (line : Line) (gpus-size : length gpus ≡ 128)
    (jobs-size : length jobs ≡ 128) (line-size : Sized line) (begins : line.evicted ≡ 0) where
  nobody : victims_of line ≡ []
  nobody = rw begins

  -- as it begins nobody is evicted and nobody is placed
  pub new_standing : Standing (new_pass gpus jobs line)
  unfolding new_pass
  new_standing =
      record {
        gpus = gpus-size;
        jobs = jobs-size;
        line = line-size;
        placed = length-replicate 128 no_placing;
        victims_wait = rw nobody tt;
        placed_are = tt;
        once = rw nobody tt;
        evicted = rw nobody (sym begins);
        count = refl;
      }

  -- the pass
  abbrev pub after : Pass
  after = walked s clock (new_pass gpus jobs line)

  -- what holds as the queue was sorted, and is kept, holds after
  pub pass_keeps : (P : Pass → Type 0) → Kept s clock P → P (sorted (new_pass gpus jobs line)) → P after
  pass_keeps P k h = (walk_keeps s clock P k (new_pass gpus jobs line) new_standing h).1

  pub pass_standing : Standing after
  pass_standing =
      (walk_keeps s clock (λ q. Unit {0}) (record { place = λ p id so l t h. tt; clear = λ p id vs so l may once h. tt }) (new_pass gpus jobs line) new_standing tt).0

  -- no job is evicted twice, placed twice, or both
  pub pass_apart : Distinct (victims_of after.line ++ placed_of after)
  pass_apart = pass_standing.once

  -- each has a number of the table
  pub pass_below : All (λ k. k < 128) (victims_of after.line ++ placed_of after)
  pass_below = all_below after pass_standing

  -- together they are at most 128
  pub pass_few : after.line.evicted + after.count ≤ 128
  pass_few = few after pass_standing

  -- none was lost: as many stand in the tables as were counted
  pub pass_none_lost : (length (victims_of after.line) ≡ after.line.evicted) × (length (placed_of after) ≡ after.count)
  pass_none_lost = (pass_standing.evicted, pass_standing.count)

  -- a victim ran and was evicted, a placed job waited and is placed, every other job is as it was
  pub pass_changes : Changes clock jobs after
  unfolding new_pass sorted
  pass_changes =
      pass_keeps (Changes clock jobs) (changes_kept s clock jobs) (record { evicted = rw nobody tt; placed = tt; others = λ k h g. refl })

  -- what the trace said of each job stays
  pub pass_asks : Asks jobs after
  unfolding new_pass
  pass_asks = walk_asks s clock (new_pass gpus jobs line)

  module _ (own : line.log.count ≤ 1) where
    -- the decisions are those before, at most the event's own, and one for each victim, in the order of eviction
    pub pass_told : Told clock (decisions line.log) line.log.count after
    unfolding new_pass sorted
    pass_told =
        pass_keeps
        (Told clock (decisions line.log) line.log.count)
        (told_kept s clock (decisions line.log) line.log.count own)
        (record { evictions = []; all = sym (append-nil (decisions line.log)); jobs = sym nobody; each = tt; count = omega (arith, begins) })

    -- as many as there were, and the victims
    pub pass_count : after.line.log.count ≡ line.log.count + after.line.evicted
    pass_count = pass_told.count

    -- the starts' decisions fit behind them
    pub pass_room : after.line.log.count + after.count ≤ 129
    pass_room = omega (arith, pass_count, pass_few)
