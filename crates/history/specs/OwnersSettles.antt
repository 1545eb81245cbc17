-- A pass and its starts together: what holds of owners between steps holds again.
use Rattle.std.specs.Prelude.{◌≡◌, List, take, Float}
use Rattle.laws.specs.Lists.{All}
use Rattle.model.specs.declared.gpu.Gpu.{Gpu}
use Rattle.model.specs.declared.job.Job.{Job}
use Rattle.model.specs.declared.job.JobState.TheVariants.{Placed}
use Rattle.model.specs.declared.setting.Options.{Options}
use Rattle.model.specs.declared.setting.Setting.{Setting}
use Rattle.apart.specs.LineLaws.{Sized}
use Rattle.line.specs.declared.join.Line.{Line}
use Rattle.starts.specs.Begin.{begun_all}
use Rattle.starts.specs.declared.begin.Begun.{Begun}
use Rattle.pass.specs.Visit.{new_pass}
use Rattle.pass.specs.Walk.{walked}
use Rattle.apart.specs.Standing.{Standing, InState, placed_of}
use Rattle.apart.specs.PassLaws.{pass_standing}
use Rattle.pass.specs.declared.visit.Pass.{Pass}
use Rattle.history.specs.Owners.{Owners, Cuts}
use Rattle.history.specs.OwnersPass.{owners_pass, owners_starts}
use Rattle.history.specs.NonePlaced.{OnlyPlaced, NonePlaced, only_pass, none_starts}

module _ (s : Setting) (clock : Float) (gpus : List Gpu) (jobs : List Job) (line : Line) (cuts : Cuts s) (sized : Sized line)
    (begins : line.evicted ≡ 0) (o : Owners s.gpus gpus jobs) (none : NonePlaced jobs) where
  abbrev pub pass : Pass
  pass = walked s clock (new_pass gpus jobs line)

  standing : Standing pass
  standing = pass_standing s clock gpus jobs line o.table o.size sized begins

  -- the starts begin with the jobs as the pass left them
  pub owners_settles : (options : Options) (b : Begun) → b.jobs ≡ pass.jobs →
      Owners s.gpus pass.gpus (begun_all options clock b (take pass.count pass.placed)).jobs × NonePlaced
      (begun_all options clock b (take pass.count pass.placed)).jobs
  owners_settles options b e =
      let are : All (InState Placed b.jobs) (placed_of pass) = rw e standing.placed_are in
      let only : OnlyPlaced (placed_of pass) b.jobs = rw e (only_pass s clock gpus jobs line o.table o.size sized begins none) in (
        owners_starts options clock s.gpus pass.gpus b (take pass.count pass.placed) are
            (rw e (owners_pass s clock cuts gpus jobs line sized begins o)),
        none_starts options clock b (take pass.count pass.placed) (rw e standing.jobs) are only,
      )
