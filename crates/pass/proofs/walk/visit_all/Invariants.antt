-- What the loop of `visit_all` keeps true.
use Rattle.std.proofs.Common.{◌≡◌, ◌-◌, min}
use Rattle.laws.specs.Loop.{through}
use Rattle.pass.specs.Rank.{ranks_of}
use Rattle.pass.specs.Visit.{whole_pass}
use Rattle.pass.specs.Walk.{visit_at}
use Rattle.pass.proofs.walk.visit_all.Given as goal

abbrev pub invariant-loop-id : goal.invariant-loop-id
invariant-loop-id l = record {
  ranked : l.ranks ≡ ranks_of l.gpus l.jobs l.setting.gpus;
  walked : through (visit_at l.setting l.clock l.fn.turn.line.queue) (whole_pass l.work l.gpus l.jobs) (min l.fn.turn.line.waiting 128 - l.id-index) l.id-index
      ≡ through (visit_at l.setting l.clock l.fn.turn.line.queue) (whole_pass l.initial.work l.initial.gpus l.initial.jobs) (min l.fn.turn.line.waiting 128) 0;
}
