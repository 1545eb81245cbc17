-- What is left to show of `settle`.
use Rattle.std.proofs.Common.{ap, ◌∙◌}
use Rattle.happen.specs.Happen.{whole_moment}
use Rattle.pass.specs.Visit.{new_pass, new_turn}
use Rattle.pass.specs.declared.visit.Pass.{Pass}
use Rattle.engine.specs.Settle.{after_pass, settled, settled_idle, pass_of, starts_of, with_pass}
use Rattle.engine.proofs.settle.settle.Goals as goal

pub returns-then-plan-eq0 : goal.returns-then-plan-eq0
returns-then-plan-eq0 c = settled_idle (whole_moment c.args.m c.args.plan.now) c.if-plan-eq0.true

pub returns : goal.returns
unfolding settled pass_of starts_of with_pass new_pass new_turn
returns c =
    c.start_placed.ensures
    ∙ ap (λ (q : Pass). after_pass c.args.plan.now q) (c.walk-pass.ensures ∙ rw (c.new_turn.ensures, c.new_line-line.ensures))
