-- What is left to show of `allocate_whole`.
use mathlib.Core.Path.{sym, ◌∙◌}
use Rattle.resource.specs.AllocateCases.{chosen_given}
use Rattle.resource.proofs.allocate.allocate_whole.Goals as goal

pub returns : goal.returns
returns c =
    let start = c.args in
    chosen_given start.setting start.gpus.now start.j start.owner c.in_ok-choice.choice c.give_gpus.new.gpus
    (sym c.in_ok-choice.was ∙ rw c.from.ensures at c.choose_gpus.ensures) c.give_gpus.ensures
