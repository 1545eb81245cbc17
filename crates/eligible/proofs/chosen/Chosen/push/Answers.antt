-- What is left to show of `push`.
use Rattle.std.proofs.Common.{rules}
use Rattle.eligible.specs.Turns.{push_room, push_full}
use Rattle.eligible.proofs.chosen.Chosen.push.Goals as goal

pub returns-then-self-lt-GPUS : goal.returns-then-self-lt-GPUS
returns-then-self-lt-GPUS c = λ l e. push_room _ _ _ l e c.if-self-lt-GPUS.true

pub returns-else-self-lt-GPUS : goal.returns-else-self-lt-GPUS
returns-else-self-lt-GPUS c = λ l e. push_full _ _ l e (search rules) c.if-self-lt-GPUS.false
