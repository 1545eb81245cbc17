-- What the loops of `gang_choice` keep true.
use mathlib.Core.Path.{◌≡◌}
use lib.ListN.{take}
use Rattle.eligible.specs.Chosen.{chosen, list_of}
use Rattle.choice.specs.Gang.{shares, any_parted}
use Rattle.choice.proofs.gang.gang_choice.Given as goal

abbrev pub invariant-loop-k : goal.invariant-loop-k
invariant-loop-k l =
    (l.all ≡ chosen (take 128 (shares l.nodes l.groups (list_of l.e) l.per (take l.k-index l.k-items)))) ×
    (l.penalised ≡ any_parted l.nodes l.groups (list_of l.e) l.per (take l.k-index l.k-items))
