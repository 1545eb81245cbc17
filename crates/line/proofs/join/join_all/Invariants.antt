-- What the loop of `join_all` keeps true.
use Rattle.std.proofs.Common.{◌≡◌, take}
use Rattle.line.specs.Line.{joined_all}
use Rattle.line.proofs.join.join_all.Given as goal

abbrev pub invariant-loop-v : goal.invariant-loop-v
invariant-loop-v l =
    (l.v-items ≡ take l.count l.fn.ids) × (l.after ≡ joined_all l.clock l.jobs l.by l.initial.after (take l.v-index l.v-items))
