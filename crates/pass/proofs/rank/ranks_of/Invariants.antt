-- What the loop of `ranks_of` keeps true.
use Rattle.std.proofs.Common.{◌≡◌, map, min, take}
use Rattle.laws.specs.Lists.{pad}
use Rattle.pass.specs.Rank.{gpu_rank}
use Rattle.pass.proofs.rank.ranks_of.Given as goal

abbrev pub invariant-loop-i : goal.invariant-loop-i
invariant-loop-i l =
    (l.g-items ≡ take (min l.n 128) l.fn.gpus) × (l.ranks ≡ pad 128 0 (map (gpu_rank l.jobs) (take l.i l.g-items)))
