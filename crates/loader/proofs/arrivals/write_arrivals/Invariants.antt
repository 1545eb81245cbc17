-- What the loop of `write_arrivals` keeps true.
use Rattle.std.proofs.Common.{◌≡◌}
use Rattle.loader.specs.Arrivals.{arrivals_over}
use Rattle.loader.proofs.arrivals.write_arrivals.Given as goal

abbrev pub invariant-loop-i : goal.invariant-loop-i
invariant-loop-i l = l.room ≡ arrivals_over l.initial.room l.jobs l.i
