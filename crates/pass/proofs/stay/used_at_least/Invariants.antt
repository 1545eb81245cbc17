-- What the loop of `used_at_least` keeps true.
use Rattle.std.proofs.Common.{◌≡◌, ◌≤◌, ◌*◌, take}
use Rattle.laws.specs.Sums.{sum_over}
use Rattle.pass.specs.Stay.{kept_charge}
use Rattle.pass.proofs.stay.used_at_least.Given as goal

abbrev pub invariant-loop-j : goal.invariant-loop-j
invariant-loop-j l =
    (l.j-items ≡ take l.n l.fn.jobs) × (l.sum ≤ 4294967296 * l.j-index) × (l.sum ≡ sum_over (kept_charge l.aware l.ask) (take l.j-index l.j-items))
