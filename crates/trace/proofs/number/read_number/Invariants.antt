-- What the loop of `read_number` keeps true.
use Rattle.std.proofs.Common.{◌≡◌, ◌-◌, ◌^◌, ◌<◌, drop}
use Rattle.trace.specs.Number.{number, groups, carried}
use Rattle.trace.proofs.number.read_number.Given as goal

abbrev pub invariant-loop-i : goal.invariant-loop-i
invariant-loop-i l = (l.unit ≡ 128 ^ l.i) × (l.sum < l.unit) × (carried l.sum l.unit l.i (groups (9 - l.i) l.least (drop l.i l.s)) ≡ number l.s)
