-- What is left to show of `is_earlier`.
use Rattle.std.proofs.Common.{◌≡◌, ℕ, true, false, ltb, ◌∙◌, arith}
use Rattle.std.proofs.lemmas.Bool.Decides.{nat_tests}
use Rattle.std.specs.Ordering.{partial_lt, partial_ordering_then, nat_cmp}
use Rattle.std.specs.Prelude.{Some}
use Rattle.laws.specs.Choice.{pick}
use Rattle.room.specs.Room.{earlier}
use Rattle.room.proofs.is_earlier.Goals as goal

pair_less : (x y n m : ℕ) → partial_lt {X = ℕ × ℕ} (λ p q. partial_ordering_then (Some (nat_cmp p.0 q.0)) (Some (nat_cmp p.1 q.1))) (x, n) (y, m)
    ≡ pick (ltb x y) true (pick (ltb y x) false (ltb n m))
pair_less x y n m = grind (arith, nat_tests)

pub returns : goal.returns
unfolding earlier
returns c = rw (← c.bits_of.ensures, ← c.bits_of-2.ensures) (c.lt.ensures ∙ pair_less c.bits_of.result c.bits_of-2.result c.args.a.number c.args.b.number)
