-- What is left to show of `first_of`.
use Rattle.std.proofs.Common.{◌≡◌, length, rules, ◌∙◌, []}
use Rattle.eligible.specs.Chosen.{list_of}
use Rattle.eligible.specs.Turns.{front_is, held_length}
use Rattle.eligible.proofs.chosen.first_of.Goals as goal

pub returns : goal.returns
returns c =
    let z : length c.args.e.ids ≡ 128 = search rules in
    let m = c.min.ensures in
    let n = c.numbers-numbers.ensures in
    let m = rw n at m in
    let f = c.extend.ensures [] c.new-front.ensures in
    let f = rw n at f in
    f ∙ rw (front_is c.args.count c.min.result (list_of c.args.e) (held_length c.args.e z) m)
