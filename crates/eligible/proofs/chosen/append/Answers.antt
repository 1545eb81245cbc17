-- What is left to show of `append`.
use Rattle.std.proofs.Common.{◌≡◌, length, take, rules, ◌∙◌, take_all}
use Rattle.eligible.specs.Chosen.{list_of}
use Rattle.eligible.specs.Turns.{held_length}
use Rattle.eligible.proofs.chosen.append.Goals as goal

pub returns : goal.returns
returns c =
    let z : length c.args.a.ids ≡ 128 = search rules in
    let t : take 128 (list_of c.args.a) ≡ list_of c.args.a = take_all 128 (list_of c.args.a) (held_length c.args.a z) in
    c.extend.ensures (take 128 (list_of c.args.a)) c.first_of-both.ensures ∙ rw (t, c.numbers.ensures)
