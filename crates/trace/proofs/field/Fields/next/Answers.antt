-- What is left to show of `next`.
use Rattle.std.proofs.Common.{sym, ap, ◌∙◌, arith}
use Rattle.trace.specs.Number.{number}
use Rattle.trace.specs.FieldLaws.{used_inside}
use Rattle.trace.proofs.field.Fields.next.Goals as goal

pub overflow_add-self : goal.overflow_add-self
overflow_add-self c =
    let self = c.args.self.now in
    let e = sym (c.read_number.ensures ∙ ap number c.bytes_from.ensures) ∙ c.in-Ok.is in
    record { fits = omega (arith, used_inside self.bytes.now self.at c.in-Ok.value c.in-Ok.used e) }
