use Rattle.std.proofs.Common.{◌∙◌, ap, sym, Err}
use Rattle.certificate.proofs.FieldFacts.{some_left}
use Rattle.certificate.proofs.fields.end_or_bad.Goals as goal

pub returns-in-Some : goal.returns-in-Some
returns-in-Some c =
    rw c.in-Some.is (some_left c.args.number c.in-Some.field-0.now
    ∙ ap (λ fault. Err fault) (sym c.bad.ensures))
