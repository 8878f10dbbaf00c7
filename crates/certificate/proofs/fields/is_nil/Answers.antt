use Rattle.std.proofs.Common.{sym}
use Rattle.certificate.proofs.FieldFacts.{some_field}
use Rattle.certificate.proofs.fields.is_nil.Goals as goal

pub returns-in-Some : goal.returns-in-Some
returns-in-Some c = rw c.in-Some.is (sym (some_field c.in-Some.field-0.now))
