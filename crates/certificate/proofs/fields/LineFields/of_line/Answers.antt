use Rattle.std.proofs.Common.{arith}
use Rattle.certificate.proofs.FieldFacts.{few_fields}
use Rattle.certificate.proofs.fields.LineFields.of_line.Goals as goal

pub invariant_of-result : goal.invariant_of-result
invariant_of-result c = omega (arith, few_fields c.args.line.now, c.requires)
