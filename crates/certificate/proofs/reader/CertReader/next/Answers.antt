use Rattle.std.proofs.Common.{subst, IfSome}
use Rattle.flow_types.specs.Scenario.{parts_of}
use Rattle.certificate.specs.Readers.{IsItemTaken, IsReading}
use Rattle.certificate.proofs.ReaderFacts.{as_none, if_none, reads_on}
use Rattle.certificate.proofs.reader.CertReader.next.Goals as goal

pub invariant_of-self-in-Ok-Some : goal.invariant_of-self-in-Ok-Some
invariant_of-self-in-Ok-Some g c =
    let reader = c.self.inside in
    let is : IsReading reader.pieces reader.next.stage reader.next.number =
    as_none reader.kept c.in_default.not-Some c.self.invariant in
    let item = subst (λ found. IfSome found (λ it. IsItemTaken (parts_of c.args.s.now)
    (g.F.Files.seen c.args.files.now).held reader.pieces c.next_item.new.pieces
    reader.next.stage it.0 it.1)) c.in-Ok-Some.field-0-is c.in-Ok-Some.ensures.item in
    if_none reader.kept (reads_on (parts_of c.args.s.now) (g.F.Files.seen c.args.files.now).held
    reader.pieces c.next_item.new.pieces reader.next.stage c.in-Ok-Some.stage c.in-Ok-Some.item
    reader.next.number c.args.s.now.valid.flights.few is
    item c.in-Ok-Some.ensures.bounded)
