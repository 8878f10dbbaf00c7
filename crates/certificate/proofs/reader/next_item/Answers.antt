use Rattle.std.proofs.Common.{subst}
use Rattle.flow_types.specs.Scenario.{parts_of}
use Rattle.certificate.specs.Readers.{Tells, told_by}
use Rattle.certificate.proofs.RefuseFacts.{are_refused}
use Rattle.certificate.proofs.reader.next_item.Goals as goal

pub returns-clause-refused : goal.returns-clause-refused
returns-clause-refused g c =
    are_refused (parts_of c.args.day.s.now) (g.F.Files.seen c.args.files.now).held c.args.pieces.now
    c.take_line.new.pieces c.args.next.now.stage c.take_line.new.line.items c.in_ok-end.end
    c.args.next.now.number c.item_of_line.result c.in_ok-end.ensures.taken
    (c.in_ok-end.ensures.bounded c.requires.reading.within)
    (subst (λ bytes. Tells c.args.next.now.number c.item_of_line.result
    (told_by (parts_of c.args.day.s.now) c.args.next.now.stage bytes c.in_ok-end.end))
    c.deref.ensures.value
    c.item_of_line.ensures)
