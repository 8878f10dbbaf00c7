use Rattle.std.proofs.Common.{◌∙◌, [], subst, arith}
use Rattle.certificate.specs.Readers.{AreTaken}
use Rattle.certificate.proofs.LineFacts.{IsWholePart, line_goes_on, plain_so_far, whole_part}
use Rattle.certificate.proofs.lines.take_line.Goals as goal

pub loop-end-preserved : goal.loop-end-preserved
loop-end-preserved g c =
    let held = (g.F.Files.seen c.args.files.now).held in
    let part : IsWholePart c.loop-end.pieces c.take_part.new.pieces c.loop-end.line.items
    c.take_part.new.line.items =
    whole_part c.loop-end.pieces c.take_part.new.pieces c.loop-end.line.items
    c.take_part.new.line.items c.in_ok-end.field-0 c.in_default.not-Some
    c.in_ok-end.ensures in
    let more = c.in_ok-more.ensures in
    record {
      taken = line_goes_on held c.args.pieces.now c.loop-end.pieces c.take_part.new.pieces
          c.more.new.self c.loop-end.line.items c.take_part.new.line.items
          c.loop-end.invariant.taken part
          (subst (λ h. AreTaken h c.take_part.new.pieces c.more.new.self [])
          c.loop-end.invariant.held more.taken);
      plain = plain_so_far c.loop-end.pieces c.take_part.new.pieces c.loop-end.line.items
          c.take_part.new.line.items c.loop-end.invariant.plain part;
      few = part.few;
      bounded = λ within.
          let before = c.loop-end.invariant.bounded within in
          let shorter = before.shorter in
          let next = more.bounded in
          let less = next.shorter in
          record { within = next.within; shorter = omega (arith, shorter, less, part.size) };
      held = more.kept.held ∙ c.loop-end.invariant.held;
      stores = more.kept.store_faults ∙ c.loop-end.invariant.stores;
      faults = more.unfailed ∙ c.loop-end.invariant.faults;
    }
