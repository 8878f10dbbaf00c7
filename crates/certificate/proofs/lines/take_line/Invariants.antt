use Rattle.std.proofs.Common.{◌≡◌, ◌≤◌, ◌-◌, length}
use Rattle.certificate.specs.Limits.{most_line_bytes}
use Rattle.certificate.specs.Readers.{AreBounded, AreNoFeeds, AreTaken}
use Rattle.certificate.proofs.lines.take_line.Given as goal

abbrev pub invariant-loop-end : goal.invariant-loop-end
invariant-loop-end g l =
    let before = g.F.Files.seen l.fn.files in
    let now = g.F.Files.seen l.files in
    record {
      taken : AreTaken before.held l.fn.pieces l.pieces l.line.items;
      plain : AreNoFeeds l.line.items;
      few : length l.line.items ≤ most_line_bytes;
      bounded : l.fn.pieces.offset ≤ l.fn.pieces.size → AreBounded l.fn.pieces l.pieces;
      held : now.held ≡ before.held;
      stores : now.store_faults ≡ before.store_faults;
      faults : now.faults ≡ before.faults;
    }

abbrev pub decreases-loop-end : goal.decreases-loop-end
decreases-loop-end g l = l.pieces.size - l.pieces.offset
