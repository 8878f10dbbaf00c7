use Rattle.std.proofs.Common.{◌+◌, ◌≤◌, ◌∙◌, ap, length, drop, arith}
use Rattle.certificate.proofs.PieceFacts.{range_drop, range_length}
use Rattle.certificate.proofs.pieces.Pieces.take.Goals as goal

pub returns-clause-ahead : goal.returns-clause-ahead
returns-clause-ahead c =
    let pieces = c.self.inside in
    let few : pieces.start + c.args.count ≤ pieces.end =
    omega (
      arith,
      range_length pieces.piece.items pieces.start pieces.end c.self.invariant.to,
      ap (λ seen. length seen.ahead) c.self.view_is,
      c.requires,
      c.self.invariant.from,
    ) in
    range_drop pieces.piece.items pieces.start pieces.end c.args.count few
    ∙ ap (λ seen. drop c.args.count seen.ahead) c.self.view_is
