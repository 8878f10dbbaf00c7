use Rattle.std.proofs.Common.{◌≡◌, ◌<◌, ◌-◌, ◌+◌, ◌∙◌, ap, subst, length, min, rules, arith}
use Rattle.std.specs.Prelude.{string_bytes}
use Rattle.flow_outside.specs.Held.{bytes_told}
use Rattle.certificate.specs.Readers.{IsPieceOf}
use Rattle.certificate.proofs.PieceFacts.{piece_read, range_front}
use Rattle.certificate.proofs.pieces.Pieces.more.Goals as goal

pub returns-clause-taken : goal.returns-clause-taken
returns-clause-taken g c =
    let held = (g.F.Files.seen c.args.files.now).held in
    let count = c.up_to-count.result in
    let view = c.self.view_is in
    let name_is : c.deref.result.now ≡ string_bytes c.self.inside.name = search rules in
    let room : 0 < c.args.self.now.size - c.args.self.now.offset =
    omega (arith, c.if-left-eq0.false, ap (λ p. p.size) view, ap (λ p. p.offset) view) in
    piece_read held c.args.self.now _ c.read_piece.new.piece.items
    (length c.self.inside.piece.items) c.in_ok-read.read count c.requires (ap (λ p. p.name) view)
    (ap (λ p. p.offset + count) view) (range_front c.read_piece.new.piece.items count)
    (omega (arith, c.in_ok-read.ensures.within, c.in_ok-read.ensures.size))
    (c.up_to-count.ensures ∙ ap (λ p. min c.in_ok-read.read (p.size - p.offset)) view)
    (omega (arith, c.self.invariant.room)) room
    (λ some. c.size_after-self-inside.ensures.some some ∙ ap (λ p. p.size) view)
    (λ bytes told. subst (λ n. IsPieceOf bytes n (length c.self.inside.piece.items)
    c.in_ok-read.read c.read_piece.new.piece.items) (ap (λ p. p.offset) view)
    (c.in_ok-read.ensures.part bytes
    (ap (bytes_told held) (name_is ∙ ap (λ p. p.name) view) ∙ told)))
