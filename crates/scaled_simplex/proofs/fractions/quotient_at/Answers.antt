use Rattle.std.proofs.Common.{◌∙◌, sym}
use Rattle.scaled_simplex.specs.BoardOf.{tableau_of}
use Rattle.scaled_simplex.proofs.QuotientFacts.{row_above}
use Rattle.scaled_simplex.proofs.fractions.quotient_at.Goals as goal

pub quotient_in-requires-clause-row : goal.quotient_in-requires-clause-row
quotient_in-requires-clause-row c =
    (row_above c.args.program.now (tableau_of c.args.board.now) c.in-Some.row c.args.column
    c.requires.last.basic (sym c.in-Some.is ∙ c.row_for.ensures)).0

pub quotient_in-requires-clause-above : goal.quotient_in-requires-clause-above
quotient_in-requires-clause-above c =
    (row_above c.args.program.now (tableau_of c.args.board.now) c.in-Some.row c.args.column
    c.requires.last.basic (sym c.in-Some.is ∙ c.row_for.ensures)).1
