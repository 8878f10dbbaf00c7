use Rattle.std.proofs.Common.{pos}
use Rattle.exact_sums.specs.Lists.{AreEach}
use Rattle.scaled_simplex.specs.BoardOf.{tableau_of}
use Rattle.scaled_simplex.specs.Fractions.{IsValueAt}
use Rattle.scaled_simplex.proofs.fractions.numerators_over.Given as goal

abbrev pub invariant-loop-column : goal.invariant-loop-column
invariant-loop-column l =
    AreEach (λ column numerator. IsValueAt l.program (tableau_of l.board) column numerator
    (pos l.denominator)) (pos 0) l.column l.numerators.items
