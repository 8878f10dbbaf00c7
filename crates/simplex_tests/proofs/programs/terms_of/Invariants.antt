use Rattle.std.proofs.Common.{◌<◌, All}
use Rattle.row_arena.specs.Rows.{IsRow}
use Rattle.simplex_tests.proofs.programs.terms_of.Given as goal

abbrev pub invariant-loop-column : goal.invariant-loop-column
invariant-loop-column l =
    IsRow l.terms.items × All (λ term. term.column < l.columns) l.terms.items
