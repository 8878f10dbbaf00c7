use Rattle.std.proofs.Common.{◌≤◌}
use Rattle.row_arena.specs.Rows.{most_entry}
use Rattle.scaled_simplex.specs.BoardOf.{tableau_of}
use Rattle.scaled_simplex.specs.Fractions.{IsMultiple}
use Rattle.scaled_simplex.proofs.fractions.common_denominator.Given as goal

abbrev pub invariant-loop-column : goal.invariant-loop-column
invariant-loop-column l = record {
  near : l.denominator ≤ most_entry;
  common : IsMultiple l.program (tableau_of l.board) l.column l.denominator;
}
