use Rattle.std.proofs.Common.{◌≡◌, take}
use Rattle.scaled_simplex.specs.Tableau.{constraint_rows}
use Rattle.scaled_simplex.proofs.first.push_constraints.Given as goal

abbrev pub invariant-loop-k : goal.invariant-loop-k
invariant-loop-k l = record {
  rows : l.arena.rows ≡ constraint_rows l.program 0 (take l.k l.program.constraints);
  places : l.arena.most_rows ≡ l.fn.arena.most_rows;
  cells : l.arena.cells ≡ l.fn.arena.cells;
}
