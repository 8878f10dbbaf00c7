use Rattle.scaled_simplex.proofs.FirstBoardFacts.{IsSignedTo}
use Rattle.scaled_simplex.proofs.first.first_basis.Given as goal

abbrev pub invariant-loop-row : goal.invariant-loop-row
invariant-loop-row l = IsSignedTo l.program l.arena.rows l.row l.basis
