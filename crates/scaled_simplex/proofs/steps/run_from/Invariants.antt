use Rattle.std.proofs.Common.{◌≡◌}
use Rattle.scaled_simplex.specs.Board.{IsBasic}
use Rattle.scaled_simplex.specs.BoardOf.{IsBoard, tableau_of}
use Rattle.scaled_simplex.specs.Derived.{IsDerived}
use Rattle.scaled_simplex.specs.Run.{run_from}
use Rattle.scaled_simplex.proofs.steps.run_from.Given as goal

abbrev pub invariant-loop-ending : goal.invariant-loop-ending
invariant-loop-ending l =
    IsBoard l.program l.board × IsBasic l.program (tableau_of l.board)
    × IsDerived l.program l.board.arena.cells (tableau_of l.board)
    × (l.board.arena.cells ≡ l.fn.board.arena.cells)
    × (run_from l.program l.fn.board.arena.cells l.cutoff l.pivots (tableau_of l.fn.board)
    ≡ run_from l.program l.fn.board.arena.cells l.cutoff l.left (tableau_of l.board))

abbrev pub decreases-loop-ending : goal.decreases-loop-ending
decreases-loop-ending l = l.left
