-- What the rows of every tableau of a run have in common with those of the first one. No public
-- clause cites these.
use Rattle.std.specs.Prelude.{◌≡◌, ℕ, ◌+◌, ◌<◌, List, None, length, ℤ, pos, ◌*ℤ◌}
use Rattle.exact_sums.specs.Sums.{total}
use Rattle.row_arena.specs.declared.entry.Entry.{Entry}
use Rattle.row_arena.specs.Arena.{row_at}
use Rattle.row_arena.specs.Rows.{entry_at}
use Rattle.scaled_simplex.specs.declared.board.Board.{Board}
use Rattle.scaled_simplex.specs.Board.{IsBasic}
use Rattle.scaled_simplex.specs.BoardOf.{IsBoard, tableau_of}
use Rattle.scaled_simplex.specs.LastTableau.{IsReached}
use Rattle.scaled_simplex.specs.Program.{Problem}
use Rattle.scaled_simplex.specs.Run.{leaving}
use Rattle.scaled_simplex.specs.Tableau.{Tableau, first_tableau, weight_index}

-- a row at these values of the indices
abbrev pub row_with : List Entry → List Entry → ℤ
row_with values row = total (λ value. entry_at row value.column *ℤ value.value) values

-- at these values of the indices each row is 0
pub record AreSolved (problem : Problem) (rows : List (List Entry)) (values : List Entry)
    : Type 0 where
  pub each : (k : ℕ) → k < length problem.constraints + 1
      → row_with values (row_at rows k) ≡ pos 0

-- Pivots lead to it, in room for so many entries. What solves its rows solves those of the first
-- tableau; and the rows of the constraints have no weight of the cost.
pub record IsDerived (problem : Problem) (cells : ℕ) (tableau : Tableau) : Type 0 where
  pub reached : IsReached problem cells tableau
  pub weightless : (k : ℕ) → k < length problem.constraints
      → entry_at (row_at tableau.rows k) (weight_index problem) ≡ pos 0
  pub back : (values : List Entry) → AreSolved problem tableau.rows values
      → AreSolved problem (first_tableau problem).rows values

-- the last tableau of a run that ended Optimal
pub record IsLast (problem : Problem) (board : Board) : Type 0 where
  pub board_is : IsBoard problem board
  pub basic : IsBasic problem (tableau_of board)
  pub derived : IsDerived problem board.arena.cells (tableau_of board)
  pub none : leaving problem (tableau_of board) ≡ None
