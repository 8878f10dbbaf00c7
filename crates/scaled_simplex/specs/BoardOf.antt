-- The tableau that a board keeps. No public clause cites these.
use Rattle.std.specs.Prelude.{◌≡◌, ◌≢◌, ℕ, ◌+◌, ◌<◌, ◌≤◌, ◌<ℤ◌, List, Some, All, AllPairs, length, pos, vec_capacity}
use Rattle.std.specs.List.{Contains}
use Rattle.row_arena.specs.declared.entry.Entry.{Entry}
use Rattle.row_arena.specs.Arena.{row_at}
use Rattle.row_arena.specs.Rows.{entry_at}
use Rattle.scaled_simplex.specs.declared.board.Board.{Board}
use Rattle.scaled_simplex.specs.Board.{AreFound, AreListed}
use Rattle.scaled_simplex.specs.Program.{Problem}
use Rattle.scaled_simplex.specs.Run.{entering, leaving}
use Rattle.scaled_simplex.specs.Tableau.{Tableau, right_side}

abbrev pub tableau_of : Board → Tableau
tableau_of board = record { rows = board.arena.rows; basis = board.basis.index_of.items }

-- the rows, each with its index, and the index's row; and the lists of rows by their entries, in
-- which all entries have room, as each list has in the rows to be cleared
pub record IsBoard (problem : Problem) (board : Board) : Type 0 where
  pub rows : length board.arena.rows ≡ length problem.constraints + 1
  pub basis : length board.basis.index_of.items ≡ length problem.constraints
  pub indices : All (λ index. index < right_side problem) board.basis.index_of.items
  pub found : AreFound problem (tableau_of board) board.basis.row_of.items board.basis.negative
  pub listed : AreListed board.arena.rows (length problem.constraints) (right_side problem)
      board.lists.rows
  pub room : board.arena.cells ≤ board.lists.room
  pub todo : board.lists.room ≤ vec_capacity board.todo

-- the pivot row is one of the constraints', and has an entry above 0 at the index
pub record CanSweep (problem : Problem) (pivot index : ℕ) (board : Board) : Type 0 where
  pub within : pivot < length problem.constraints
  pub above : pos 0 <ℤ entry_at (row_at board.arena.rows pivot) index

-- the same indices and room, the same pivot row and cost row, and the same rows to be cleared
pub record KeepsBoard (problem : Problem) (pivot : ℕ) (old new : Board) : Type 0 where
  pub index_of : new.basis.index_of.items ≡ old.basis.index_of.items
  pub cells : new.arena.cells ≡ old.arena.cells
  pub count_is : length new.arena.rows ≡ length old.arena.rows
  pub pivots : row_at new.arena.rows pivot ≡ row_at old.arena.rows pivot
  pub costs : row_at new.arena.rows (length problem.constraints)
      ≡ row_at old.arena.rows (length problem.constraints)
  pub todo : new.todo ≡ old.todo

-- rows of constraints in ascending order, among which are all that have an entry at the index
pub record IsTodo (problem : Problem) (index : ℕ) (rows : List (List Entry)) (todo : List ℕ)
    : Type 0 where
  pub ascending : AllPairs (λ a b. a < b) todo
  pub small : All (λ k. k < length problem.constraints) todo
  pub each : (k : ℕ) → k < length problem.constraints → entry_at (row_at rows k) index ≢ pos 0
      → Contains todo k

-- no other constraint's row has an entry at the index
pub record IsAlone (problem : Problem) (rows : List (List Entry)) (row index : ℕ) : Type 0 where
  pub each : (k : ℕ) → k < length problem.constraints → k ≢ row
      → entry_at (row_at rows k) index ≡ pos 0

-- the row leaves, and the index enters
pub record IsChosen (problem : Problem) (tableau : Tableau) (row index : ℕ) : Type 0 where
  pub leaves : leaving problem tableau ≡ Some row
  pub enters : entering problem tableau (row_at tableau.rows row) ≡ Some index
