-- The rows that may have an entry at an index, and pivots by them.
use Rattle.std.proofs.Common.{◌≡◌, ◌≢◌, ◌⊎◌, ℕ, ◌+◌, ◌<◌, false, List, [], ◌∷◌, length, get_or, set, slice_index, Ok, pos, neg_ℤ, ◌<ℤ◌, ap, ◌∙◌, inl, inr, arith}
use Rattle.std.proofs.lemmas.Bool.{cases_eq}
use Rattle.std.proofs.lemmas.Int.{ints}
use Rattle.std.proofs.lemmas.List.{length-set}
use Rattle.std.proofs.lemmas.List.Elements.{All-set}
use Rattle.number_set.specs.Numbers.{IsChanged}
use Rattle.row_arena.specs.declared.entry.Entry.{Entry}
use Rattle.row_arena.specs.Arena.{Rows, row_at}
use Rattle.row_arena.specs.Rows.{entry_at, negated}
use Rattle.scaled_simplex.specs.declared.basis.Basis.{Basis}
use Rattle.scaled_simplex.specs.declared.board.Board.{Board}
use Rattle.scaled_simplex.specs.Board.{AreListed, AreSorted, IsBasic}
use Rattle.scaled_simplex.specs.BoardOf.{IsAlone, IsBoard, IsChosen, IsTodo, tableau_of}
use Rattle.scaled_simplex.specs.Links.{Lists}
use Rattle.scaled_simplex.specs.Program.{Problem}
use Rattle.scaled_simplex.specs.Run.{right_at, swept}
use Rattle.scaled_simplex.specs.Tableau.{Tableau, right_side}
use Rattle.scaled_simplex.proofs.Choices.{entering_negative, entering_within, leaving_negative, leaving_within}
use Rattle.scaled_simplex.proofs.ClearedRows.{cleared_there}
use Rattle.scaled_simplex.proofs.EntryLaws.{entry_negated}
use Rattle.scaled_simplex.proofs.FoundFacts.{found_entered}
use Rattle.scaled_simplex.proofs.ListedFacts.{listed_left}
use Rattle.scaled_simplex.proofs.Sweeps.{pivoted_each, pivoted_is, row_at-set_other, row_at-set_same}

pub index_listed : (problem : Problem) (rows : List (List Entry)) (lists : List (List ℕ))
    (index : ℕ)
    → AreListed rows (length problem.constraints) (right_side problem) lists
    → index < right_side problem → index < length lists
index_listed problem rows lists index listed below =
    let count = listed.count_is in omega (arith, below, count)

pub todo_told : (problem : Problem) (rows : List (List Entry)) (lists : List (List ℕ))
    (index : ℕ) (todo : List ℕ)
    → AreListed rows (length problem.constraints) (right_side problem) lists
    → index < right_side problem → AreSorted (get_or lists index []) todo
    → IsTodo problem index rows todo
todo_told problem rows lists index todo listed below sorted = record {
  ascending = sorted.ascending;
  small = sorted.small (length problem.constraints) (listed.small index);
  each = λ k small some. sorted.each k (listed.each k index small below some);
}

-- a row that is turned round has an entry where it had one, and the others are as before
module _ (rows new : List (List Entry)) (row index : ℕ) (within : row < length rows)
    (is : new ≡ set rows row (negated (row_at rows row))) where
  turned_value : entry_at (row_at new row) index ≡ neg_ℤ (entry_at (row_at rows row) index)
  turned_value =
      rw (is, row_at-set_same rows row (negated (row_at rows row)) within)
      (entry_negated (row_at rows row) index)

  turned_entry : (k : ℕ) → entry_at (row_at new k) index ≢ pos 0
      → entry_at (row_at rows k) index ≢ pos 0
  turned_entry k some none = by (cases_eq k row)
    where
      by : (k ≡ row) ⊎ (k ≢ row) → ⊥
      by (inl same) = some (rw same (turned_value ∙ ap neg_ℤ (rw same at none)))
      by (inr other) =
          some (rw (is, row_at-set_other rows row k (negated (row_at rows row)) other) none)

  -- the leaving row, turned round, has an entry above 0 at the entering index
  turned_above : entry_at (row_at rows row) index <ℤ pos 0
      → pos 0 <ℤ entry_at (row_at new row) index
  turned_above below = let value = turned_value in omega (arith, ints, value, below)

-- what is known of the row that leaves and the index that enters
module _ {problem : Problem} {tableau : Tableau} {row index : ℕ}
    (chosen : IsChosen problem tableau row index) where
  pub chosen_row : row < length problem.constraints
  chosen_row = leaving_within problem tableau row chosen.leaves

  pub chosen_negative : right_at problem tableau row <ℤ pos 0
  chosen_negative = leaving_negative problem tableau row chosen.leaves

  pub chosen_index : index < right_side problem
  chosen_index = entering_within problem tableau (row_at tableau.rows row) index chosen.enters

  pub chosen_below : entry_at (row_at tableau.rows row) index <ℤ pos 0
  chosen_below = entering_negative problem tableau (row_at tableau.rows row) index chosen.enters

  -- after the pivot the row alone has an entry there
  pub alone_after : (cells : ℕ) {start rows : List (List Entry)}
      → length tableau.rows ≡ length problem.constraints + 1
      → start ≡ set tableau.rows row (negated (row_at tableau.rows row))
      → swept problem cells row index 0 (length problem.constraints + 1) start ≡ Ok rows
      → IsAlone problem rows row index
  alone_after cells {rows = rows} count turned done = record {
    each = λ k small other. pivoted_each problem tableau.rows rows row index
        (pivoted_is problem row index cells tableau rows count chosen_row (rw turned at done))
        (λ (r : List Entry). entry_at r index ≡ pos 0) k (omega (arith, small))
        (λ same. absurd (other same))
        (λ _. cleared_there index (row_at tableau.rows k) (negated (row_at tableau.rows row)))
        (λ _ none. none);
  }

-- the board with other lists
pub board_listed : (problem : Problem) (board : Board) (lists : Lists) → IsBoard problem board
    → AreListed board.arena.rows (length problem.constraints) (right_side problem) lists.rows
    → lists.room ≡ board.lists.room
    → IsBoard problem (record {
      arena = board.arena;
      basis = board.basis;
      lists = lists;
      todo = board.todo;
    })
board_listed problem board lists is listed same = record {
  rows = is.rows;
  basis = is.basis;
  indices = is.indices;
  found = is.found;
  listed = listed;
  room = rw same is.room;
  todo = rw same is.todo;
}

-- that of which a list is left one row
pub board_left : (problem : Problem) (board : Board) (lists : Lists) (row index : ℕ)
    → IsBoard problem board → row < length problem.constraints → index < right_side problem
    → IsAlone problem board.arena.rows row index
    → lists.rows ≡ set board.lists.rows index (row ∷ []) → lists.room ≡ board.lists.room
    → IsBoard problem (record {
      arena = board.arena;
      basis = board.basis;
      lists = lists;
      todo = board.todo;
    })
board_left problem board lists row index is below within alone left same =
    board_listed problem board lists is
    (rw left
    (listed_left board.arena.rows (length problem.constraints) (right_side problem) index row
    board.lists.rows below within alone.each is.listed)) same

-- the row that leaves is turned round
module _ {problem : Problem} {board : Board} {row index : ℕ} {new : List (List Entry)}
    (is : IsBoard problem board) (chosen : IsChosen problem (tableau_of board) row index)
    (turned : new ≡ set board.arena.rows row (negated (row_at board.arena.rows row))) where
  below : row < length problem.constraints
  below = chosen_row chosen

  inside : row < length board.arena.rows
  inside = let count = is.rows in let small = below in omega (arith, small, count)

  pub above_after : pos 0 <ℤ entry_at (row_at new row) index
  above_after =
      turned_above board.arena.rows new row index inside turned (chosen_below chosen)

  pub todo_after : {todo : List ℕ} → IsTodo problem index board.arena.rows todo
      → IsTodo problem index new todo
  todo_after done = record {
    ascending = done.ascending;
    small = done.small;
    each = λ k small some. done.each k small
        (turned_entry board.arena.rows new row index inside turned k some);
  }

  pub costs_after : row_at new (length problem.constraints)
      ≡ row_at board.arena.rows (length problem.constraints)
  costs_after =
      ap (λ (l : List (List Entry)). row_at l (length problem.constraints)) turned
      ∙ row_at-set_other board.arena.rows row (length problem.constraints)
      (negated (row_at board.arena.rows row))
      (λ same. let small = below in omega (arith, small, same))

  listed_after : AreListed new (length problem.constraints) (right_side problem) board.lists.rows
  listed_after = record {
    count_is = is.listed.count_is;
    each = λ k i small within some. is.listed.each k i small within
        (turned_entry board.arena.rows new row i inside turned k some);
    small = is.listed.small;
  }

-- and stands for the index that enters
pub board_turned : {problem : Problem} {board : Board} {row index : ℕ} (arena : Rows)
    (middle basis : Basis) → IsBoard problem board → IsBasic problem (tableau_of board)
    → IsChosen problem (tableau_of board) row index
    → arena.rows ≡ set board.arena.rows row (negated (row_at board.arena.rows row))
    → arena.cells ≡ board.arena.cells
    → IsChanged (slice_index board.basis.index_of.items row) false board.basis.negative
    middle.negative
    → middle.index_of ≡ board.basis.index_of → middle.row_of ≡ board.basis.row_of
    → basis.index_of.items ≡ set middle.index_of.items row index
    → basis.row_of.items ≡ set middle.row_of.items index row
    → basis.negative ≡ middle.negative → IsBoard problem (record {
      arena = arena;
      basis = basis;
      lists = board.lists;
      todo = board.todo;
    })
board_turned {problem} {board} {row} {index} arena middle basis is basic chosen turned same_cells
    change same_index_of same_row_of index_of row_of negative =
    let index_of_is = index_of ∙ ap (λ v. set v.items row index) same_index_of in
    let row_of_is = row_of ∙ ap (λ v. set v.items index row) same_row_of in
    record {
      rows = ap length turned
          ∙ length-set board.arena.rows row (negated (row_at board.arena.rows row)) ∙ is.rows;
      basis = ap length index_of_is ∙ length-set board.basis.index_of.items row index ∙ is.basis;
      indices = rw index_of_is
          (All-set (λ i. i < right_side problem) board.basis.index_of.items row index
          (chosen_index chosen) is.indices);
      found = rw (negative, row_of_is, index_of_is)
          (found_entered problem (tableau_of board) arena.rows board.basis.row_of.items
          board.basis.negative middle.negative is.found basic row index (chosen_row chosen) is.rows
          is.basis (chosen_index chosen) turned (chosen_negative chosen) (chosen_below chosen)
          change);
      listed = listed_after is chosen turned;
      room = rw same_cells is.room;
      todo = is.todo;
    }
