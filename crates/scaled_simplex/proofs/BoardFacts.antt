-- Boards, row by row.
use Rattle.std.proofs.Common.{◌≡◌, ◌≢◌, ◌⊎◌, ℕ, ◌<◌, List, length, set, slice_index, Ok, pos, int_lt, inl, inr, refl, sym, ap, ◌∙◌, subst, arith}
use Rattle.std.proofs.lemmas.List.{length-set}
use Rattle.number_set.specs.Numbers.{IsChanged}
use Rattle.row_arena.specs.declared.entry.Entry.{Entry}
use Rattle.row_arena.specs.Arena.{AreFilled, Rows, combined, row_at}
use Rattle.row_arena.specs.Combining.{cleared}
use Rattle.row_arena.specs.Rows.{entry_at}
use Rattle.scaled_simplex.specs.declared.basis.Basis.{Basis}
use Rattle.scaled_simplex.specs.declared.board.Board.{Board}
use Rattle.scaled_simplex.specs.Board.{AreAdded, AreListed}
use Rattle.scaled_simplex.specs.BoardOf.{CanSweep, IsBoard, KeepsBoard}
use Rattle.scaled_simplex.specs.Links.{Lists}
use Rattle.scaled_simplex.specs.Program.{Problem}
use Rattle.scaled_simplex.specs.Tableau.{right_side}
use Rattle.scaled_simplex.proofs.FoundFacts.{found_set}
use Rattle.scaled_simplex.proofs.ListedFacts.{listed_set}
use Rattle.scaled_simplex.proofs.Sweeps.{combined_is, row_at-set_other, row_at-set_same}

-- the index that a row stands for is one of those of the set
pub index_small : (problem : Problem) (board : Board) (row : ℕ) → IsBoard problem board
    → row < length problem.constraints
    → slice_index board.basis.index_of.items row < board.basis.negative.bound
index_small problem board row is below =
    subst (λ n. slice_index board.basis.index_of.items row < n) (sym is.found.bound)
    (is.indices row 0 (let count = is.basis in omega (arith, below, count)))

-- a row is combined with another one
module _ (problem : Problem) (board : Board) (row pivot index : ℕ) (arena : Rows)
    (is : IsBoard problem board) (below : row < length problem.constraints)
    (done : combined board.arena.cells board.arena.rows row pivot index ≡ Ok arena.rows) where
  abbrev made : List Entry
  made = cleared index (row_at board.arena.rows row) (row_at board.arena.rows pivot)

  within : row < length board.arena.rows
  within = let count = is.rows in omega (arith, below, count)

  set_is : arena.rows ≡ set board.arena.rows row made
  set_is = combined_is board.arena.cells board.arena.rows arena.rows row pivot index done

  made_is : row_at arena.rows row ≡ made
  made_is =
      ap (λ (l : List (List Entry)). row_at l row) set_is
      ∙ row_at-set_same board.arena.rows row made within

  count_kept : length arena.rows ≡ length board.arena.rows
  count_kept = ap length set_is ∙ length-set board.arena.rows row made

  -- the lists have it
  listed_set' : (lists : List (List ℕ)) (rows : ℕ) → rows ≡ length problem.constraints
      → AreFilled (row_at board.arena.rows row) (row_at arena.rows row) arena.filled
      → AreAdded row arena.filled board.lists.rows lists
      ⊎ AreListed arena.rows rows (length board.lists.rows) lists
      → AreListed arena.rows (length problem.constraints) (right_side problem) lists
  listed_set' lists rows count filled (inl added) =
      listed_set board.arena.rows arena.rows row (length problem.constraints) (right_side problem)
      made arena.filled board.lists.rows lists below within set_is is.listed
      (rw made_is at filled) added
  listed_set' lists rows count filled (inr listed) = rw (count, is.listed.count_is) at listed

  pub board_set : (basis : Basis) (lists : Lists) (rows : ℕ) → rows ≡ length problem.constraints
      → AreFilled (row_at board.arena.rows row) (row_at arena.rows row) arena.filled
      → AreAdded row arena.filled board.lists.rows lists.rows
      ⊎ AreListed arena.rows rows (length board.lists.rows) lists.rows
      → lists.room ≡ board.lists.room → arena.cells ≡ board.arena.cells
      → IsChanged (slice_index board.basis.index_of.items row)
      (int_lt (entry_at (row_at arena.rows row) (right_side problem)) (pos 0))
      board.basis.negative basis.negative
      → basis.index_of ≡ board.basis.index_of → basis.row_of ≡ board.basis.row_of
      → IsBoard problem (record {
        arena = arena;
        basis = basis;
        lists = lists;
        todo = board.todo;
      })
  board_set basis lists rows count filled listed same_room same_cells change index_of row_of =
      let items : basis.index_of.items ≡ board.basis.index_of.items = ap (λ v. v.items) index_of in
      let row_items : basis.row_of.items ≡ board.basis.row_of.items = ap (λ v. v.items) row_of in
      record {
        rows = count_kept ∙ is.rows;
        basis = ap length items ∙ is.basis;
        indices = rw items is.indices;
        found = rw (items, row_items)
            (found_set problem board.arena.rows arena.rows board.basis.index_of.items
            board.basis.row_of.items board.basis.negative is.found row made basis.negative below
            within set_is (rw made_is at change));
        listed = listed_set' lists.rows rows count filled listed;
        room = rw (same_cells, same_room) is.room;
        todo = rw same_room is.todo;
      }

  -- the other rows are as before
  pub row_kept : (k : ℕ) → k ≢ row → row_at arena.rows k ≡ row_at board.arena.rows k
  row_kept k other =
      ap (λ (l : List (List Entry)). row_at l k) set_is
      ∙ row_at-set_other board.arena.rows row k made other

  pub board_keeps : (basis : Basis) (lists : Lists) → (row ≡ pivot → ⊥)
      → basis.index_of ≡ board.basis.index_of → arena.cells ≡ board.arena.cells
      → KeepsBoard problem pivot board (record {
        arena = arena;
        basis = basis;
        lists = lists;
        todo = board.todo;
      })
  board_keeps basis lists other index_of cells = record {
    index_of = ap (λ v. v.items) index_of;
    cells = cells;
    count_is = count_kept;
    pivots = row_kept pivot (λ same. other (sym same));
    costs = row_kept (length problem.constraints) (λ same. omega (arith, same, below));
    todo = refl;
  }

-- what is kept twice is kept
pub keeps_on : {problem : Problem} {pivot : ℕ} {a b c : Board} → KeepsBoard problem pivot a b
    → KeepsBoard problem pivot b c → KeepsBoard problem pivot a c
keeps_on first second = record {
  index_of = second.index_of ∙ first.index_of;
  cells = second.cells ∙ first.cells;
  count_is = second.count_is ∙ first.count_is;
  pivots = second.pivots ∙ first.pivots;
  costs = second.costs ∙ first.costs;
  todo = second.todo ∙ first.todo;
}

pub can_still : {problem : Problem} {pivot index : ℕ} {old new : Board}
    → CanSweep problem pivot index old → KeepsBoard problem pivot old new
    → CanSweep problem pivot index new
can_still can keeps = record {
  within = can.within;
  above = rw keeps.pivots can.above;
}
