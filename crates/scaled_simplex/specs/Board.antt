-- How a run keeps its tableau. No public clause cites these.
use Rattle.std.specs.Prelude.{◌≡◌, ◌≢◌, ℕ, ◌+◌, ◌<◌, ◌<ℤ◌, true, List, [], length, get_or, slice_index, All, AllPairs, pos, int_lt}
use Rattle.std.specs.List.{Contains}
use Rattle.number_set.specs.Numbers.{IsFirst, Numbers, has}
use Rattle.row_arena.specs.declared.entry.Entry.{Entry}
use Rattle.row_arena.specs.Arena.{row_at}
use Rattle.row_arena.specs.Rows.{entry_at}
use Rattle.scaled_simplex.specs.Program.{Problem}
use Rattle.scaled_simplex.specs.Run.{right_at}
use Rattle.scaled_simplex.specs.Tableau.{Tableau, right_side}

-- For each index a list of rows. In it is each of so many rows that has an entry there, and no row
-- past these.
pub record AreListed (rows : List (List Entry)) (count indices : ℕ) (lists : List (List ℕ))
    : Type 0 where
  pub count_is : length lists ≡ indices
  pub each : (k index : ℕ) → k < count → index < indices
      → entry_at (row_at rows k) index ≢ pos 0 → Contains (get_or lists index []) k
  pub small : (index : ℕ) → All (λ k. k < count) (get_or lists index [])

abbrev pub column_of : Entry → ℕ
column_of entry = entry.column

-- a row is added to the lists of these indices, as far as they have one
pub record AreAdded (row : ℕ) (indices : List ℕ) (old new : List (List ℕ)) : Type 0 where
  pub count_is : length new ≡ length old
  pub kept : (index k : ℕ) → Contains (get_or old index []) k → Contains (get_or new index []) k
  pub added : (index : ℕ) → Contains indices index → index < length old
      → Contains (get_or new index []) row
  pub small : (index bound : ℕ) → row < bound → All (λ k. k < bound) (get_or old index [])
      → All (λ k. k < bound) (get_or new index [])

-- rows in ascending order, each once, among which are all of a list
pub record AreSorted (list rows : List ℕ) : Type 0 where
  pub ascending : AllPairs (λ a b. a < b) rows
  pub each : (k : ℕ) → Contains list k → Contains rows k
  pub small : (bound : ℕ) → All (λ k. k < bound) list → All (λ k. k < bound) rows

-- For each index that a row stands for, which row does; and which of these rows have a negative
-- right side.
pub record AreFound (problem : Problem) (tableau : Tableau) (row_of : List ℕ) (negative : Numbers)
    : Type 0 where
  pub count_is : length row_of ≡ right_side problem
  pub bound : negative.bound ≡ right_side problem
  pub back : (k : ℕ) → k < length problem.constraints
      → slice_index row_of (slice_index tableau.basis k) ≡ k
  pub signs : (k : ℕ) → k < length problem.constraints
      → has negative (slice_index tableau.basis k) ≡ int_lt (right_at problem tableau k) (pos 0)
  pub some : (index : ℕ) → has negative index ≡ true
      → (slice_index row_of index < length problem.constraints)
      × (slice_index tableau.basis (slice_index row_of index) ≡ index)

-- the row of the least index of a set
pub record IsLeastIn (negative : Numbers) (row_of : List ℕ) (row : ℕ) : Type 0 where
  pub index : ℕ
  pub first : IsFirst negative index
  pub is : row ≡ slice_index row_of index

-- each constraint's row alone has an entry at the index that it stands for, and one above 0
pub record IsBasic (problem : Problem) (tableau : Tableau) : Type 0 where
  pub own : (j : ℕ) → j < length problem.constraints
      → pos 0 <ℤ entry_at (row_at tableau.rows j) (slice_index tableau.basis j)
  pub apart : (j k : ℕ) → j < length problem.constraints → k < length problem.constraints + 1
      → k ≢ j → entry_at (row_at tableau.rows k) (slice_index tableau.basis j) ≡ pos 0
