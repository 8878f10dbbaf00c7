-- Rows in room for so many entries, and how one of them is combined with another.
use Rattle.std.specs.Prelude.{◌≡◌, ◌≢◌, ℕ, ◌+◌, ◌≤◌, Bool, All, nat_lt, nat_le, List, [], length, set, slice_get, sum_by, nat_abs, pos, Option, None, Some, Result, Ok, Err, if◌then◌else◌}
use Rattle.std.specs.List.{Contains, find}
use Rattle.row_arena.specs.declared.entry.Entry.{Entry}
use Rattle.row_arena.specs.declared.wide.Wide.{Wide}
use Rattle.row_arena.specs.declared.wide.Wide.TheVariants.{Cells, Value}
use Rattle.row_arena.specs.Combining.{cleared}
use Rattle.row_arena.specs.Rows.{IsRow, entry_at, most_entry}

-- rows, how many there may be, how many entries they may have, and the columns that the last
-- combining filled
pub record Rows : Type 0 where
  pub rows : List (List Entry)
  pub most_rows : ℕ
  pub cells : ℕ
  pub filled : List ℕ

-- each column in which the new row has an entry and the old one had none is among these
pub record AreFilled (old new : List Entry) (filled : List ℕ) : Type 0 where
  pub each : (column : ℕ) → entry_at old column ≡ pos 0 → entry_at new column ≢ pos 0
      → Contains filled column

-- the row at a position, empty where there is none
abbrev pub row_or_none : Option (List Entry) → List Entry
row_or_none None = []
row_or_none (Some row) = row

abbrev pub row_at : List (List Entry) → ℕ → List Entry
row_at rows k = row_or_none (slice_get rows k)

-- how many entries all rows have
abbrev pub live : List (List Entry) → ℕ
live rows = sum_by length rows

-- there is room for so many more entries
abbrev pub has_room : ℕ → List (List Entry) → List Entry → Bool
has_room cells rows row = nat_le (live rows + length row) cells

abbrev pub is_far : Entry → Bool
is_far entry = nat_lt most_entry (nat_abs entry.value)

-- the rows with this one at the target, where there is room; else how many entries they have, the
-- old target's among them, and how many it has
abbrev pub with_row : ℕ → List (List Entry) → ℕ → List Entry → Result (List (List Entry)) Wide
with_row cells rows target row =
    if has_room cells rows row then Ok (set rows target row)
    else Err (Cells (live rows) (length row))

-- the rows with this one at the target, where there is room and no entry is too far from 0; else
-- the first that is, or how many entries there are
abbrev pub replaced : Option Entry → ℕ → List (List Entry) → ℕ → List Entry
    → Result (List (List Entry)) Wide
replaced None cells rows target row = with_row cells rows target row
replaced (Some far) cells rows target row = Err (Value far.column far.value)

-- the target is cleared in the column by means of the pivot
abbrev pub combined : ℕ → List (List Entry) → ℕ → ℕ → ℕ → Result (List (List Entry)) Wide
combined cells rows target pivot column =
    let row = cleared column (row_at rows target) (row_at rows pivot) in
    replaced (find is_far row) cells rows target row

-- so many entries are in the rows, which are rows, and there is room for them
pub record IsArena (entries : ℕ) (rows : Rows) : Type 0 where
  pub valid : All IsRow rows.rows
  pub few : length rows.rows ≤ rows.most_rows
  pub count : entries ≡ live rows.rows
  pub room : live rows.rows ≤ rows.cells
