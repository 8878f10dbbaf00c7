-- Listing what the program has of its rows. No public clause cites these.
use Rattle.std.specs.Prelude.{◌≡◌, ◌≢◌, ℕ, ◌^◌, ◌<◌, ◌≤◌, Bool, true, false, List, [], ◌∷◌, ◌++◌, length, map, slice_index_or, sum_by, ℤ, unsigned_abs, if◌then◌else◌}
use Rattle.std.specs.List.{filter}
use Rattle.flow_types.specs.declared.parts.Parts.{Parts}
use Rattle.row_arena.specs.declared.entry.Entry.{Entry}
use Rattle.scaled_simplex.specs.Program.{Constraint, Problem}
use Rattle.time_windows.specs.Boxes.{Box}
use Rattle.bytime_model.specs.declared.names.RowName.{RowName}
use Rattle.cut_rows.specs.declared.names.CutName.{CutName}
use Rattle.presolve.specs.declared.rows.ProgramDraft.{ProgramDraft}
use Rattle.presolve.specs.Counting.{IsCounted, row_entries}
use Rattle.presolve.specs.Gathering.{size_of}
use Rattle.presolve.specs.Relaxed.{constant_of, cost_in, kept_row, may_exceed, row_in}
use Rattle.presolve.specs.Variables.{columns_of}

-- how large the factors of a row are together, and how far its limit may be from 0
abbrev pub most_size : ℕ
most_size = 2 ^ 52

-- a row that has landed
pub record IsLandedRow (parts : Parts) (pool : List CutName) (box : Box) (name : RowName)
    (entries : List Entry) (most : ℤ) : Type 0 where
  pub terms : entries ≡ (row_in parts pool box name).terms
  pub limit : most ≡ (row_in parts pool box name).limit
  pub size : size_of entries ≤ most_size
  pub near : unsigned_abs most ≤ most_size

-- the name, where its row may be exceeded
abbrev pub kept_if : Parts → List CutName → Box → RowName → List RowName
kept_if parts pool box name = if may_exceed (row_in parts pool box name) then name ∷ [] else []

-- a program with more rows
abbrev pub with_rows : Problem → List Constraint → Problem
with_rows problem rows = record {
  costs = problem.costs;
  constant = problem.constant;
  constraints = problem.constraints ++ rows;
}

-- at most one row more
pub record AddsRow (parts : Parts) (pool : List CutName) (box : Box) (name : RowName)
    (old new : Problem) (before after : List RowName) : Type 0 where
  pub program : new ≡ with_rows old (map (kept_row parts pool box) (kept_if parts pool box name))
  pub kept : after ≡ before ++ kept_if parts pool box name

-- the rows of names
abbrev pub kept_among : Parts → List CutName → Box → List RowName → List RowName
kept_among parts pool box names =
    filter (λ name. may_exceed (row_in parts pool box name)) names

pub record AddsRows (parts : Parts) (pool : List CutName) (box : Box) (names : List RowName)
    (old new : Problem) (before after : List RowName) : Type 0 where
  pub program : new
      ≡ with_rows old (map (kept_row parts pool box) (kept_among parts pool box names))
  pub kept : after ≡ before ++ kept_among parts pool box names

-- the rows of these names are added to a draft, whose entries are counted
pub record AddsNames (parts : Parts) (pool : List CutName) (box : Box) (names : List RowName)
    (old new : ProgramDraft) : Type 0 where
  pub rows : AddsRows parts pool box names old.program new.program old.kept new.kept
  pub counted : IsCounted (sum_by (row_entries parts pool box) names) old.tally new.tally

-- how many columns there may be
abbrev pub most_columns : ℕ
most_columns = 2 ^ 26

-- The entries before a place are in earlier columns, and the others aren't.
pub record IsWalked (column : ℕ) (entries : List Entry) (place : ℕ) : Type 0 where
  pub within : place ≤ length entries
  pub before : (k : ℕ) (d : Entry) → k < place → (slice_index_or entries k d).column < column
  pub after : (k : ℕ) (d : Entry) → place ≤ k → k < length entries
      → column ≤ (slice_index_or entries k d).column

-- whether the entry at the place is the column's
pub record IsAt (column : ℕ) (entries : List Entry) (place : ℕ) (at : Bool) : Type 0 where
  pub within : at ≡ true → place < length entries
  pub here : at ≡ true → (d : Entry) → (slice_index_or entries place d).column ≡ column
  pub other : at ≡ false → place < length entries → (d : Entry)
      → (slice_index_or entries place d).column ≢ column

-- what the variables of the columns cost, and what is paid with each column at 0
pub record HaveCosts (parts : Parts) (box : Box) (costs : List ℤ) (paid : ℤ) : Type 0 where
  pub values : costs ≡ map (cost_in parts box) (columns_of parts box)
  pub constant : paid ≡ constant_of parts box
  pub size : sum_by unsigned_abs costs ≤ 2 ^ 59
  pub near : unsigned_abs paid ≤ 2 ^ 61
