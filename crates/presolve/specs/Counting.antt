-- Counting the entries of the program's first tableau, as far as there is room for them.
use Rattle.std.specs.Prelude.{◌≡◌, ℕ, ◌+◌, ◌*◌, ◌<◌, ◌≤◌, List, length, sum_by, Option, None, Some, if◌then◌else◌}
use Rattle.std.specs.List.{range_with_len}
use Rattle.flow_types.specs.declared.parts.Parts.{Parts}
use Rattle.time_windows.specs.Boxes.{Box}
use Rattle.bytime_model.specs.declared.names.RowName.{RowName}
use Rattle.cut_rows.specs.declared.names.CutName.{CutName}
use Rattle.presolve.specs.declared.tally.Refused.{Refused}
use Rattle.presolve.specs.declared.tally.Refused.TheVariants as refused
use Rattle.presolve.specs.declared.tally.Tally.{Tally}
use Rattle.presolve.specs.Relaxed.{may_exceed, row_in}
use Rattle.presolve.specs.Variables.{flight_columns}

-- the reason, where it isn't want of memory
abbrev pub IfWide : Refused → Type 0 → Type 0
IfWide refused.Wide P = P
IfWide refused.OutOfMemory P = Unit {0}

-- more than there is room for; without a limit nothing is
abbrev pub IsPast : Option ℕ → ℕ → Type 0
IsPast None entries = ⊥
IsPast (Some cells) entries = cells < entries

-- at most so many more are counted
pub record IsCounted (more : ℕ) (old new : Tally) : Type 0 where
  pub upto : new.entries ≤ old.entries + more
  pub cells : new.cells ≡ old.cells

-- that a column is at most 1 has three: its term, what is left of the limit, and the limit
abbrev pub flight_entries : Parts → Box → ℕ → ℕ
flight_entries parts box f = length (flight_columns parts box f) * 3

abbrev pub column_entries : Parts → Box → ℕ
column_entries parts box =
    sum_by (flight_entries parts box) (range_with_len 0 (length parts.flights))

-- a row that values of the columns may exceed has its terms, and what is left of the limit
abbrev pub row_entries : Parts → List CutName → Box → RowName → ℕ
row_entries parts pool box name =
    if may_exceed (row_in parts pool box name) then length (row_in parts pool box name).terms + 1
    else 0
