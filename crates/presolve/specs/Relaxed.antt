-- The linear program of a box: the relaxation of the by-time program, with the rows of a pool of
-- cuts, over the columns of the box. A column stands for its variable, or for 1 less the variable
-- where that one's cost is negative: it is flipped. So no cost is negative, and each column is from
-- 0 to 1.
use Rattle.std.specs.Prelude.{ℕ, Bool, false, List, [], ◌∷◌, ◌++◌, length, map, slice_index_or, ℤ, pos, neg_ℤ, ◌+ℤ◌, ◌-ℤ◌, int_lt, unsigned_abs, if◌then◌else◌}
use Rattle.std.specs.Int.{int_max, int_min}
use Rattle.std.specs.List.{filter, range_with_len}
use Rattle.exact_sums.specs.Sums.{total}
use Rattle.flow_types.specs.declared.parts.Parts.{Parts}
use Rattle.row_arena.specs.declared.entry.Entry.{Entry}
use Rattle.scaled_simplex.specs.Program.{Constraint, Problem}
use Rattle.time_windows.specs.Boxes.{Box}
use Rattle.bytime_model.specs.declared.names.RowName.{RowName}
use Rattle.bytime_model.specs.declared.variables.Var.{Var}
use Rattle.bytime_model.specs.CostRow.{cost_row}
use Rattle.bytime_model.specs.Rows.{AtMost}
use Rattle.cut_rows.specs.declared.names.CutName.{CutName}
use Rattle.cut_rows.specs.Pools.{row_with, rows_with}
use Rattle.presolve.specs.Landed.{coefficient_of, entries_from, fixed_of}
use Rattle.presolve.specs.Variables.{columns_of}

-- a row over the columns, with what is fixed taken from the limit
abbrev pub landed_row : Parts → Box → AtMost → Constraint
landed_row parts box row = record {
  terms = entries_from (coefficient_of parts box row.terms) 0 (columns_of parts box);
  limit = row.limit -ℤ fixed_of parts box row.terms;
}

-- the greatest value of its left side, with each column from 0 to 1; it may be above the limit
abbrev pub greatest : List Entry → ℤ
greatest terms = total (λ entry. int_max (pos 0) entry.value) terms

abbrev pub may_exceed : Constraint → Bool
may_exceed row = int_lt row.limit (greatest row.terms)

-- the cost of a column's variable, and which columns are flipped
abbrev pub cost_in : Parts → Box → Var → ℤ
cost_in parts box column = coefficient_of parts box (cost_row parts).terms column

abbrev pub flipped_of : Parts → Box → List Bool
flipped_of parts box =
    map (λ column. int_lt (cost_in parts box column) (pos 0)) (columns_of parts box)

-- a row with flipped columns rewritten
abbrev pub is_flipped : List Bool → Entry → Bool
is_flipped flips entry = slice_index_or flips entry.column false

abbrev pub flipped_entry : List Bool → Entry → Entry
flipped_entry flips entry = record {
  column = entry.column;
  value = if is_flipped flips entry then neg_ℤ entry.value else entry.value;
}

abbrev pub flipped_part : List Bool → Entry → ℤ
flipped_part flips entry = if is_flipped flips entry then entry.value else pos 0

abbrev pub flipped_sum : List Bool → List Entry → ℤ
flipped_sum flips terms = total (flipped_part flips) terms

abbrev pub flipped_row : List Bool → Constraint → Constraint
flipped_row flips row = record {
  terms = map (flipped_entry flips) row.terms;
  limit = row.limit -ℤ flipped_sum flips row.terms;
}

-- the rows that values of the columns may exceed, by their names
abbrev pub row_in : Parts → List CutName → Box → RowName → Constraint
row_in parts pool box name = landed_row parts box (row_with parts pool name)

abbrev pub kept_of : Parts → List CutName → Box → List RowName
kept_of parts pool box =
    filter (λ name. may_exceed (row_in parts pool box name)) (rows_with parts pool)

abbrev pub kept_row : Parts → List CutName → Box → RowName → Constraint
kept_row parts pool box name =
    flipped_row (flipped_of parts box) (row_in parts pool box name)

-- a column is at most 1
abbrev pub at_most_one : ℕ → Constraint
at_most_one column = record {
  terms = record { column = column; value = pos 1 } ∷ [];
  limit = pos 1;
}

-- what is paid with each column at 0: where it is flipped, its variable is 1
abbrev pub constant_of : Parts → Box → ℤ
constant_of parts box =
    ((cost_row parts).constant +ℤ fixed_of parts box (cost_row parts).terms)
    +ℤ total (λ column. int_min (pos 0) (cost_in parts box column)) (columns_of parts box)

abbrev pub program_of : Parts → List CutName → Box → Problem
program_of parts pool box = record {
  costs = map (λ column. pos (unsigned_abs (cost_in parts box column))) (columns_of parts box);
  constant = constant_of parts box;
  constraints = map (kept_row parts pool box) (kept_of parts pool box)
      ++ map at_most_one (range_with_len 0 (length (columns_of parts box)));
}
