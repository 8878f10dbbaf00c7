-- Tableaus: a row for each constraint, and the cost row after them, in whole numbers. With n
-- columns and m constraints, the indices below n are the columns, n + k is what constraint k leaves
-- of its limit, n + m is the right side, and n + m + 1 the weight of the cost.
use Rattle.std.specs.Prelude.{ℕ, ◌+◌, List, [], ◌∷◌, ◌++◌, length, slice_index_or, pos, neg_ℤ}
use Rattle.std.specs.List.{range_with_len}
use Rattle.row_arena.specs.declared.entry.Entry.{Entry}
use Rattle.row_arena.specs.Rows.{row_from, unless_zero}
use Rattle.scaled_simplex.specs.Program.{Constraint, Problem, columns}

-- the rows, last the cost row; and for each constraint the index that its row stands for
pub record Tableau : Type 0 where
  pub rows : List (List Entry)
  pub basis : List ℕ

abbrev pub right_side : Problem → ℕ
right_side problem = columns problem + length problem.constraints

abbrev pub weight_index : Problem → ℕ
weight_index problem = right_side problem + 1

abbrev pub one_at : ℕ → List Entry
one_at column = record { column = column; value = pos 1 } ∷ []

-- the terms, what is left of the limit, and the limit
abbrev pub constraint_row : Problem → ℕ → Constraint → List Entry
constraint_row problem k constraint =
    constraint.terms
    ++ (one_at (columns problem + k) ++ unless_zero (right_side problem) constraint.limit)

abbrev pub constraint_rows : Problem → ℕ → List Constraint → List (List Entry)
constraint_rows problem k [] = []
constraint_rows problem k (constraint ∷ constraints) =
    constraint_row problem k constraint ∷ constraint_rows problem (k + 1) constraints

-- what is paid with all columns at 0, for one unit of the cost
abbrev pub bare_row : Problem → List Entry
bare_row problem =
    unless_zero (right_side problem) problem.constant ++ one_at (weight_index problem)

-- what is paid, for one unit of the cost, with all columns at 0, less the cost of each column
abbrev pub cost_row : Problem → List Entry
cost_row problem =
    row_from (λ column. neg_ℤ (slice_index_or problem.costs column (pos 0))) 0 (columns problem)
    ++ bare_row problem

abbrev pub first_tableau : Problem → Tableau
first_tableau problem = record {
  rows = constraint_rows problem 0 problem.constraints ++ cost_row problem ∷ [];
  basis = range_with_len (columns problem) (length problem.constraints);
}
