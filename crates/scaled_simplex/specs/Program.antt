-- Programs: the least cost of columns that are 0 or more and keep every constraint.
use Rattle.std.specs.Prelude.{ℕ, ◌+◌, ◌-◌, ◌^◌, ◌<◌, ◌≤◌, List, length, All, ℤ, pos, nat_abs, ◌≤ℤ◌}
use Rattle.row_arena.specs.declared.entry.Entry.{Entry}
use Rattle.row_arena.specs.Rows.{IsRow, most_entry}

-- terms that are to be at most a limit
pub record Constraint : Type 0 where
  pub terms : List Entry
  pub limit : ℤ

-- a cost for each column, what is paid with all columns at 0, and the constraints
pub record Problem : Type 0 where
  pub costs : List ℤ
  pub constant : ℤ
  pub constraints : List Constraint

abbrev pub columns : Problem → ℕ
columns problem = length problem.costs

-- how many columns and constraints there may be together
abbrev pub most_indices : ℕ
most_indices = 2 ^ 32 - 3

-- a cost is 0 or more, and not too far from it
pub record IsCost (cost : ℤ) : Type 0 where
  pub low : pos 0 ≤ℤ cost
  pub near : nat_abs cost ≤ most_entry

-- terms over the columns, and a limit that isn't too far from 0
pub record IsConstraint (columns : ℕ) (constraint : Constraint) : Type 0 where
  pub terms : IsRow constraint.terms
  pub within : All (λ term. term.column < columns) constraint.terms
  pub near : nat_abs constraint.limit ≤ most_entry

pub record IsProblem (problem : Problem) : Type 0 where
  pub costs : All IsCost problem.costs
  pub constant : nat_abs problem.constant ≤ most_entry
  pub constraints : All (IsConstraint (columns problem)) problem.constraints
  pub few : columns problem + length problem.constraints ≤ most_indices
