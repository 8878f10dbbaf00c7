-- Where rows are combined.
use Rattle.std.specs.Prelude.{ℕ, ◌≤◌, vec_capacity}
use Rattle.row_arena.specs.declared.desk.Desk.{Desk}

-- each list has room for so many
pub record IsDesk (cells : ℕ) (desk : Desk) : Type 0 where
  pub narrow : cells ≤ vec_capacity desk.narrow
  pub wides : cells ≤ vec_capacity desk.wides
  pub filled : cells ≤ vec_capacity desk.filled

-- no list has less room
pub record KeepsRoom (old new : Desk) : Type 0 where
  pub narrow : vec_capacity old.narrow ≤ vec_capacity new.narrow
  pub wides : vec_capacity old.wides ≤ vec_capacity new.wides
  pub filled : vec_capacity old.filled ≤ vec_capacity new.filled
