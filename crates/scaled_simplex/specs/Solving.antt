-- Solvers and runs, as callers see them.
use Rattle.std.specs.Prelude.{◌≡◌, ℕ, ◌<◌, ◌≤◌, Option, None, Some, length}
use Rattle.row_arena.specs.Arena.{live, row_at}
use Rattle.scaled_simplex.specs.declared.board.Board.{Board}
use Rattle.scaled_simplex.specs.declared.end.End.TheVariants.{Optimal}
use Rattle.scaled_simplex.specs.declared.ending.Ending.{Ending}
use Rattle.scaled_simplex.specs.BoardOf.{IsBoard, tableau_of}
use Rattle.scaled_simplex.specs.Derived.{IsLast}
use Rattle.scaled_simplex.specs.Multipliers.{IsJustified}
use Rattle.scaled_simplex.specs.Program.{IsProblem, Problem}
use Rattle.scaled_simplex.specs.Run.{Outcome}
use Rattle.scaled_simplex.specs.Tableau.{bare_row, first_tableau}

-- a program, and room for so many entries
pub record Solving : Type 0 where
  pub problem : Problem
  pub cells : ℕ

-- the first tableau, unless it has no room
abbrev pub IsFirst : Problem → ℕ → Option Board → Type 0
IsFirst problem cells None = cells < live (first_tableau problem).rows
IsFirst problem cells (Some board) =
    IsBoard problem board × (tableau_of board ≡ first_tableau problem)
    × (board.arena.cells ≡ cells) × (live (first_tableau problem).rows ≤ cells)

pub record IsSolver (problem : Problem) (cells : ℕ) (board : Option Board) : Type 0 where
  pub valid : IsProblem problem
  pub first : IsFirst problem cells board

-- a program, and how a run of it ended
pub record Ran : Type 0 where
  pub problem : Problem
  pub outcome : Outcome

-- the row that tells: without a tableau, that of all columns at 0
abbrev pub outcome_in : Problem → Option Board → Ending → Outcome
outcome_in problem None ending = record { end = ending.end; row = bare_row problem }
outcome_in problem (Some board) ending = record {
  end = ending.end;
  row = row_at board.arena.rows ending.row;
}

abbrev pub IsWithin : Option Board → Ending → Type 0
IsWithin None ending = Unit {0}
IsWithin (Some board) ending = ending.row < length board.arena.rows

-- the tableau that is kept after Optimal is the last one
abbrev pub IsEnded : Problem → Option Board → Ending → Type 0
IsEnded problem None ending = ending.end ≡ Optimal → ⊥
IsEnded problem (Some board) ending =
    ending.end ≡ Optimal → IsLast problem board × (ending.row ≡ length problem.constraints)

pub record IsRan (problem : Problem) (board : Option Board) (ending : Ending) : Type 0 where
  pub valid : IsProblem problem
  pub within : IsWithin board ending
  pub justified : IsJustified problem (outcome_in problem board ending)
  pub last : IsEnded problem board ending
