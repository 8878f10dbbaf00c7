-- A run, iteration by iteration. No public clause cites these.
use Rattle.std.specs.Prelude.{◌≡◌, ℕ, ◌-◌, ◌<◌, Option, None, Some, length, ℤ}
use Rattle.row_arena.specs.Arena.{row_at}
use Rattle.scaled_simplex.specs.declared.board.Board.{Board}
use Rattle.scaled_simplex.specs.declared.end.End.TheVariants.{Optimal}
use Rattle.scaled_simplex.specs.declared.ending.Ending.{Ending}
use Rattle.scaled_simplex.specs.Board.{IsBasic}
use Rattle.scaled_simplex.specs.BoardOf.{IsBoard, tableau_of}
use Rattle.scaled_simplex.specs.Derived.{IsDerived, IsLast}
use Rattle.scaled_simplex.specs.LastPoint.{IsBelow}
use Rattle.scaled_simplex.specs.Program.{Problem}
use Rattle.scaled_simplex.specs.Run.{Outcome, run_from}
use Rattle.scaled_simplex.specs.Tableau.{Tableau}

abbrev pub outcome_of : Board → Ending → Outcome
outcome_of board ending = record { end = ending.end; row = row_at board.arena.rows ending.row }

-- it is how the run ends from the tableau on, with so many pivots left
pub record IsTelling (problem : Problem) (cells : ℕ) (cutoff : Option ℤ) (left : ℕ)
    (tableau : Tableau) (board : Board) (ending : Ending) : Type 0 where
  pub outcome : outcome_of board ending ≡ run_from problem cells cutoff left tableau
  pub within : ending.row < length board.arena.rows
  pub last : ending.end ≡ Optimal → IsLast problem board × (ending.row ≡ length problem.constraints)
  pub below : ending.end ≡ Optimal → IsBelow problem cutoff (outcome_of board ending)

-- a pivot was made: the run goes on from the new tableau, with one pivot less
pub record IsOnward (problem : Problem) (cutoff : Option ℤ) (left : ℕ) (old new : Board)
    : Type 0 where
  pub some : 0 < left
  pub same : run_from problem old.arena.cells cutoff left (tableau_of old)
      ≡ run_from problem old.arena.cells cutoff (left - 1) (tableau_of new)
  pub board : IsBoard problem new
  pub basic : IsBasic problem (tableau_of new)
  pub derived : IsDerived problem new.arena.cells (tableau_of new)
  pub cells : new.arena.cells ≡ old.arena.cells

-- either of the two
abbrev pub IsStep : Problem → Option ℤ → ℕ → Board → Board → Option Ending → Type 0
IsStep problem cutoff left old new None = IsOnward problem cutoff left old new
IsStep problem cutoff left old new (Some ending) =
    IsTelling problem old.arena.cells cutoff left (tableau_of old) new ending
