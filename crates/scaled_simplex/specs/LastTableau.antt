-- The last tableau of a run that ended Optimal: that in which no row leaves. It hangs on the
-- program alone; pivots and room say how far a run comes, and a cutoff whether it stops before.
use Rattle.std.specs.Prelude.{◌≡◌, ℕ, zero, suc, List, set, Option, None, Some, Result, Ok, Err}
use Rattle.row_arena.specs.declared.entry.Entry.{Entry}
use Rattle.row_arena.specs.declared.wide.Wide.{Wide}
use Rattle.scaled_simplex.specs.declared.iteration.Iteration.{Iteration}
use Rattle.scaled_simplex.specs.declared.iteration.Iteration.TheVariants.{Ends, Pivots}
use Rattle.scaled_simplex.specs.Program.{Problem}
use Rattle.scaled_simplex.specs.Run.{leaving, pivoted, iteration_of}
use Rattle.scaled_simplex.specs.Tableau.{Tableau, first_tableau}

module _ (problem : Problem) (cells : ℕ) where
  abbrev pub tableau_pivoted : Tableau → ℕ → ℕ → Result (List (List Entry)) Wide → Option Tableau
  tableau_pivoted tableau leaves enters (Err wide) = None
  tableau_pivoted tableau leaves enters (Ok rows) =
      Some (record { rows = rows; basis = set tableau.basis leaves enters })

  abbrev pub tableau_iterated : Tableau → Iteration → Option Tableau
  tableau_iterated tableau (Ends end row) = None
  tableau_iterated tableau (Pivots leaves enters) =
      tableau_pivoted tableau leaves enters (pivoted problem cells tableau leaves enters)

  abbrev pub tableau_next : Option Tableau → Option Tableau
  tableau_next None = None
  tableau_next (Some tableau) = tableau_iterated tableau (iteration_of problem None tableau)

  -- the tableau after so many pivots, in room for so many entries
  abbrev pub tableau_after : ℕ → Option Tableau
  tableau_after zero = Some (first_tableau problem)
  tableau_after (suc pivots) = tableau_next (tableau_after pivots)

-- so many pivots lead to it
pub record IsReached (problem : Problem) (cells : ℕ) (tableau : Tableau) : Type 0 where
  pub pivots : ℕ
  pub is : tableau_after problem cells pivots ≡ Some tableau

-- a tableau that pivots lead to, and of which no row leaves
pub record IsLastTableau (problem : Problem) (tableau : Tableau) : Type 0 where
  pub cells : ℕ
  pub reached : IsReached problem cells tableau
  pub none : leaving problem tableau ≡ None
