-- A run from the first tableau on.
use Rattle.std.proofs.Common.{◌≡◌, ℕ, false, Option, Some, None, ℤ, pos, ◌<ℤ◌, sym, subst}
use Rattle.scaled_simplex.specs.declared.board.Board.{Board}
use Rattle.scaled_simplex.specs.declared.end.End.TheVariants.{Optimal, Wide}
use Rattle.scaled_simplex.specs.declared.ending.Ending.{Ending}
use Rattle.scaled_simplex.specs.Board.{IsBasic}
use Rattle.scaled_simplex.specs.BoardOf.{tableau_of}
use Rattle.scaled_simplex.specs.Derived.{IsDerived}
use Rattle.scaled_simplex.specs.Multipliers.{IsJustified}
use Rattle.scaled_simplex.specs.Program.{Problem}
use Rattle.scaled_simplex.specs.Run.{Outcome, is_infeasible, weight_in}
use Rattle.scaled_simplex.specs.Solving.{IsFirst, IsRan, IsSolver}
use Rattle.scaled_simplex.specs.Steps.{IsTelling}
use Rattle.scaled_simplex.proofs.BasicRows.{first_basic}
use Rattle.scaled_simplex.proofs.DerivedRows.{first_derived}
use Rattle.scaled_simplex.proofs.FirstTableau.{first_lawful}
use Rattle.scaled_simplex.proofs.Lawful.{IsLawful}
use Rattle.scaled_simplex.proofs.RunLaw.{bare_tells, run_from_tells}

module _ (problem : Problem) (cells : ℕ) (held : Option Board) (is : IsSolver problem cells held)
  where
    -- without a tableau
    pub bare_ran : (row : ℕ) → IsRan problem None (record { end = Wide; row = row })
    bare_ran row = record {
      valid = is.valid;
      within = tt;
      justified = bare_tells problem is.valid;
      last = λ e. let wide : Wide ≡ Optimal = e in cc;
    }

    module _ (board : Board) (there : held ≡ Some board) where
      first : IsFirst problem cells (Some board)
      first = subst (IsFirst problem cells) there is.first

      pub first_is_basic : IsBasic problem (tableau_of board)
      first_is_basic = subst (IsBasic problem) (sym first.1) (first_basic problem is.valid)

      pub first_is_derived : IsDerived problem board.arena.cells (tableau_of board)
      first_is_derived =
          subst (IsDerived problem board.arena.cells) (sym first.1)
          (first_derived problem board.arena.cells is.valid)

      first_is_lawful : IsLawful problem (tableau_of board)
      first_is_lawful = subst (IsLawful problem) (sym first.1) (first_lawful problem is.valid)

      -- with one, as the run has it then
      pub ran : (pivots : ℕ) (cutoff : Option ℤ) (new : Board) (ending : Ending)
          → IsTelling problem board.arena.cells cutoff pivots (tableau_of board) new ending
          → IsRan problem (Some new) ending
      ran pivots cutoff new ending telling = record {
        valid = is.valid;
        within = telling.within;
        justified = subst (IsJustified problem) (sym telling.outcome)
            (run_from_tells problem board.arena.cells cutoff pivots (tableau_of board)
            first_is_lawful);
        last = telling.last;
      }

-- the weight, where the run didn't end Infeasible
pub weight_above : (problem : Problem) (outcome : Outcome) → IsJustified problem outcome
    → is_infeasible outcome.end ≡ false → pos 0 <ℤ weight_in problem outcome
weight_above problem outcome told isnt = (told.bound isnt).weight
