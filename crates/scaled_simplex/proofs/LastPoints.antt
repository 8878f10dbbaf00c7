-- After Optimal there is a point that costs the run's value; the point in numbers is one.
use Rattle.std.proofs.Common.{◌≡◌, ℕ, ◌<◌, All, length, slice_index, slice_index_or, Option, None, Some, Result, Ok, Err, IfOk, ℤ, pos, ◌<ℤ◌, refl, sym, ap, subst, arith}
use Rattle.flow_types.specs.declared.memory.OutOfMemory.{OutOfMemory}
use Rattle.row_arena.specs.Arena.{row_at}
use Rattle.scaled_simplex.specs.declared.board.Board.{Board}
use Rattle.scaled_simplex.specs.declared.end.End.{End}
use Rattle.scaled_simplex.specs.declared.end.End.TheVariants.{Optimal}
use Rattle.scaled_simplex.specs.declared.fractions.Fractions.{Fractions}
use Rattle.scaled_simplex.specs.declared.fractions.Fractions.TheVariants.{Point, TooWide}
use Rattle.scaled_simplex.specs.declared.ending.Ending.{Ending}
use Rattle.scaled_simplex.specs.Board.{IsBasic}
use Rattle.scaled_simplex.specs.BoardOf.{tableau_of}
use Rattle.scaled_simplex.specs.Derived.{IsDerived, IsLast}
use Rattle.scaled_simplex.specs.Fractions.{AreFractions, AreWorth, HasPoint}
use Rattle.scaled_simplex.specs.LastPoint.{IsWorth}
use Rattle.scaled_simplex.specs.Program.{IsProblem, Problem}
use Rattle.scaled_simplex.specs.Run.{Outcome, cost_at, is_infeasible, last_row, leaving, right_at, weight_in}
use Rattle.scaled_simplex.specs.Solving.{IsRan, outcome_in}
use Rattle.scaled_simplex.specs.Tableau.{Tableau, right_side, weight_index}
use Rattle.scaled_simplex.proofs.Choices.{none_leaves}
use Rattle.scaled_simplex.proofs.HeldQuotients.{own_value, values_scaled}
use Rattle.scaled_simplex.proofs.HeldValues.{AreShares, has_shares, shares_low}
use Rattle.scaled_simplex.proofs.PointScales.{worth_scaled}
use Rattle.scaled_simplex.proofs.SolvedRows.{entry_of, numerator_of, point_is, point_worth}
use Rattle.scaled_simplex.proofs.SolverFacts.{weight_above}

module _ (problem : Problem) (valid : IsProblem problem) (tableau : Tableau)
    (basis_count : length tableau.basis ≡ length problem.constraints)
    (indices : All (λ index. index < right_side problem) tableau.basis)
    (basic : IsBasic problem tableau) (cells : ℕ) (derived : IsDerived problem cells tableau)
    (none : leaving problem tableau ≡ None)
    (positive : pos 0 <ℤ cost_at problem tableau (weight_index problem)) where
  inside : (k : ℕ) → k < length problem.constraints
      → slice_index tableau.basis k < right_side problem
  inside k small = indices k 0 (omega (arith, basis_count, small))

  abbrev ended : End → Outcome
  ended end = record { end = end; row = last_row problem tableau }

  abbrev AreHeld : (ℕ → ℤ) → ℤ → Type 0
  AreHeld share denominator =
      AreShares (entry_of tableau) (right_at problem tableau) (length problem.constraints) share
      denominator

  has : (share : ℕ → ℤ) × (denominator : ℤ) × AreHeld share denominator
  has = has_shares (entry_of tableau) (right_at problem tableau) (length problem.constraints)
      basic.own

  -- of a tableau in which no right side is negative
  held_worth : (end : End) (share : ℕ → ℤ) (denominator : ℤ) → AreHeld share denominator
      → IsWorth problem (ended end) (numerator_of problem tableau share) denominator
  held_worth end share denominator are =
      let low = shares_low (entry_of tableau) (right_at problem tableau)
      (length problem.constraints) share denominator are basic.own
      (none_leaves problem tableau none) in
      record {
        point = point_is problem tableau share denominator cells basic derived are valid positive
            inside low;
        worth = point_worth problem tableau share denominator cells basic derived are valid
            positive inside low;
      }

  pub tableau_point : (end : End) → HasPoint problem (ended end)
  tableau_point end = made has
    where
      made : (share : ℕ → ℤ) × (denominator : ℤ) × AreHeld share denominator
          → HasPoint problem (ended end)
      made held = record {
        tableau = tableau;
        last = record { cells = cells; reached = derived.reached; none = none };
        row = refl;
        numerator = numerator_of problem tableau held.0;
        denominator = held.1;
        values = λ column small. own_value problem tableau basic held.0 held.1 held.2 column;
        is = held_worth end held.0 held.1 held.2;
      }

  -- the point in numbers
  pub tableau_worth : (end : End) (fractions : Fractions)
      → AreFractions problem tableau fractions → AreWorth problem (ended end) fractions
  tableau_worth end (TooWide count multiple) are = tt
  tableau_worth end (Point numerators denominator) are = made has
    where
      made : (share : ℕ → ℤ) × (e : ℤ) × AreHeld share e
          → AreWorth problem (ended end) (Point numerators denominator)
      made held =
          worth_scaled problem valid denominator held.1
          (λ column. slice_index_or numerators column (pos 0))
          (numerator_of problem tableau held.0) are.positive
          (λ k small. values_scaled problem tableau basic held.0 held.1 held.2 k denominator
          (slice_index_or numerators k (pos 0)) (are.are.each k small))
          (ended end) (held_worth end held.0 held.1 held.2)

module _ (problem : Problem) (board : Board) (ending : Ending)
    (is : IsRan problem (Some board) ending) (optimal : ending.end ≡ Optimal) where
  last : IsLast problem board
  last = (is.last optimal).0

  -- the row that tells is the cost row
  by_costs : (P : Outcome → Type 0)
      → P (record { end = ending.end; row = last_row problem (tableau_of board) })
      → P (outcome_in problem (Some board) ending)
  by_costs P holds =
      subst (λ n. P (record { end = ending.end; row = row_at board.arena.rows n }))
      (sym (is.last optimal).1) holds

  above : pos 0 <ℤ cost_at problem (tableau_of board) (weight_index problem)
  above =
      subst (λ n. pos 0 <ℤ weight_in problem
      (record { end = ending.end; row = row_at board.arena.rows n })) (is.last optimal).1
      (weight_above problem (outcome_in problem (Some board) ending) is.justified
      (ap is_infeasible optimal))

  board_point : HasPoint problem (outcome_in problem (Some board) ending)
  board_point =
      by_costs (HasPoint problem)
      (tableau_point problem is.valid (tableau_of board) last.board_is.basis
      last.board_is.indices last.basic board.arena.cells last.derived last.none above ending.end)

  board_worth : (fractions : Fractions) → AreFractions problem (tableau_of board) fractions
      → AreWorth problem (outcome_in problem (Some board) ending) fractions
  board_worth fractions are =
      by_costs (λ outcome. AreWorth problem outcome fractions)
      (tableau_worth problem is.valid (tableau_of board) last.board_is.basis
      last.board_is.indices last.basic board.arena.cells last.derived last.none above ending.end
      fractions are)

-- of a run that ended so
pub ran_point : (problem : Problem) (board : Option Board) (ending : Ending)
    → IsRan problem board ending → ending.end ≡ Optimal
    → HasPoint problem (outcome_in problem board ending)
ran_point problem None ending is optimal = absurd (is.last optimal)
ran_point problem (Some board) ending is optimal = board_point problem board ending is optimal

pub ran_worth : (problem : Problem) (held : Option Board) (ending : Ending) (board : Board)
    (result : Result Fractions OutOfMemory) → held ≡ Some board → IsRan problem held ending
    → ending.end ≡ Optimal → IfOk result (AreFractions problem (tableau_of board))
    → IfOk result (AreWorth problem (outcome_in problem held ending))
ran_worth problem held ending board (Err fault) there is optimal are = tt
ran_worth problem held ending board (Ok fractions) there is optimal are =
    subst (λ h. AreWorth problem (outcome_in problem h ending) fractions) (sym there)
    (board_worth problem board ending (subst (λ h. IsRan problem h ending) there is) optimal
    fractions
    are)
