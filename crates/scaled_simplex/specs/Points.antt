-- Points of a program: for each column a value of 0 or more, as a fraction, such that every
-- constraint is kept. All are over one denominator, so that a point is a numerator for each column.
use Rattle.std.specs.Prelude.{ℕ, ◌+◌, ◌<◌, List, [], ◌∷◌, All, ℤ, pos, ◌+ℤ◌, ◌*ℤ◌, ◌≤ℤ◌, ◌<ℤ◌}
use Rattle.exact_sums.specs.Sums.{total}
use Rattle.row_arena.specs.declared.entry.Entry.{Entry}
use Rattle.scaled_simplex.specs.Program.{Constraint, Problem, columns}

-- terms at these values of the columns
abbrev pub terms_at : List Entry → (ℕ → ℤ) → ℤ
terms_at terms numerator = total (λ term. term.value *ℤ numerator term.column) terms

abbrev pub ConstraintHolds : (ℕ → ℤ) → ℤ → Constraint → Type 0
ConstraintHolds numerator denominator constraint =
    terms_at constraint.terms numerator ≤ℤ (constraint.limit *ℤ denominator)

pub record IsProgramPoint (problem : Problem) (numerator : ℕ → ℤ) (denominator : ℤ) : Type 0 where
  pub positive : pos 0 <ℤ denominator
  pub least : (column : ℕ) → column < columns problem → pos 0 ≤ℤ numerator column
  pub kept : All (ConstraintHolds numerator denominator) problem.constraints

-- what the columns cost, from one on
abbrev pub costs_at : (ℕ → ℤ) → ℕ → List ℤ → ℤ
costs_at numerator column [] = pos 0
costs_at numerator column (cost ∷ costs) =
    (cost *ℤ numerator column) +ℤ costs_at numerator (column + 1) costs

-- what the point costs, over the denominator
abbrev pub point_cost : Problem → (ℕ → ℤ) → ℤ → ℤ
point_cost problem numerator denominator =
    (problem.constant *ℤ denominator) +ℤ costs_at numerator 0 problem.costs
