-- What multipliers of the constraints tell of a program: with a weight of the cost, that no values
-- of the columns that are 0 or more and keep the constraints cost less than a value.
use Rattle.std.specs.Prelude.{◌≡◌, ℕ, ◌<◌, false, true, List, [], ◌∷◌, length, map, slice_index_or, All, ℤ, pos, neg_ℤ, ◌+ℤ◌, ◌-ℤ◌, ◌*ℤ◌, ◌≤ℤ◌, ◌<ℤ◌}
use Rattle.std.specs.List.{range_with_len}
use Rattle.row_arena.specs.Rows.{entry_at}
use Rattle.scaled_simplex.specs.Program.{Constraint, Problem, columns}
use Rattle.scaled_simplex.specs.Run.{Outcome, is_infeasible, multiplier_in, value_in, weight_in}

-- a number of each constraint, times its multiplier, added up
abbrev pub weighted : (Constraint → ℤ) → List ℤ → List Constraint → ℤ
weighted part [] constraints = pos 0
weighted part (multiplier ∷ multipliers) [] = pos 0
weighted part (multiplier ∷ multipliers) (constraint ∷ constraints) =
    (multiplier *ℤ part constraint) +ℤ weighted part multipliers constraints

-- a multiplier of 0 or more for each constraint; the weighted cost of each column, with what the
-- constraints add to it, is 0 or more; and the weighted constant, less the weighted limits, is the
-- value
pub record AreMultipliers (problem : Problem) (weight : ℤ) (multipliers : List ℤ) (value : ℤ)
    : Type 0 where
  pub count : length multipliers ≡ length problem.constraints
  pub signs : All (λ multiplier. pos 0 ≤ℤ multiplier) multipliers
  pub columns : (column : ℕ) → column < columns problem
      → pos 0 ≤ℤ ((weight *ℤ slice_index_or problem.costs column (pos 0))
      +ℤ weighted (λ constraint. entry_at constraint.terms column) multipliers problem.constraints)
  pub worth : ((weight *ℤ problem.constant)
      -ℤ weighted (λ constraint. constraint.limit) multipliers problem.constraints) ≡ value

abbrev pub multipliers_of : Problem → Outcome → List ℤ
multipliers_of problem outcome =
    map (multiplier_in problem outcome) (range_with_len 0 (length problem.constraints))

-- a weight above 0, and the value of the tableau
pub record AreBound (problem : Problem) (outcome : Outcome) : Type 0 where
  pub weight : pos 0 <ℤ weight_in problem outcome
  pub multipliers : AreMultipliers problem (weight_in problem outcome)
      (multipliers_of problem outcome) (value_in problem outcome)

-- no weight, and a value above 0: no values of the columns keep the constraints
pub record AreRefutation (problem : Problem) (outcome : Outcome) : Type 0 where
  pub weight : weight_in problem outcome ≡ pos 0
  pub multipliers : AreMultipliers problem (pos 0) (multipliers_of problem outcome)
      (neg_ℤ (value_in problem outcome))
  pub positive : pos 0 <ℤ neg_ℤ (value_in problem outcome)

-- a run's end is justified: by a bound, and after Infeasible by a refutation
pub record IsJustified (problem : Problem) (outcome : Outcome) : Type 0 where
  pub bound : is_infeasible outcome.end ≡ false → AreBound problem outcome
  pub refutation : is_infeasible outcome.end ≡ true → AreRefutation problem outcome
