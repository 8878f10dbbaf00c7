-- What the end of a run tells, and the leaf that it gives. No public clause cites these.
use Rattle.std.specs.Prelude.{◌≡◌, ◌≤◌, List, All, Option, ℤ, nat_abs}
use Rattle.row_arena.specs.Rows.{most_entry}
use Rattle.scaled_simplex.specs.declared.solver.Weights.{Weights}
use Rattle.scaled_simplex.specs.declared.end.End.TheVariants.{Optimal}
use Rattle.scaled_simplex.specs.Fractions.{HasPoint}
use Rattle.scaled_simplex.specs.LastPoint.{IsBelow}
use Rattle.scaled_simplex.specs.Multipliers.{IsJustified, multipliers_of}
use Rattle.scaled_simplex.specs.Program.{IsProblem, Problem}
use Rattle.scaled_simplex.specs.Run.{Outcome, weight_in}
use Rattle.bytime_model.specs.declared.names.RowName.{RowName}
use Rattle.branch_tree.specs.declared.leaf.Leaf.{Leaf}
use Rattle.branch_tree.specs.Leaves.{IsInRange}
use Rattle.relaxed_bound.specs.Relaxed.{told_leaf}

-- after Optimal there is a point of the program that costs the value, which is below the cutoff
abbrev pub IsWorthOf : Problem → Option ℤ → Outcome → Type 0
IsWorthOf problem cutoff outcome =
    outcome.end ≡ Optimal → HasPoint problem outcome × IsBelow problem cutoff outcome

-- the weight and the multipliers of an outcome, none of them far from 0, and what they tell
pub record AreWeights (problem : Problem) (cutoff : Option ℤ) (outcome : Outcome)
    (weights : Weights) : Type 0 where
  pub weight : weights.weight ≡ weight_in problem outcome
  pub rows : weights.rows ≡ multipliers_of problem outcome
  pub near : nat_abs weights.weight ≤ most_entry
  pub rows_near : All (λ multiplier. nat_abs multiplier ≤ most_entry) weights.rows
  pub valid : IsProblem problem
  pub justified : IsJustified problem outcome
  pub worth : IsWorthOf problem cutoff outcome

-- what a run of a program gives, whose first rows have these names
pub record IsRunLeaf (problem : Problem) (names : List RowName) (cutoff : Option ℤ)
    (outcome : Outcome) (leaf : Leaf) : Type 0 where
  pub is : leaf ≡ told_leaf names (weight_in problem outcome) (multipliers_of problem outcome)
  pub range : IsInRange leaf
  pub justified : IsJustified problem outcome
  pub worth : IsWorthOf problem cutoff outcome
