-- Programs that grow.
use Rattle.std.proofs.Common.{◌+◌, ◌<◌, [], ◌∷◌, ◌++◌, length, arith}
use Rattle.std.proofs.lemmas.List.{length_push}
use Rattle.std.proofs.lemmas.List.Elements.{All-push}
use Rattle.scaled_simplex.specs.Program.{Constraint, IsConstraint, IsProblem, Problem, columns, most_indices}

-- one constraint more
pub problem_more : (problem : Problem) (constraint : Constraint) → IsProblem problem
    → IsConstraint (columns problem) constraint
    → columns problem + length problem.constraints < most_indices
    → IsProblem (record {
      costs = problem.costs;
      constant = problem.constant;
      constraints = problem.constraints ++ constraint ∷ [];
    })
problem_more problem constraint is more few = record {
  costs = is.costs;
  constant = is.constant;
  constraints = All-push (IsConstraint (columns problem)) problem.constraints constraint
      is.constraints more;
  few = omega (arith, few, length_push problem.constraints constraint);
}
