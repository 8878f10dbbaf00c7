use Rattle.presolve.proofs.PointLaws.{costs_alike, relaxation_point}
use Rattle.presolve.proofs.laws.program_points_are_points.Goals as goal

pub returns-clause-point : goal.returns-clause-point
returns-clause-point c =
    λ parts pool box numerator denominator scenario cuts made tight point.
    relaxation_point parts pool box scenario cuts made tight numerator denominator point

pub returns-clause-cost : goal.returns-clause-cost
returns-clause-cost c =
    λ parts pool box numerator denominator scenario cuts made tight.
    costs_alike parts pool box scenario cuts made tight numerator denominator
