-- What a run that ended Optimal tells besides its bound: a point that costs the run's value, and
-- that this is less than the cutoff.
use Rattle.std.specs.Prelude.{◌≡◌, ℕ, Option, None, Some, ℤ, pos, ◌-ℤ◌, ◌*ℤ◌, ◌≤ℤ◌}
use Rattle.scaled_simplex.specs.Points.{IsProgramPoint, point_cost}
use Rattle.scaled_simplex.specs.Program.{Problem}
use Rattle.scaled_simplex.specs.Run.{Outcome, value_in, weight_in}

-- a point of the program that costs the run's value
pub record IsWorth (problem : Problem) (outcome : Outcome) (numerator : ℕ → ℤ) (denominator : ℤ)
    : Type 0 where
  pub point : IsProgramPoint problem numerator denominator
  pub worth : point_cost problem numerator denominator *ℤ weight_in problem outcome
      ≡ value_in problem outcome *ℤ denominator

-- the value, rounded up, is less than the cutoff
abbrev pub IsBelow : Problem → Option ℤ → Outcome → Type 0
IsBelow problem None outcome = Unit {0}
IsBelow problem (Some cutoff) outcome =
    value_in problem outcome ≤ℤ ((cutoff -ℤ pos 1) *ℤ weight_in problem outcome)
