-- The best of so many rounds: the prices whose bound is the greatest.
use Rattle.std.specs.Prelude.{◌≡◌, ℕ, ◌≤◌, List, ℤ}
use Rattle.flow_types.specs.declared.bound.Bound.{Bound}
use Rattle.flow_types.specs.Bounds.{IsAtMost}
use Rattle.flow_types.specs.declared.parts.Parts.{Parts}
use Rattle.flow_types.specs.declared.plan.Stop.{Stop}
use Rattle.flow_types.specs.Costs.{plan_cost}
use Rattle.flight_routes.specs.Prices.{PriceTable}
use Rattle.time_windows.specs.Boxes.{Box}
use Rattle.time_windows.specs.Plans.{IsPlanIn}
use Rattle.lagrange_bound.specs.Rounds.{IsRoundBound, IsRoundTable}

-- the prices after one of so many rounds
pub record IsOneOfRounds (parts : Parts) (box : Box) (rounds : ℕ) (table : PriceTable)
    : Type 0 where
  pub round : ℕ
  pub within : round ≤ rounds
  pub after : IsRoundTable parts box round table

-- each round up to this one tells a bound
abbrev pub HaveBounds : Parts → Box → ℕ → Type 0
HaveBounds parts box rounds =
    (round : ℕ) → round ≤ rounds → (bound : Bound) × IsRoundBound parts box round bound

-- and none a greater one
pub record IsMostOfRounds (parts : Parts) (box : Box) (rounds : ℕ) (most : Bound)
    : Type 0 where
  pub told : HaveBounds parts box rounds
  pub no_more : (round : ℕ) (bound : Bound) → round ≤ rounds → IsRoundBound parts box round bound
      → IsAtMost bound most

-- a plan in the box that keeps every rule costs so much
pub record HasPlanAt (parts : Parts) (box : Box) (cost : ℤ) : Type 0 where
  pub plan : List (List Stop)
  pub inside : IsPlanIn parts box plan
  pub costs : plan_cost parts.tables parts.flights plan ≡ cost
