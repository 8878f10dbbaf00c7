-- The bound that the value of prices tells.
use Rattle.std.specs.Prelude.{ℕ, Option, None, Some, ℤ, pos, ◌*ℤ◌, ◌≤ℤ◌}
use Rattle.flow_types.specs.declared.bound.Bound.{Bound}
use Rattle.flow_types.specs.declared.bound.Bound.TheVariants.{AtLeast, NoPlan}
use Rattle.flow_types.specs.declared.parts.Parts.{Parts}
use Rattle.flight_routes.specs.Prices.{PriceTable}
use Rattle.time_windows.specs.Boxes.{Box}
use Rattle.priced_plans.specs.Values.{IsPricedValue}
use Rattle.priced_plans.specs.Valuing.{LacksTrip}

-- the value divided by the weight and rounded up: the least number that is no less
pub record IsRoundedUp (value : ℤ) (weight : ℕ) (least : ℤ) : Type 0 where
  pub reached : value ≤ℤ (least *ℤ pos weight)
  pub below : (c : ℤ) → value ≤ℤ (c *ℤ pos weight) → least ≤ℤ c

-- what a value tells: NoPlan where there is none, else that, rounded up so
abbrev pub IsBoundOf : ℕ → Option ℤ → Bound → Type 0
IsBoundOf weight None NoPlan = Unit {0}
IsBoundOf weight None (AtLeast least) = ⊥
IsBoundOf weight (Some value) NoPlan = ⊥
IsBoundOf weight (Some value) (AtLeast least) = IsRoundedUp value weight least

-- NoPlan where a flight has no trip in the box, else the value of the prices, rounded up so
abbrev pub IsPricedBound : Parts → Box → ℕ → PriceTable → Bound → Type 0
IsPricedBound parts box weight table NoPlan = LacksTrip parts box
IsPricedBound parts box weight table (AtLeast least) =
    (value : ℤ) × IsPricedValue parts box weight table value × IsRoundedUp value weight least
