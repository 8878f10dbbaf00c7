-- Least trips that are taken flight by flight, and counted.
use Rattle.std.specs.Prelude.{◌≡◌, ◌≤◌, ◌<◌, ◌*◌, ◌^◌, ℕ, List, [], length, Option, None, Some, slice_get, ℤ}
use Rattle.flow_types.specs.declared.parts.Parts.{Parts}
use Rattle.flow_types.specs.declared.plan.Stop.{Stop}
use Rattle.flight_routes.specs.Prices.{PriceTable}
use Rattle.exact_sums.specs.Near.{IsNear}
use Rattle.plan_rules.specs.Tally.{Tally}
use Rattle.plan_rules.specs.Loads.{AreLoads}
use Rattle.time_windows.specs.Boxes.{Box}
use Rattle.priced_plans.specs.Values.{IsPricedSum}
use Rattle.priced_plans.specs.Valuing.{LacksTrip}
use Rattle.lagrange_bound.specs.Rounds.{IsLeastTrip, cost_weight}

-- the first flights, so many, have their least trips, and the others none
pub record AreTaken (parts : Parts) (box : Box) (table : PriceTable) (number : ℕ) (loads : Tally)
    (trips : List (List Stop)) : Type 0 where
  pub counted : AreLoads parts trips loads
  pub taken : (k : ℕ) (trip : List Stop) → k < number → slice_get trips k ≡ Some trip
      → IsLeastTrip parts box table k trip
  pub rest : (k : ℕ) → number ≤ k → k < length parts.flights → slice_get trips k ≡ Some []

abbrev pub HaveTaken : Parts → Box → PriceTable → ℕ → Tally → Type 0
HaveTaken parts box table number loads =
    (trips : List (List Stop)) × AreTaken parts box table number loads trips

-- what these trips cost with their prices, and that their sum has room
pub record IsSumOf (parts : Parts) (box : Box) (table : PriceTable) (number : ℕ) (loads : Tally)
    (sum : ℤ) : Type 0 where
  pub trips : HaveTaken parts box table number loads
  pub priced : IsPricedSum parts box cost_weight table number sum
  pub near : IsNear (number * 2 ^ 84) sum

-- nothing once a flight has no trip
abbrev pub IsTakenSum : Parts → Box → PriceTable → ℕ → Tally → Option ℤ → Type 0
IsTakenSum parts box table number loads None = LacksTrip parts box
IsTakenSum parts box table number loads (Some sum) = IsSumOf parts box table number loads sum
