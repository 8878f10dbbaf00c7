-- What the trips in a unit box cost, one flight after another.
use Rattle.std.specs.Prelude.{◌≡◌, ℕ, ◌*◌, List, [], ◌∷◌, ◌++◌, length, Option, None, Some, slice_get, ℤ}
use Rattle.flow_types.specs.Limits.{most_trip_cost}
use Rattle.flow_types.specs.declared.bound.Bound.TheVariants.{NoPlan}
use Rattle.flow_types.specs.declared.parts.Parts.{Parts}
use Rattle.flow_types.specs.declared.plan.Stop.{Stop}
use Rattle.flow_types.specs.Costs.{plan_cost, trip_cost_at}
use Rattle.plan_rules.specs.Tally.{Tally}
use Rattle.plan_rules.specs.Loads.{AreLoads}
use Rattle.time_windows.specs.Boxes.{Box}
use Rattle.flight_routes.specs.Fits.{IsTripThatFits}
use Rattle.greedy_plan.specs.FirstBound.{IsLeastSum}
use Rattle.exact_sums.specs.Near.{IsNear}
use Rattle.greedy_plan.specs.Greedy.{AreChosen, IsChosen, with_rest}
use Rattle.dual_leaf.specs.Leaf.{IsCostIn}

-- a trip of the next flight, which is counted now, and what it costs
pub record IsNextTrip (parts : Parts) (box : Box) (trips : List (List Stop)) (number : ℕ)
    (loads : Tally) (cost : ℤ) : Type 0 where
  pub trip : List Stop
  pub chosen : IsChosen parts box trips number trip
  pub loads_are : AreLoads parts (with_rest parts.flights (trips ++ trip ∷ [])) loads
  pub cost_is : trip_cost_at parts.tables (slice_get parts.flights number) trip ≡ cost

-- where there is one that fits beside these
abbrev pub IsNext : Parts → Box → List (List Stop) → ℕ → Tally → Option ℤ → Type 0
IsNext parts box trips number loads None = (stops : List Stop)
    → IsTripThatFits parts box (with_rest parts.flights trips) number stops → ⊥
IsNext parts box trips number loads (Some cost) = IsNextTrip parts box trips number loads cost

-- the trips of the first flights, what they cost, and how far from zero that may be
pub record IsSumOf (parts : Parts) (box : Box) (count : ℕ) (loads : Tally)
    (sum : ℤ) : Type 0 where
  pub trips : List (List Stop)
  pub count_is : length trips ≡ count
  pub chosen : AreChosen parts box trips
  pub loads_are : AreLoads parts (with_rest parts.flights trips) loads
  pub sum_is : plan_cost parts.tables parts.flights trips ≡ sum
  pub least : IsLeastSum parts box count sum
  pub near : IsNear (count * most_trip_cost) sum

-- what the first so many flights cost at the least is this sum, or there is no plan
abbrev pub IsSoFar : Parts → Box → ℕ → Tally → Option ℤ → Type 0
IsSoFar parts box count loads None = IsCostIn parts box NoPlan
IsSoFar parts box count loads (Some sum) = IsSumOf parts box count loads sum
