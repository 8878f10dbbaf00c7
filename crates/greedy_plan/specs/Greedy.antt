-- The greedy plan: in the order of the flights, each takes the cheapest trip in the box that fits
-- beside those before it, and of several the first.
use Rattle.std.specs.Prelude.{◌≡◌, ℕ, ◌+◌, ◌<◌, List, [], ◌∷◌, length, take, Some, slice_get}
use Rattle.exact_sums.specs.Leasts.{IsFirstLeast}
use Rattle.flow_types.specs.declared.flight.Flight.{Flight}
use Rattle.flow_types.specs.declared.parts.Parts.{Parts}
use Rattle.flow_types.specs.declared.plan.Stop.{Stop}
use Rattle.flow_types.specs.Costs.{trip_cost_at}
use Rattle.flight_routes.specs.Fits.{IsTripThatFits}
use Rattle.flight_routes.specs.TripOrder.{IsNoLater}
use Rattle.plan_rules.specs.Tally.{Tally}
use Rattle.plan_rules.specs.Loads.{AreLoads}
use Rattle.time_windows.specs.Boxes.{Box}
use Rattle.greedy_plan.specs.declared.first.Greedy.{Greedy}
use Rattle.greedy_plan.specs.declared.first.Greedy.TheVariants.{Plan, Stuck}

-- these trips, and no stops for the flights after them
abbrev pub with_rest : List Flight → List (List Stop) → List (List Stop)
with_rest [] trips = []
with_rest (flight ∷ flights) [] = [] ∷ with_rest flights []
with_rest (flight ∷ flights) (trip ∷ trips) = trip ∷ with_rest flights trips

-- the first of the cheapest trips of the flight that fit beside those of the flights before it
abbrev pub IsChosen : Parts → Box → List (List Stop) → ℕ → List Stop → Type 0
IsChosen parts box before number stops =
    IsFirstLeast (IsTripThatFits parts box (with_rest parts.flights before) number)
    (trip_cost_at parts.tables (slice_get parts.flights number)) IsNoLater stops

-- every trip is chosen beside those before it
abbrev pub AreChosen : Parts → Box → List (List Stop) → Type 0
AreChosen parts box trips = (number : ℕ) (trip : List Stop) → slice_get trips number ≡ Some trip
    → IsChosen parts box (take number trips) number trip

-- the greedy plan has a trip for each flight
pub record IsGreedy (parts : Parts) (box : Box) (plan : List (List Stop)) : Type 0 where
  pub chosen : AreChosen parts box plan
  pub whole : length plan ≡ length parts.flights

-- the greedy plan is stuck at the first flight of which no trip fits
pub record IsStuck (parts : Parts) (box : Box) (kept : List (List Stop))
    (number : ℕ) : Type 0 where
  pub chosen : AreChosen parts box kept
  pub count : length kept ≡ number
  pub within : number < length parts.flights
  pub none : (stops : List Stop)
      → IsTripThatFits parts box (with_rest parts.flights kept) number stops → ⊥

abbrev pub IsGreedyAnswer : Parts → Box → Greedy → Type 0
IsGreedyAnswer parts box (Plan plan) = IsGreedy parts box plan
IsGreedyAnswer parts box (Stuck kept flight) = IsStuck parts box kept flight

-- what holds of the plan, if there is one
abbrev pub IfPlanned : Greedy → (List (List Stop) → Type 0) → Type 0
IfPlanned (Plan plan) P = P plan
IfPlanned (Stuck kept flight) P = Unit {0}

-- one trip more is chosen, and counted
pub record IsOneMore (parts : Parts) (box : Box) (old new : List (List Stop))
    (loads : Tally) : Type 0 where
  pub chosen : AreChosen parts box old → AreChosen parts box new
  pub count : length new ≡ length old + 1
  pub loads_are : AreLoads parts (with_rest parts.flights new) loads
