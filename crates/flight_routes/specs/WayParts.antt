-- The parts of what the ways of a flight go by.
use Rattle.std.specs.Prelude.{ℕ, List, Option, ℤ}
use Rattle.flow_types.specs.declared.plan.Stop.{Stop}
use Rattle.time_windows.specs.declared.access.Access.{Access}
use Rattle.flight_routes.specs.declared.ways.Ways.{Ways}
use Rattle.flight_routes.specs.RateLists.{rates_of}
use Rattle.flight_routes.specs.Rates.{IsWay, Rates, whole_cost}
use Rattle.flight_routes.specs.Ready.{AreRising, row_of}
use Rattle.flight_routes.specs.Ways.{AreCells}

-- what the box says of a node
abbrev pub row_in : Ways → ℕ → Access
row_in ways = row_of ways.accesses.now

-- what the flight pays
abbrev pub rates_in : Ways → Rates
rates_in ways = rates_of ways.rates.now

-- the ways of the flight, and what one costs
abbrev pub IsWayIn : Ways → List Stop → Type 0
IsWayIn ways = IsWay ways.flight.now (row_in ways) (rates_in ways)

abbrev pub cost_in : Ways → List Stop → ℤ
cost_in ways = whole_cost (rates_in ways)

-- every cell of a window, from a node on, is the least cost of the ways on from its stop
abbrev pub AreCellsIn : Ways → ℕ → List (Option ℤ) → Type 0
AreCellsIn ways = AreCells ways.flight.now (row_in ways) (rates_in ways)

-- being at a node costs more the longer it is
abbrev pub AreRisingIn : Ways → Type 0
AreRisingIn ways = AreRising ways.flight.now ways.rates.now.span (rates_in ways)
