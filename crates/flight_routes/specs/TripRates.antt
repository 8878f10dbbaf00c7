-- The rates at which a way costs what its trip costs, weighted, with what it pays.
use Rattle.std.specs.Prelude.{◌≡◌, ℕ, ◌+◌, ◌-◌, ◌<◌, ◌≤◌, length, Some, ℤ, pos, ◌+ℤ◌, ◌-ℤ◌, ◌*ℤ◌}
use Rattle.flow_types.specs.declared.flight.Flight.{Flight}
use Rattle.flow_types.specs.declared.parts.Parts.{Parts}
use Rattle.flow_types.specs.Costs.{credit_of, total_of}
use Rattle.flow_types.specs.Trips.{place_at}
use Rattle.time_windows.specs.declared.access.Access.{Access}
use Rattle.time_windows.specs.declared.access.Window.{Window}
use Rattle.time_windows.specs.Boxes.{IsInWindow}
use Rattle.flight_routes.specs.Prices.{PriceTable, price_in, summed, turns_back, turns_paid}
use Rattle.flight_routes.specs.Rates.{Rates}

-- the part of a trip's cost and prices that its departure decides, and the part that its arrival
-- does
abbrev pub leaving_cost : ℕ → PriceTable → Parts → ℕ → Flight → ℕ → ℤ
leaving_cost weight table parts number flight time =
    pos (price_in table.departures flight.from time
    + turns_paid table parts.day.periods number time 0 parts.connections)
    -ℤ pos weight *ℤ credit_of parts.tables flight.cost (time - flight.sd)

abbrev pub arriving_cost : ℕ → PriceTable → Parts → ℕ → Flight → ℕ → ℤ
arriving_cost weight table parts number flight time =
    pos weight *ℤ total_of parts.tables flight.cost (time - flight.sa)
    +ℤ (pos (price_in table.arrivals flight.to time)
    -ℤ pos (turns_back table parts.day.periods number time 0 parts.connections))

pub record AreTripRates (weight : ℕ) (table : PriceTable) (parts : Parts) (number : ℕ)
    (flight : Flight) (row : ℕ → Access) (span : Window) (rates : Rates) : Type 0 where
  pub leaves : (t : ℕ) → IsInWindow (row 0).window t
      → rates.leaves t ≡ Some (leaving_cost weight table parts number flight t)
  pub arrives : (n t : ℕ) → n + 1 ≡ length flight.nodes → IsInWindow (row n).window t
      → rates.arrives t ≡ Some (arriving_cost weight table parts number flight t)
  pub unpaid : (t u : ℕ) → t ≤ u → u < parts.day.periods → rates.paid 0 u ≡ rates.paid 0 t
  pub paid : (n t u : ℕ) → 0 < n → n + 1 < length flight.nodes → span.lo ≤ t → t ≤ u
      → u ≤ span.hi → rates.paid n u
      ≡ rates.paid n t +ℤ pos (summed (price_in table.inside (place_at flight n)) t u)
  pub clear : (n t u : ℕ) → u < parts.day.periods → u ≤ rates.clear n t
