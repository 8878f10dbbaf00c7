-- What leaving and arriving cost under prices, with what the connections cost from then on.
use Rattle.std.specs.Prelude.{ℕ, ◌+◌, Option, None, Some, ℤ, pos, ◌-ℤ◌, ◌+ℤ◌, ◌*ℤ◌}
use Rattle.flow_types.specs.declared.flight.Flight.{Flight}
use Rattle.flow_types.specs.declared.parts.Parts.{Parts}
use Rattle.time_windows.specs.declared.ends.End.{End}
use Rattle.time_windows.specs.declared.ends.End.TheVariants.{Arrival, Departure}
use Rattle.flight_routes.specs.Ends.{airport_at}
use Rattle.flight_routes.specs.Prices.{PriceTable, price_in}
use Rattle.flight_routes.specs.TripRates.{arriving_cost, leaving_cost}
use Rattle.flight_routes.specs.TimeCosts.{credit_then, total_then}

-- the airport at an end of a flight, if there is one
abbrev pub airport_of : End → Option Flight → ℕ
airport_of end None = 0
airport_of end (Some flight) = airport_at end flight

abbrev pub leave_value : ℕ → PriceTable → Parts → Option Flight → ℕ → ℕ → ℤ
leave_value weight table parts flight time later =
    pos (price_in table.departures (airport_of Departure flight) time + later)
    -ℤ pos weight *ℤ credit_then parts.tables flight time

abbrev pub arrive_value : ℕ → PriceTable → Parts → Option Flight → ℕ → ℕ → ℤ
arrive_value weight table parts flight time later =
    pos weight *ℤ total_then parts.tables flight time
    +ℤ (pos (price_in table.arrivals (airport_of Arrival flight) time) -ℤ pos later)

-- the one or the other
abbrev pub end_value : End → ℕ → PriceTable → Parts → Option Flight → ℕ → ℕ → ℤ
end_value Departure weight table parts flight time later =
    leave_value weight table parts flight time later
end_value Arrival weight table parts flight time later =
    arrive_value weight table parts flight time later

-- what leaving and arriving in a period cost, the connections of the flight among it
abbrev pub leaving_of : ℕ → PriceTable → Parts → ℕ → Option Flight → ℕ → ℤ
leaving_of weight table parts number None time = pos 0
leaving_of weight table parts number (Some flight) time =
    leaving_cost weight table parts number flight time

abbrev pub arriving_of : ℕ → PriceTable → Parts → ℕ → Option Flight → ℕ → ℤ
arriving_of weight table parts number None time = pos 0
arriving_of weight table parts number (Some flight) time =
    arriving_cost weight table parts number flight time

abbrev pub end_cost : End → ℕ → PriceTable → Parts → ℕ → Option Flight → ℕ → ℤ
end_cost Departure weight table parts number flight time =
    leaving_of weight table parts number flight time
end_cost Arrival weight table parts number flight time =
    arriving_of weight table parts number flight time
