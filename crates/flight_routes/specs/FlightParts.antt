-- What a flight pays at its ends, under prices and beside the trips of others.
use Rattle.std.specs.Prelude.{ℕ, ℤ}
use Rattle.flow_types.specs.Scenario.{flight_at, parts_of}
use Rattle.time_windows.specs.declared.ends.End.{End}
use Rattle.flight_routes.specs.declared.loaded_flight.LoadedFlight.{LoadedFlight}
use Rattle.flight_routes.specs.declared.priced_flight.PricedFlight.{PricedFlight}
use Rattle.flight_routes.specs.FitTimes.{IsFreeAt, fit_value}
use Rattle.flight_routes.specs.PriceRates.{end_cost, end_value}

-- under prices, by what its connections cost from a period on, and with that
abbrev pub paid_value : PricedFlight → End → ℕ → ℕ → ℤ
paid_value priced end =
    end_value end priced.weight priced.prices.now (parts_of priced.s.now)
    (flight_at priced.s.now priced.flight)

abbrev pub paid_cost : PricedFlight → End → ℕ → ℤ
paid_cost priced end =
    end_cost end priced.weight priced.prices.now (parts_of priced.s.now) priced.flight
    (flight_at priced.s.now priced.flight)

-- beside the loads: whether it may, and what that costs
abbrev pub IsFreeFor : LoadedFlight → End → ℕ → ℕ → Type 0
IsFreeFor loaded end =
    IsFreeAt end (parts_of loaded.s.now) loaded.loads.now (flight_at loaded.s.now loaded.flight)

abbrev pub plain_value : LoadedFlight → End → ℕ → ℤ
plain_value loaded end =
    fit_value end (parts_of loaded.s.now).tables (flight_at loaded.s.now loaded.flight)
