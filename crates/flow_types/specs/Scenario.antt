-- What a scenario is made of.
use Rattle.std.specs.Prelude.{ℕ, Option, Some, None, slice_get}
use Rattle.flow_types.specs.declared.flight.Flight.{Flight}
use Rattle.flow_types.specs.declared.parts.Parts.{Parts}
use Rattle.flow_types.specs.declared.scenario.Scenario.{Scenario}
use Rattle.flow_types.specs.Routes.{IsPlain}

abbrev pub parts_of : Scenario → Parts
parts_of scenario = scenario.parts

-- the flight at a position, if there is one
abbrev pub flight_at : Scenario → ℕ → Option Flight
flight_at scenario position = slice_get scenario.parts.flights position

-- the node is a plain one of the flight
abbrev pub IsPlainAt : Option Flight → ℕ → Type 0
IsPlainAt None node = ⊥
IsPlainAt (Some flight) node = IsPlain flight.nodes flight.legs node
