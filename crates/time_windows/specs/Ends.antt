-- The two ends of a trip, and of connections.
use Rattle.std.specs.Prelude.{ℕ}
use Rattle.flow_types.specs.declared.flight.Connection.{Connection}
use Rattle.time_windows.specs.declared.ends.End.{End}
use Rattle.time_windows.specs.declared.ends.End.TheVariants.{Arrival, Departure}

-- the flight that has this end of its trip in a connection, and the other one
abbrev pub flight_at : End → Connection → ℕ
flight_at Departure connection = connection.second
flight_at Arrival connection = connection.first

abbrev pub other_at : End → Connection → ℕ
other_at Departure connection = connection.first
other_at Arrival connection = connection.second
