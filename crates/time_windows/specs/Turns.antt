-- The connections of each flight: with its departure it waits for others, and others wait for its
-- arrival.
use Rattle.std.specs.Prelude.{◌≡◌, ℕ, ◌+◌, ◌==◌, ◌<◌, ◌≤◌, List, [], ◌∷◌, Some, drop, length, get_or, slice_get, slice_index, if◌then◌else◌}
use Rattle.flow_types.specs.declared.flight.Connection.{Connection}
use Rattle.flow_types.specs.declared.parts.Parts.{Parts}
use Rattle.time_windows.specs.declared.ends.End.{End}
use Rattle.time_windows.specs.declared.ends.End.TheVariants.{Arrival, Departure}
use Rattle.time_windows.specs.Ends.{flight_at, other_at}
use Rattle.time_windows.specs.declared.turns.Turn.{Turn}
use Rattle.time_windows.specs.Groups.{Grouped}

-- the connections with the flight at this end, of those from a position on
abbrev pub turns_in : End → ℕ → ℕ → List Connection → List Turn
turns_in end number k [] = []
turns_in end number k (connection ∷ connections) =
    if flight_at end connection == number
    then record {
      connection = k;
      other = other_at end connection;
      turnaround = connection.turnaround;
    } ∷ turns_in end number (k + 1) connections
    else turns_in end number (k + 1) connections

-- the connection that a flight has at this end, by its turn
abbrev pub connection_at : End → ℕ → Turn → Connection
connection_at Departure number turn =
    record { first = turn.other; second = number; turnaround = turn.turnaround }
connection_at Arrival number turn =
    record { first = number; second = turn.other; turnaround = turn.turnaround }

-- The first position, from one on, of a connection with the flight at this end, or one past all: no
-- turn is lost from the one to the other.
pub record IsNextAt (end : End) (number : ℕ) (connections : List Connection) (from at : ℕ)
    : Type 0 where
  pub late : from ≤ at
  pub same : turns_in end number from (drop from connections)
      ≡ turns_in end number at (drop at connections)
  pub here : (connection : Connection) → slice_get connections at ≡ Some connection
      → flight_at end connection ≡ number

-- for each connection from a position on the next one of its flight
abbrev pub AreNexts : End → List Connection → ℕ → List ℕ → Type 0
AreNexts end connections from nexts = (k : ℕ) (connection : Connection) → from ≤ k
    → slice_get connections k ≡ Some connection
    → IsNextAt end (flight_at end connection) connections (k + 1) (slice_index nexts k)

-- for each flight its first connection from a position on, and for each from there the next one
pub record AreLinks (end : End) (connections : List Connection) (from : ℕ)
    (firsts nexts : List ℕ) : Type 0 where
  pub first : (number : ℕ) → number < length firsts
      → IsNextAt end number connections from (slice_index firsts number)
  pub next : AreNexts end connections from nexts

-- by flight, at either end
pub record TurnLists : Type 0 where
  pub departures : Grouped Turn
  pub arrivals : Grouped Turn

abbrev pub turns_of : End → TurnLists → Grouped Turn
turns_of Departure turns = turns.departures
turns_of Arrival turns = turns.arrivals

abbrev pub AreTurnsAt : End → Parts → Grouped Turn → Type 0
AreTurnsAt end parts turns = (number : ℕ) → number < length parts.flights
    → get_or turns.closed number [] ≡ turns_in end number 0 parts.connections

pub record AreTurnsOf (parts : Parts) (turns : TurnLists) : Type 0 where
  pub departures : AreTurnsAt Departure parts turns.departures
  pub arrivals : AreTurnsAt Arrival parts turns.arrivals
