-- What it is for a trip to fit beside the trips of other flights.
use Rattle.std.specs.Prelude.{◌≡◌, ◌⊎◌, ℕ, ◌+◌, ◌<◌, ◌≤◌, List, Some, slice_get, slice_set, IsTrue, All}
use Rattle.time_windows.specs.Boxes.{Box}
use Rattle.flight_routes.specs.Inside.{IsTripIn}
use Rattle.flow_types.specs.declared.flight.Connection.{Connection}
use Rattle.flow_types.specs.declared.flight.Flight.{Flight}
use Rattle.flow_types.specs.declared.parts.Parts.{Parts}
use Rattle.flow_types.specs.declared.place.CapKind.{CapKind}
use Rattle.flow_types.specs.declared.place.CapKind.TheVariants as kind
use Rattle.flow_types.specs.declared.plan.Stop.{Stop}
use Rattle.flow_types.specs.Capacities.{capacity_of, has_kind}
use Rattle.flow_types.specs.Counts.{arrives_at, arrivals_at, departs_at, departures_at, occupancy_at, stays_at}
use Rattle.flow_types.specs.Feasible.{KeepsTurn}

-- wherever the trip counts, there is room for it
abbrev pub HasRoom : Parts → CapKind → (ℕ → ℕ → ℕ) → (ℕ → ℕ → ℕ) → Type 0
HasRoom parts kind counted more =
    (k t : ℕ) → IsTrue (has_kind kind (slice_get parts.places k)) → 0 < more k t
    → counted k t + more k t ≤ capacity_of parts.places kind k t

-- if the flight has a part in the connection, the connection is kept
abbrev pub KeepsOwnTurn : List (List Stop) → ℕ → Connection → Type 0
KeepsOwnTurn trips number connection =
    (connection.first ≡ number) ⊎ (connection.second ≡ number) → KeepsTurn trips connection

-- The trip of the flight at the position takes no count above a capacity, and breaks no connection
-- with a flight that has a trip. A flight that isn't there has no stops.
pub record FitsAs (parts : Parts) (trips : List (List Stop)) (number : ℕ) (flight : Flight)
    (stops : List Stop) : Type 0 where
  pub departures : HasRoom parts kind.Dep (departures_at parts.flights trips)
      (λ k t. departs_at k t flight stops)
  pub arrivals : HasRoom parts kind.Arr (arrivals_at parts.flights trips)
      (λ k t. arrives_at k t flight stops)
  pub sectors : HasRoom parts kind.Sector (occupancy_at parts.flights trips)
      (λ k t. stays_at k t flight stops)
  pub turns : All (KeepsOwnTurn (slice_set trips number stops) number) parts.connections

abbrev pub Fits : Parts → List (List Stop) → ℕ → List Stop → Type 0
Fits parts trips number stops = (flight : Flight) → slice_get parts.flights number ≡ Some flight
    → FitsAs parts trips number flight stops

-- a trip of the flight in the box that fits beside the trips of the others
pub record IsTripThatFits (parts : Parts) (box : Box) (trips : List (List Stop)) (number : ℕ)
    (stops : List Stop) : Type 0 where
  pub inside : IsTripIn parts box number stops
  pub fits : Fits parts trips number stops
