-- What it is for a plan to keep every rule.
use Rattle.std.specs.Prelude.{◌≡◌, ℕ, ◌+◌, ◌<◌, ◌≤◌, List, [], ◌∷◌, Some, slice_get, IsTrue, All}
use Rattle.flow_types.specs.declared.flight.Connection.{Connection}
use Rattle.flow_types.specs.declared.flight.Flight.{Flight}
use Rattle.flow_types.specs.declared.parts.Parts.{Parts}
use Rattle.flow_types.specs.declared.place.CapKind.TheVariants as kind
use Rattle.flow_types.specs.declared.plan.Stop.{Stop}
use Rattle.flow_types.specs.Capacities.{capacity_of}
use Rattle.flow_types.specs.Counts.{departures_at, arrivals_at, occupancy_at}
use Rattle.flow_types.specs.Routes.{is_airport, is_sector}
use Rattle.flow_types.specs.Trips.{IsTrip, departure_of, arrival_of}
use Rattle.std.specs.Option.{option_and_then}

-- one trip for each flight, each a trip of its flight
abbrev pub AreTrips : ℕ → List Flight → List (List Stop) → Type 0
AreTrips periods [] [] = Unit {0}
AreTrips periods [] (trip ∷ plan) = ⊥
AreTrips periods (flight ∷ flights) [] = ⊥
AreTrips periods (flight ∷ flights) (trip ∷ plan) = IsTrip periods flight trip
    × AreTrips periods flights plan

-- the second flight departs no earlier than the turnaround after the first has arrived
abbrev pub KeepsTurn : List (List Stop) → Connection → Type 0
KeepsTurn plan connection =
    (arrives leaves : ℕ) → option_and_then arrival_of (slice_get plan connection.first)
    ≡ Some arrives
    → option_and_then departure_of (slice_get plan connection.second) ≡ Some leaves
    → arrives + connection.turnaround ≤ leaves

-- every trip, turnaround, departure, arrival and sector capacity is kept
pub record IsFeasible (parts : Parts) (plan : List (List Stop)) : Type 0 where
  pub trips : AreTrips parts.day.periods parts.flights plan
  pub turns : All (KeepsTurn plan) parts.connections
  pub departures : (k t : ℕ) → IsTrue (is_airport (slice_get parts.places k))
      → t < parts.day.periods
      → departures_at parts.flights plan k t ≤ capacity_of parts.places kind.Dep k t
  pub arrivals : (k t : ℕ) → IsTrue (is_airport (slice_get parts.places k)) → t < parts.day.periods
      → arrivals_at parts.flights plan k t ≤ capacity_of parts.places kind.Arr k t
  pub sectors : (k t : ℕ) → IsTrue (is_sector (slice_get parts.places k)) → t < parts.day.periods
      → occupancy_at parts.flights plan k t ≤ capacity_of parts.places kind.Sector k t
