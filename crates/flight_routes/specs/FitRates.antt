-- The rates at which a way costs what its trip costs, and is there exactly where the trip fits.
use Rattle.std.specs.Prelude.{◌≡◌, ℕ, ◌+◌, ◌-◌, ◌<◌, ◌≤◌, List, length, Option, None, Some, slice_get, All, ℤ, pos, ◌-ℤ◌}
use Rattle.std.specs.Option.{option_and_then}
use Rattle.flow_types.specs.declared.flight.Connection.{Connection}
use Rattle.flow_types.specs.declared.flight.Flight.{Flight}
use Rattle.flow_types.specs.declared.parts.Parts.{Parts}
use Rattle.flow_types.specs.declared.place.CapKind.TheVariants as kind
use Rattle.flow_types.specs.declared.plan.Stop.{Stop}
use Rattle.flow_types.specs.Capacities.{capacity_of}
use Rattle.flow_types.specs.Costs.{credit_of, total_of}
use Rattle.flow_types.specs.Counts.{arrivals_at, departures_at, occupancy_at}
use Rattle.flow_types.specs.Trips.{arrival_of, departure_of, place_at}
use Rattle.time_windows.specs.declared.access.Access.{Access}
use Rattle.time_windows.specs.declared.access.Window.{Window}
use Rattle.time_windows.specs.Boxes.{IsInWindow}
use Rattle.flight_routes.specs.Rates.{Rates}

-- a departure no earlier than the turnaround after each flight that it waits for
abbrev pub WaitsFor : List (List Stop) → ℕ → ℕ → Connection → Type 0
WaitsFor trips number leaves connection =
    connection.second ≡ number → (arrives : ℕ)
    → option_and_then arrival_of (slice_get trips connection.first) ≡ Some arrives
    → arrives + connection.turnaround ≤ leaves

-- an arrival that leaves time for the turnaround to each flight that waits for it
abbrev pub LeavesTimeFor : List (List Stop) → ℕ → ℕ → Connection → Type 0
LeavesTimeFor trips number arrives connection =
    connection.first ≡ number → (leaves : ℕ)
    → option_and_then departure_of (slice_get trips connection.second) ≡ Some leaves
    → arrives + connection.turnaround ≤ leaves

-- room for one more departure, and time after the flights that it waits for
pub record MayLeave (parts : Parts) (trips : List (List Stop)) (number : ℕ) (flight : Flight)
    (time : ℕ) : Type 0 where
  pub room : departures_at parts.flights trips flight.from time + 1
      ≤ capacity_of parts.places kind.Dep flight.from time
  pub turns : All (WaitsFor trips number time) parts.connections

-- room for one more arrival, and time before the flights that wait for it
pub record MayArrive (parts : Parts) (trips : List (List Stop)) (number : ℕ) (flight : Flight)
    (time : ℕ) : Type 0 where
  pub room : arrivals_at parts.flights trips flight.to time + 1
      ≤ capacity_of parts.places kind.Arr flight.to time
  pub turns : All (LeavesTimeFor trips number time) parts.connections

-- room for one more flight in the sector
abbrev pub MayStay : Parts → List (List Stop) → ℕ → ℕ → Type 0
MayStay parts trips place time =
    occupancy_at parts.flights trips place time + 1
    ≤ capacity_of parts.places kind.Sector place time

-- a number where something may be, nothing where it may not
abbrev pub IsGiven : Option ℤ → Type 0 → ℤ → Type 0
IsGiven None May value = May → ⊥
IsGiven (Some given) May value = May × (given ≡ value)

pub record AreFitRates (parts : Parts) (trips : List (List Stop)) (number : ℕ) (flight : Flight)
    (row : ℕ → Access) (span : Window) (rates : Rates) : Type 0 where
  pub leaves : (t : ℕ) → IsInWindow (row 0).window t
      → IsGiven (rates.leaves t) (MayLeave parts trips number flight t)
      (pos 0 -ℤ credit_of parts.tables flight.cost (t - flight.sd))
  pub arrives : (n t : ℕ) → n + 1 ≡ length flight.nodes → IsInWindow (row n).window t
      → IsGiven (rates.arrives t) (MayArrive parts trips number flight t)
      (total_of parts.tables flight.cost (t - flight.sa))
  pub paid : (n t : ℕ) → rates.paid n t ≡ pos 0
  pub first : (t u : ℕ) → t ≤ u → u < parts.day.periods → u ≤ rates.clear 0 t
  pub stays : (n t u : ℕ) → 0 < n → n + 1 < length flight.nodes → span.lo ≤ t → t ≤ u
      → u ≤ span.hi → u ≤ rates.clear n t
      → (p : ℕ) → t ≤ p → p < u → MayStay parts trips (place_at flight n) p
  pub clear : (n t u : ℕ) → 0 < n → n + 1 < length flight.nodes → span.lo ≤ t → t ≤ u
      → u ≤ span.hi → ((p : ℕ) → t ≤ p → p < u → MayStay parts trips (place_at flight n) p)
      → u ≤ rates.clear n t
