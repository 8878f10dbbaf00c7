-- What each broken rule says of a plan: what it names is there, its values are those of the plan,
-- the rule is broken by them, and whatever comes before it is kept.
use Rattle.std.specs.Prelude.{◌≡◌, ◌≢◌, ◌⊎◌, ℕ, ◌+◌, ◌<◌, ◌≤◌, List, [], length, Option, Some, None, slice_get, slice_index_or, option_and_then, IsTrue, All}
use Rattle.std.specs.List.{Any}
use Rattle.flow_types.specs.declared.flight.Connection.{Connection}
use Rattle.flow_types.specs.declared.flight.Flight.{Flight}
use Rattle.flow_types.specs.declared.flight.Leg.{Leg}
use Rattle.flow_types.specs.declared.parts.Parts.{Parts}
use Rattle.flow_types.specs.declared.place.CapKind.{CapKind}
use Rattle.flow_types.specs.declared.place.CapKind.TheVariants as kind
use Rattle.flow_types.specs.declared.plan.Stop.{Stop}
use Rattle.flow_types.specs.Capacities.{capacity_of, has_kind}
use Rattle.flow_types.specs.Counts.{arrivals_at, departures_at, occupancy_at}
use Rattle.flow_types.specs.Feasible.{AreTrips, KeepsTurn}
use Rattle.flow_types.specs.Trips.{IsStep, IsTrip, IsWithinHours}
use Rattle.plan_rules.specs.FirstBroken.{arrival_in, departure_in}
use Rattle.plan_rules.specs.declared.broken.Broken.{Broken}
use Rattle.plan_rules.specs.declared.broken.Broken.TheVariants.{Trips, Start, Window, NoLeg, Least, Ending, Turn, Departures, Arrivals, Sectors}

-- the stop at a position in the trip of the flight of that number
abbrev pub stop_at : List (List Stop) → ℕ → ℕ → Option Stop
stop_at plan number position =
    option_and_then (λ trip. slice_get trip position) (slice_get plan number)

-- a fact of the flight and that stop, which are there, and of the next stop too
abbrev pub HasStop : Parts → List (List Stop) → ℕ → ℕ → (Flight → Stop → Type 0) → Type 0
HasStop parts plan number place P =
    (flight : Flight) × (stop : Stop) × (slice_get parts.flights number ≡ Some flight)
    × (stop_at plan number place ≡ Some stop) × P flight stop

abbrev pub HasStep : Parts → List (List Stop) → ℕ → ℕ → (Flight → Stop → Stop → Type 0) → Type 0
HasStep parts plan number place P =
    HasStop parts plan number place (λ flight stop. (next : Stop)
    × (stop_at plan number (place + 1) ≡ Some next) × P flight stop next)

-- the leg joins the nodes of the stops
pub record Joins (stop next : Stop) (leg : Leg) : Type 0 where
  pub from : leg.from ≡ stop.node
  pub to : leg.to ≡ next.node

-- the leg joins them and takes so long, which is longer than the time between them
pub record IsTooLong (stop next : Stop) (least : ℕ) (leg : Leg) : Type 0 where
  pub joins : Joins stop next leg
  pub takes : leg.least ≡ least
  pub late : next.time < stop.time + least

-- more than the capacity in a place and period that has one of this kind
pub record IsOver (parts : Parts) (kind : CapKind) (count : ℕ → ℕ → ℕ)
    (place period load capacity : ℕ) : Type 0 where
  pub place_has : IsTrue (has_kind kind (slice_get parts.places place))
  pub within : period < parts.day.periods
  pub load_is : load ≡ count place period
  pub capacity_is : capacity ≡ capacity_of parts.places kind place period
  pub over : capacity < load

-- the flights of a connection, and their times, which are too close
pub record IsTooSoon (plan : List (List Stop)) (connection : Connection)
    (arrives leaves : ℕ) : Type 0 where
  pub arrival : arrival_in plan connection.first ≡ Some arrives
  pub departure : departure_in plan connection.second ≡ Some leaves
  pub soon : leaves < arrives + connection.turnaround

-- the rule is broken
abbrev pub IsBroken : Parts → List (List Stop) → Broken → Type 0
IsBroken parts plan (Trips got need) = (got ≡ length plan) × (need ≡ length parts.flights)
    × (got ≢ need)
IsBroken parts plan (Start number) =
    (number < length parts.flights)
    × ((stop : Stop) → stop_at plan number 0 ≡ Some stop → stop.node ≢ 0)
IsBroken parts plan (Window number place) =
    HasStop parts plan number place (λ flight stop. IsWithinHours parts.day.periods flight stop → ⊥)
IsBroken parts plan (NoLeg number place) =
    HasStep parts plan number place (λ flight stop next. Any (Joins stop next) flight.legs → ⊥)
IsBroken parts plan (Least number place least) =
    HasStep parts plan number place
    (λ flight stop next. Any (IsTooLong stop next least) flight.legs)
IsBroken parts plan (Ending number) =
    (last : ℕ) × HasStop parts plan number last
    (λ flight stop. (stop_at plan number (last + 1) ≡ None)
    × (stop.node + 1 ≢ length flight.nodes))
IsBroken parts plan (Turn number arrives leaves) =
    (connection : Connection) × (slice_get parts.connections number ≡ Some connection)
    × IsTooSoon plan connection arrives leaves
IsBroken parts plan (Departures over) =
    IsOver parts kind.Dep
    (departures_at parts.flights plan) over.place over.period over.load over.capacity
IsBroken parts plan (Arrivals over) =
    IsOver parts kind.Arr
    (arrivals_at parts.flights plan) over.place over.period over.load over.capacity
IsBroken parts plan (Sectors over) =
    IsOver parts kind.Sector
    (occupancy_at parts.flights plan) over.place over.period over.load over.capacity

-- there are as many trips as flights, and those before the flight of that number are trips
pub record AreTripsBefore (parts : Parts) (plan : List (List Stop)) (number : ℕ) : Type 0 where
  pub as_many : length plan ≡ length parts.flights
  pub trips : (k : ℕ) (flight : Flight) → k < number → slice_get parts.flights k ≡ Some flight
      → IsTrip parts.day.periods flight (slice_index_or plan k [])

-- the flight's trip starts at node 0; so many stops from its front are in their windows, and a leg
-- leads on in time from so many
pub record KeepsStops (parts : Parts) (plan : List (List Stop))
    (number stops steps : ℕ) : Type 0 where
  pub start : (stop : Stop) → stop_at plan number 0 ≡ Some stop → stop.node ≡ 0
  pub hours : (i : ℕ) (flight : Flight) (stop : Stop) → i < stops
      → slice_get parts.flights number ≡ Some flight
      → stop_at plan number i ≡ Some stop → IsWithinHours parts.day.periods flight stop
  pub legs : (i : ℕ) (flight : Flight) (stop next : Stop) → i < steps
      → slice_get parts.flights number ≡ Some flight
      → stop_at plan number i ≡ Some stop → stop_at plan number (i + 1) ≡ Some next
      → IsStep flight.legs stop next

-- the capacities of a kind are kept; and those by place and then period before this one
abbrev pub KeepsKind : Parts → CapKind → (ℕ → ℕ → ℕ) → Type 0
KeepsKind parts kind count =
    (k t : ℕ) → IsTrue (has_kind kind (slice_get parts.places k)) → t < parts.day.periods
    → count k t ≤ capacity_of parts.places kind k t

abbrev pub KeepsKindBefore : Parts → CapKind → (ℕ → ℕ → ℕ) → ℕ → ℕ → Type 0
KeepsKindBefore parts kind count place period =
    (k t : ℕ) → IsTrue (has_kind kind (slice_get parts.places k)) → t < parts.day.periods
    → (k < place) ⊎ ((k ≡ place) × (t < period))
    → count k t ≤ capacity_of parts.places kind k t

-- what comes before the rule is kept
abbrev pub KeepsBefore : Parts → List (List Stop) → Broken → Type 0
KeepsBefore parts plan (Trips got need) = Unit {0}
KeepsBefore parts plan (Start number) = AreTripsBefore parts plan number
KeepsBefore parts plan (Window number place) = AreTripsBefore parts plan number
    × KeepsStops parts plan number place place
KeepsBefore parts plan (NoLeg number place) = AreTripsBefore parts plan number
    × KeepsStops parts plan number (place + 1) place
KeepsBefore parts plan (Least number place least) = AreTripsBefore parts plan number
    × KeepsStops parts plan number (place + 1) place
KeepsBefore parts plan (Ending number) = AreTripsBefore parts plan number
    × ((n : ℕ) → KeepsStops parts plan number n n)
KeepsBefore parts plan (Turn number arrives leaves) =
    AreTrips parts.day.periods parts.flights plan
    × ((k : ℕ) (connection : Connection) → k < number
    → slice_get parts.connections k ≡ Some connection → KeepsTurn plan connection)
KeepsBefore parts plan (Departures over) =
    AreTrips parts.day.periods parts.flights plan × All (KeepsTurn plan) parts.connections
    × KeepsKindBefore parts kind.Dep (departures_at parts.flights plan) over.place over.period
KeepsBefore parts plan (Arrivals over) =
    AreTrips parts.day.periods parts.flights plan × All (KeepsTurn plan) parts.connections
    × KeepsKind parts kind.Dep (departures_at parts.flights plan)
    × KeepsKindBefore parts kind.Arr (arrivals_at parts.flights plan) over.place over.period
KeepsBefore parts plan (Sectors over) =
    AreTrips parts.day.periods parts.flights plan × All (KeepsTurn plan) parts.connections
    × KeepsKind parts kind.Dep (departures_at parts.flights plan)
    × KeepsKind parts kind.Arr (arrivals_at parts.flights plan)
    × KeepsKindBefore parts kind.Sector (occupancy_at parts.flights plan) over.place over.period

-- the rule is broken, and it is the first one
abbrev pub IsFirstBroken : Parts → List (List Stop) → Broken → Type 0
IsFirstBroken parts plan rule = KeepsBefore parts plan rule × IsBroken parts plan rule
