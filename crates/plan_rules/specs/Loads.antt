-- What loads count: the departures, arrivals and stays of trips that were added.
use Rattle.std.specs.Prelude.{◌≡◌, ℕ, ◌<◌, List, [], ◌∷◌, length, map, Option, None, Some, slice_get, slice_index_or, slice_set}
use Rattle.flow_types.specs.declared.flight.Flight.{Flight}
use Rattle.flow_types.specs.declared.parts.Parts.{Parts}
use Rattle.flow_types.specs.declared.place.CapKind.{CapKind}
use Rattle.flow_types.specs.declared.place.CapKind.TheVariants as kind
use Rattle.flow_types.specs.declared.plan.Stop.{Stop}
use Rattle.flow_types.specs.Counts.{departs_at, arrives_at, stays_at, departures_at, arrivals_at, occupancy_at}
use Rattle.flow_types.specs.Trips.{IsTrip, departure_of, arrival_of}
use Rattle.plan_rules.specs.Tally.{CountGrid, Tally}
use Rattle.plan_rules.specs.Grid.{Changes, IsEmpty, count_at}
use Rattle.plan_rules.specs.declared.grid.Change.{Change}
use Rattle.plan_rules.specs.declared.grid.Change.TheVariants as change

-- the counts of one kind
abbrev pub grid_of : Tally → CapKind → CountGrid
grid_of loads kind.Dep = loads.departures
grid_of loads kind.Arr = loads.arrivals
grid_of loads kind.Sector = loads.inside

-- how many flights depart from, arrive at or are inside the place in the period
abbrev pub load_at : Tally → CapKind → ℕ → ℕ → ℕ
load_at loads kind place period = count_at (grid_of loads kind) place period

-- when a flight that is there departs and arrives
abbrev pub departure_at : Tally → ℕ → Option ℕ
departure_at loads flight = slice_index_or loads.leaves flight None

abbrev pub arrival_at : Tally → ℕ → Option ℕ
arrival_at loads flight = slice_index_or loads.arrives flight None

-- the place and the period are among those that are counted
pub record IsInGrid (grid : CountGrid) (k t : ℕ) : Type 0 where
  pub place : k < grid.places
  pub period : t < grid.periods

-- nothing is counted, and no flight is there
pub record IsClear (loads : Tally) : Type 0 where
  pub departures : IsEmpty loads.departures
  pub arrivals : IsEmpty loads.arrivals
  pub inside : IsEmpty loads.inside
  pub leaves : (f : ℕ) → departure_at loads f ≡ None
  pub arrives : (f : ℕ) → arrival_at loads f ≡ None

-- as many places and periods
pub record HasSize (places periods : ℕ) (grid : CountGrid) : Type 0 where
  pub wide : grid.places ≡ places
  pub long : grid.periods ≡ periods

-- the loads have room for the scenario's places, periods and flights
pub record IsMadeFor (parts : Parts) (loads : Tally) : Type 0 where
  pub departures : HasSize (length parts.places) parts.day.periods loads.departures
  pub arrivals : HasSize (length parts.places) parts.day.periods loads.arrivals
  pub inside : HasSize (length parts.places) parts.day.periods loads.inside
  pub leaves : length loads.leaves ≡ length parts.flights
  pub arrives : length loads.arrives ≡ length parts.flights

-- each flight has a trip of its own, or no stops: it isn't there
abbrev pub IsTripOrNone : ℕ → Flight → List Stop → Type 0
IsTripOrNone periods flight [] = Unit {0}
IsTripOrNone periods flight (stop ∷ rest) = IsTrip periods flight (stop ∷ rest)

abbrev pub AreTripsOrNone : ℕ → List Flight → List (List Stop) → Type 0
AreTripsOrNone periods [] [] = Unit {0}
AreTripsOrNone periods [] (trip ∷ trips) = ⊥
AreTripsOrNone periods (flight ∷ flights) [] = ⊥
AreTripsOrNone periods (flight ∷ flights) (trip ∷ trips) =
    IsTripOrNone periods flight trip × AreTripsOrNone periods flights trips

-- no flight is there
abbrev pub no_trips : Parts → List (List Stop)
no_trips parts = map (λ flight. []) parts.flights

-- The loads count these trips, one for each flight; a flight with no stops isn't there.
pub record AreLoads (parts : Parts) (trips : List (List Stop)) (loads : Tally) : Type 0 where
  pub made : IsMadeFor parts loads
  pub each : AreTripsOrNone parts.day.periods parts.flights trips
  pub departures : (k t : ℕ) → k < length parts.places → t < parts.day.periods
      → load_at loads kind.Dep k t ≡ departures_at parts.flights trips k t
  pub arrivals : (k t : ℕ) → k < length parts.places → t < parts.day.periods
      → load_at loads kind.Arr k t ≡ arrivals_at parts.flights trips k t
  pub sectors : (k t : ℕ) → k < length parts.places → t < parts.day.periods
      → load_at loads kind.Sector k t ≡ occupancy_at parts.flights trips k t
  pub leaves : (f : ℕ) → f < length parts.flights
      → departure_at loads f ≡ departure_of (slice_index_or trips f [])
  pub arrives : (f : ℕ) → f < length parts.flights
      → arrival_at loads f ≡ arrival_of (slice_index_or trips f [])

-- the stops are a trip of the flight at the position
abbrev pub IsTripAt : Parts → ℕ → List Stop → Type 0
IsTripAt parts number stops = (flight : Flight) → slice_get parts.flights number ≡ Some flight
    → IsTrip parts.day.periods flight stops

-- what is there of a trip after the change
abbrev pub stops_after : Change → List Stop → List Stop
stops_after change.More stops = stops
stops_after change.Less stops = []

-- one trip more, or one less
pub record ChangesTrip (change : Change) (flight : Flight) (number : ℕ) (stops : List Stop)
    (old new : Tally) : Type 0 where
  pub departures : Changes change (λ k t. departs_at k t flight stops) old.departures new.departures
  pub arrivals : Changes change (λ k t. arrives_at k t flight stops) old.arrivals new.arrivals
  pub inside : Changes change (λ k t. stays_at k t flight stops) old.inside new.inside
  pub leaves : new.leaves
      ≡ slice_set old.leaves number (departure_of (stops_after change stops))
  pub arrives : new.arrives
      ≡ slice_set old.arrives number (arrival_of (stops_after change stops))
