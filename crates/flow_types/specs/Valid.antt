-- What a valid scenario is, part by part.
use Rattle.std.specs.Prelude.{◌≡◌, ◌≢◌, ℕ, ◌+◌, ◌<◌, ◌≤◌, Bool, ◌&&◌, nat_le, List, length, Option, Some, None, slice_get, IsTrue, All, AllPairs, sum_by, ℤ}
use Rattle.exact_sums.specs.Near.{IsNear}
use Rattle.flow_types.specs.declared.day.Day.{Day}
use Rattle.flow_types.specs.declared.flight.Connection.{Connection}
use Rattle.flow_types.specs.declared.flight.Cost.{Cost}
use Rattle.flow_types.specs.declared.flight.Cost.TheVariants.{Linear, Tables}
use Rattle.flow_types.specs.declared.flight.CostTable.{CostTable}
use Rattle.flow_types.specs.declared.flight.Flight.{Flight}
use Rattle.flow_types.specs.declared.parts.Parts.{Parts}
use Rattle.flow_types.specs.declared.place.Place.{Place}
use Rattle.flow_types.specs.declared.place.PlaceKind.{PlaceKind}
use Rattle.flow_types.specs.declared.place.PlaceKind.TheVariants.{Airport, Sector}
use Rattle.flow_types.specs.Calendar.{IsDate}
use Rattle.flow_types.specs.Limits as limits
use Rattle.flow_types.specs.Routes.{is_airport, IsRoute}
use Rattle.flow_types.specs.Words.{is_name}

-- a date and time of the calendar, and periods within their limits
pub record IsDay (day : Day) : Type 0 where
  pub year_from : 1 ≤ day.year
  pub year_to : day.year ≤ limits.last_year
  pub date : IsDate day.year day.month day.day
  pub hour : day.hour ≤ 23
  pub minute : day.minute ≤ 59
  pub minutes_from : 1 ≤ day.minutes
  pub minutes_to : day.minutes ≤ limits.most_minutes
  pub periods_from : 1 ≤ day.periods
  pub periods_to : day.periods ≤ limits.most_periods

-- how many arrival capacities a place has: an airport one for each period
abbrev pub arrival_count : PlaceKind → ℕ → ℕ
arrival_count Airport periods = periods
arrival_count Sector periods = 0

-- a name, and capacities within their limit for every period
pub record IsPlace (periods : ℕ) (place : Place) : Type 0 where
  pub name : IsTrue (is_name place.name)
  pub first_count : length place.first ≡ periods
  pub second_count : length place.second ≡ arrival_count place.kind periods
  pub first : All (λ c. c ≤ limits.most_capacity) place.first
  pub second : All (λ c. c ≤ limits.most_capacity) place.second

-- how many values a table has, 0 where there is no table
abbrev pub value_count : Option CostTable → ℕ
value_count None = 0
value_count (Some table) = length table.values

-- factors within their limit, or tables that reach to the greatest delays
abbrev pub is_cost : List CostTable → ℕ → ℕ → Cost → Bool
is_cost tables mg md (Linear on_ground airborne) =
    nat_le on_ground limits.most_period_cost && nat_le airborne limits.most_period_cost
is_cost tables mg md (Tables total credit) =
    nat_le (md + 1) (value_count (slice_get tables total))
    && nat_le (mg + 1) (value_count (slice_get tables credit))

-- from one airport to another along a route, within the day, at a known cost
pub record IsFlight (periods : ℕ) (places : List Place) (tables : List CostTable)
    (flight : Flight) : Type 0 where
  pub name : IsTrue (is_name flight.name)
  pub forward : flight.sd ≤ flight.sa
  pub within : flight.sa < periods
  pub ground_delay : flight.mg ≤ limits.most_delay
  pub arrival_delay : flight.md ≤ limits.most_delay
  pub origin : IsTrue (is_airport (slice_get places flight.from))
  pub destination : IsTrue (is_airport (slice_get places flight.to))
  pub apart : flight.from ≢ flight.to
  pub route : IsRoute places flight.from flight.to flight.nodes flight.legs
  pub cost : IsTrue (is_cost tables flight.mg flight.md flight.cost)

-- no further from zero than a value may be
abbrev pub IsValue : ℤ → Type 0
IsValue v = IsNear limits.most_value v

pub record IsTable (table : CostTable) : Type 0 where
  pub name : IsTrue (is_name table.name)
  pub some : 1 ≤ length table.values
  pub few : length table.values ≤ limits.most_values
  pub values : All IsValue table.values

-- where a flight begins and ends
abbrev pub origin_of : Option Flight → Option ℕ
origin_of None = None
origin_of (Some flight) = Some flight.from

abbrev pub destination_of : Option Flight → Option ℕ
destination_of None = None
destination_of (Some flight) = Some flight.to

-- the second flight departs from where the first arrives
pub record IsConnection (flights : List Flight) (connection : Connection) : Type 0 where
  pub first : connection.first < length flights
  pub second : connection.second < length flights
  pub together : origin_of (slice_get flights connection.second)
      ≡ destination_of (slice_get flights connection.first)
  pub turnaround : connection.turnaround ≤ limits.most_delay

-- the two join different pairs of flights
abbrev pub IsOtherConnection : Connection → Connection → Type 0
IsOtherConnection a b = a.first ≡ b.first → a.second ≢ b.second

-- What holds of each list of a day: it passes no limit, each item is valid, and no two have
-- one name, or connect one pair of flights.

pub record ArePlaces (periods : ℕ) (places : List Place) : Type 0 where
  pub few : length places ≤ limits.most_places
  pub each : All (IsPlace periods) places
  pub names : AllPairs (λ a b. a.name ≢ b.name) places

pub record AreFlights (periods : ℕ) (places : List Place) (tables : List CostTable)
    (flights : List Flight) : Type 0 where
  pub few : length flights ≤ limits.most_flights
  pub each : All (IsFlight periods places tables) flights
  pub names : AllPairs (λ a b. a.name ≢ b.name) flights
  pub nodes_few : sum_by (λ flight. length flight.nodes) flights ≤ limits.most_nodes_in_all

pub record AreTables (tables : List CostTable) : Type 0 where
  pub few : length tables ≤ limits.most_tables
  pub each : All IsTable tables
  pub names : AllPairs (λ a b. a.name ≢ b.name) tables

pub record AreConnections (flights : List Flight) (connections : List Connection) : Type 0 where
  pub few : length connections ≤ limits.most_connections
  pub each : All (IsConnection flights) connections
  pub once : AllPairs IsOtherConnection connections

-- a day, and one fact for each of its lists
pub record IsScenario (parts : Parts) : Type 0 where
  pub day : IsDay parts.day
  pub places : ArePlaces parts.day.periods parts.places
  pub flights : AreFlights parts.day.periods parts.places parts.tables parts.flights
  pub tables : AreTables parts.tables
  pub connections : AreConnections parts.flights parts.connections
