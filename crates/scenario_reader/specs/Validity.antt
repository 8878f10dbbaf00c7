-- What holds of all that has been read, so that it becomes a valid scenario in the end.
use Rattle.std.specs.Prelude.{◌≡◌, ◌≢◌, ℕ, ◌+◌, ◌<◌, ◌≤◌, ◌==◌, Bool, true, false, ◌&&◌, ◌||◌, List, [], ◌∷◌, length, map, max, nat_le, IsTrue, Some, All, AllPairs, slice_get}
use Rattle.std.specs.List.{list_any}
use Rattle.flow_types.specs.Capacities.{has_kind}
use Rattle.flow_types.specs.Routes.{is_airport, is_sector}
use Rattle.flow_types.specs.Valid.{ArePlaces, AreTables, is_cost, IsDay, IsOtherConnection}
use Rattle.flow_types.specs.Words.{is_name}
use Rattle.flow_types.specs.declared.flight.Connection.{Connection}
use Rattle.flow_types.specs.declared.flight.Cost.TheVariants.{Tables}
use Rattle.flow_types.specs.declared.flight.CostTable.{CostTable}
use Rattle.flow_types.specs.declared.place.Place.{Place}
use Rattle.scenario_reader.specs.Connections.{meet}
use Rattle.scenario_reader.specs.Finish.{node_of}
use Rattle.scenario_reader.specs.Legs.{adds_node, is_among, is_back, is_full, is_joined, is_own}
use Rattle.scenario_reader.specs.Sectors.{most_sectors}
use Rattle.scenario_reader.specs.DraftParts.{node_total, DraftParts}
use Rattle.scenario_reader.specs.declared.flight_draft.FlightDraft.{FlightDraft}
use Rattle.scenario_reader.specs.declared.capacities.CapChange.{CapChange}
use Rattle.scenario_reader.specs.declared.tables.Pricing.{Pricing}
use Rattle.scenario_reader.specs.declared.flight_draft.PlaceLeg.{PlaceLeg}
use Rattle.scenario_reader.specs.declared.flight_draft.Hours.{Hours}
use Rattle.flow_types.specs.Limits.{most_capacity, most_connections, most_delay, most_flights, most_legs, most_nodes_in_all}

-- within the day, and not back in time
pub record IsHours (periods : ℕ) (hours : Hours) : Type 0 where
  pub forward : hours.sd ≤ hours.sa
  pub within : hours.sa < periods
  pub ground_delay : hours.mg ≤ most_delay
  pub arrival_delay : hours.md ≤ most_delay

-- the places that a leg may start from so far: the origin, and the sectors passed
abbrev pub visited : FlightDraft → List ℕ
visited flight = flight.from ∷ flight.passed

-- a leg from a visited place to the destination or a sector reached, upward in the order of visits
pub record IsPlaceLeg (visits : List ℕ) (to : ℕ) (reached : List ℕ) (leg : PlaceLeg) : Type 0 where
  pub start : IsTrue (is_among visits leg.from)
  pub end : IsTrue (leg.to == to || is_among reached leg.to)
  pub upward : node_of visits leg.from < node_of visits leg.to
  pub least : leg.least ≤ most_delay

-- the two legs join different pairs of places
abbrev pub IsOtherPlaceLeg : PlaceLeg → PlaceLeg → Type 0
IsOtherPlaceLeg a b = a.from ≡ b.from → a.to ≢ b.to

-- a leg starts from the place; a leg leads to it
abbrev pub starts_leg : List PlaceLeg → ℕ → Bool
starts_leg legs place = list_any (λ leg. leg.from == place) legs

abbrev pub ends_leg : List PlaceLeg → ℕ → Bool
ends_leg legs place = list_any (λ leg. leg.to == place) legs

-- each start stands before `next`, or is `next`, which then goes up by one
abbrev pub in_order : ℕ → List ℕ → Bool
in_order next [] = true
in_order next (start ∷ starts) = nat_le start next && in_order (max next (start + 1)) starts

-- the next start, after these
abbrev pub next_start : ℕ → List ℕ → ℕ
next_start next [] = next
next_start next (start ∷ starts) = next_start (max next (start + 1)) starts

-- where the legs start, in the order of visits
abbrev pub starts_of : List ℕ → List PlaceLeg → List ℕ
starts_of visits legs = map (λ leg. node_of visits leg.from) legs

-- the legs lead on from the origin, each from where a leg has led
pub record IsNetwork (places : List Place) (flight : FlightDraft) : Type 0 where
  pub legs_few : length flight.legs ≤ most_legs
  pub reached_few : length flight.reached ≤ most_sectors
  pub sectors : All (λ place. IsTrue (is_sector (slice_get places place))) flight.reached
  pub passed_once : AllPairs (λ a b. a ≢ b) flight.passed
  pub passed_reached : All (λ place. IsTrue (is_among flight.reached place)) flight.passed
  pub entered : All (λ place. IsTrue (ends_leg flight.legs place)) flight.reached
  pub left : All (λ place. IsTrue (starts_leg flight.legs place)) flight.passed
  pub begins : 0 < length flight.legs → IsTrue (starts_leg flight.legs flight.from)
  pub legs : All (IsPlaceLeg (visited flight) flight.to flight.reached) flight.legs
  pub once : AllPairs IsOtherPlaceLeg flight.legs
  pub order : IsTrue (in_order 1 (starts_of (visited flight) flight.legs))
  pub next : next_start 1 (starts_of (visited flight) flight.legs) ≡ length flight.passed + 1

-- a flight that can become a valid one
pub record IsFlightDraft (periods : ℕ) (places : List Place) (tables : List CostTable)
    (flight : FlightDraft) : Type 0 where
  pub name : IsTrue (is_name flight.name)
  pub hours : IsHours periods flight.hours
  pub origin : IsTrue (is_airport (slice_get places flight.from))
  pub destination : IsTrue (is_airport (slice_get places flight.to))
  pub apart : flight.from ≢ flight.to
  pub cost : IsTrue (is_cost tables flight.hours.mg flight.hours.md flight.cost)
  pub network : IsNetwork places flight

-- a leg that a flight may have next
pub record IsNewLeg (places : List Place) (total : ℕ) (flight : FlightDraft)
    (leg : PlaceLeg) : Type 0 where
  pub room : length flight.legs < most_legs
  pub start : IsTrue (leg.from == flight.from || is_among flight.reached leg.from)
  pub own : IsTrue (is_own places flight leg.to)
  pub once : is_joined flight.legs leg.from leg.to ≡ false
  pub onward : is_back flight leg.from leg.to ≡ false
  pub few : (adds_node flight leg.to && is_full total flight) ≡ false
  pub least : leg.least ≤ most_delay

-- the second flight departs from where the first arrives
pub record IsMeeting (flights : List FlightDraft) (connection : Connection) : Type 0 where
  pub together : IsTrue (meet flights connection.first connection.second)
  pub turnaround : connection.turnaround ≤ most_delay

-- a change that a place may have next
pub record IsCapChange (periods : ℕ) (places : List Place) (change : CapChange) : Type 0 where
  pub place : IsTrue (has_kind change.kind (slice_get places change.place))
  pub forward : change.first ≤ change.last
  pub within : change.last < periods
  pub few : change.value ≤ most_capacity

-- tables that a flight may have
pub record IsPricing (flights : List FlightDraft) (tables : List CostTable)
    (pricing : Pricing) : Type 0 where
  pub flight : pricing.flight < length flights
  pub long : (flight : FlightDraft) → slice_get flights pricing.flight ≡ Some flight
      → IsTrue (is_cost tables flight.hours.mg flight.hours.md
      (Tables pricing.total pricing.credit))

-- flights that can become valid ones
pub record AreFlightDrafts (periods : ℕ) (places : List Place) (tables : List CostTable)
    (flights : List FlightDraft) : Type 0 where
  pub few : length flights ≤ most_flights
  pub each : All (IsFlightDraft periods places tables) flights
  pub names : AllPairs (λ a b. a.name ≢ b.name) flights
  pub nodes_few : node_total flights ≤ most_nodes_in_all

pub record AreMeetings (flights : List FlightDraft) (connections : List Connection) : Type 0 where
  pub few : length connections ≤ most_connections
  pub each : All (IsMeeting flights) connections
  pub once : AllPairs IsOtherConnection connections

-- all that has been read keeps the rules
pub record IsValidDraft (draft : DraftParts) : Type 0 where
  pub day : IsDay draft.day
  pub places : ArePlaces draft.day.periods draft.places
  pub flights : AreFlightDrafts draft.day.periods draft.places draft.tables draft.flights
  pub tables : AreTables draft.tables
  pub connections : AreMeetings draft.flights draft.connections
