-- What has been read keeps the rules with a place, a flight or a leg more.
use Rattle.std.proofs.Common.{◌≡◌, ◌≢◌, ℕ, zero, suc, ◌+◌, ◌-◌, ◌==◌, eq-eqb, ◌<◌, ◌≤◌, Bool, true, false, cond, ◌||◌, ◌&&◌, List, [], ◌∷◌, ◌++◌, length, get_or, map, Option, Some, None, refl, sym, ap, subst, arith, ◌∙◌, All, AllPairs, length-append}
use Rattle.std.specs.Prelude.{nat_le, slice_get}
use Rattle.std.specs.Cmp.Lexicographic.{nat_list_eq_equiv}
use Rattle.std.specs.List.{list_any}
use Rattle.std.specs.Str.{bytes_eq}
use Rattle.std.proofs.lemmas.Bool.{and_parts, false≢true, leb-false, lt-leb, or_parts}
use Rattle.std.proofs.lemmas.List.Elements.{All-push, All-set}
use Rattle.std.proofs.lemmas.List.{length-set, map-append}
use Rattle.std.proofs.lemmas.List.Quantifiers.{all_pairs_push}
use Rattle.std.proofs.lemmas.List.Sums.{sum_by-cons, sum_by_push}
use Rattle.std.proofs.lemmas.Option.{same_Some}
use Rattle.flow_types.specs.Routes.{is_airport, is_sector}
use Rattle.flow_types.specs.Valid.{is_cost, IsOtherConnection, IsPlace, IsTable, value_count}
use Rattle.flow_types.specs.declared.day.Day.{Day}
use Rattle.flow_types.specs.Limits.{most_capacity, most_nodes_in_all}
use Rattle.flow_types.specs.Lists.{filled}
use Rattle.flow_types.specs.declared.flight.Connection.{Connection}
use Rattle.flow_types.specs.declared.flight.Cost.{Cost}
use Rattle.flow_types.specs.declared.flight.Cost.TheVariants.{Linear, Tables}
use Rattle.flow_types.specs.declared.flight.CostTable.{CostTable}
use Rattle.flow_types.specs.declared.place.CapKind.{CapKind}
use Rattle.flow_types.specs.declared.place.CapKind.TheVariants as kind
use Rattle.flow_types.specs.declared.place.PlaceKind.{PlaceKind}
use Rattle.flow_types.specs.declared.place.PlaceKind.TheVariants.{Airport, Sector}
use Rattle.flow_types.specs.Capacities.{has_kind}
use Rattle.flow_types.specs.declared.place.Place.{Place}
use Rattle.scenario_reader.specs.Capacities.{caps_for, changed_caps, Reaches, with_change, with_change_of}
use Rattle.scenario_reader.specs.Change.{changed_at}
use Rattle.scenario_reader.specs.Connections.{are_connected, is_same_place}
use Rattle.scenario_reader.specs.Drafts.{IsDraft}
use Rattle.scenario_reader.specs.Legs.{adds_node, with_leg, with_leg_at}
use Rattle.text_records.specs.Names.{position_of}
use Rattle.scenario_reader.specs.Reading.{with_cap_change, with_connection, with_flight, with_flight_leg, with_place, with_pricing, with_table}
use Rattle.scenario_reader.specs.DraftParts.{destinations, flight_names, node_count, node_total, origins, place_names, DraftParts, table_names}
use Rattle.scenario_reader.specs.Tables.{with_cost, with_cost_at}
use Rattle.scenario_reader.specs.Validity.{AreFlightDrafts, AreMeetings, IsFlightDraft, IsCapChange, IsMeeting, IsNetwork, IsNewLeg, IsPricing, IsValidDraft}
use Rattle.scenario_reader.specs.declared.flight_draft.FlightDraft.{FlightDraft}
use Rattle.scenario_reader.specs.declared.flight_draft.PlaceLeg.{PlaceLeg}
use Rattle.scenario_reader.specs.declared.capacities.CapChange.{CapChange}
use Rattle.scenario_reader.specs.declared.tables.Pricing.{Pricing}
use Rattle.scenario_reader.proofs.ChangeFacts.{All-changed, get_changed, length-changed, map-changed, pairs_changed}
use Rattle.text_records.proofs.NameFacts.{position-none}
use Rattle.scenario_reader.proofs.NetworkFacts.{network_grows}
use Rattle.scenario_reader.proofs.PlaceFacts.{length_new}

same_bytes : (name : List ℕ) → bytes_eq name name ≡ true
same_bytes name = nat_list_eq_equiv.refl name

-- a name that isn't among these differs from each
name_apart : {X : Type 0} (name_of : X → List ℕ) (xs : List X) (name : List ℕ) (k : ℕ) (d : X)
    → list_any (bytes_eq name) (map name_of xs) ≡ false → k < length xs
    → name_of (get_or xs k d) ≢ name
name_apart name_of [] name k d none h = absurd (omega arith)
name_apart name_of (x ∷ xs) name zero d none h = λ e.
    let first : bytes_eq name (name_of x) ≡ false = (or_parts _ _ none).0 in
    let same : bytes_eq name (name_of x) ≡ true = ap (bytes_eq name) e ∙ same_bytes name in
    false≢true (sym first ∙ same)
name_apart name_of (x ∷ xs) name (suc k) d none h =
    name_apart name_of xs name k d (or_parts _ _ none).1 (omega arith)

pub names_more : {X : Type 0} (name_of : X → List ℕ) (xs : List X) (x : X)
    → AllPairs (λ a b. name_of a ≢ name_of b) xs
    → position_of (name_of x) (map name_of xs) ≡ None
    → AllPairs (λ a b. name_of a ≢ name_of b) (xs ++ x ∷ [])
names_more name_of xs x apart fresh =
    let none : list_any (bytes_eq (name_of x)) (map name_of xs) ≡ false =
    position-none (bytes_eq (name_of x)) (map name_of xs) fresh in
    all_pairs_push (λ a b. name_of a ≢ name_of b) xs x apart
    (λ k d h. name_apart name_of xs (name_of x) k d none h)

-- what is found in a list is found in the longer one
found_front : {X : Type 0} (test : Option X → Bool) → test None ≡ false
    → (xs : List X) (x : X) (k : ℕ)
    → test (slice_get xs k) ≡ true → test (slice_get (xs ++ x ∷ []) k) ≡ true
found_front test none [] x k h = absurd (false≢true (sym none ∙ h))
found_front test none (first ∷ xs) x zero h = h
found_front test none (first ∷ xs) x (suc k) h = found_front test none xs x k h

-- two that are found in two lists are found in the longer ones
both_front : (xs ys : List ℕ) (x y i j : ℕ) → is_same_place (slice_get xs i) (slice_get ys j) ≡ true
    → is_same_place (slice_get (xs ++ x ∷ []) i) (slice_get (ys ++ y ∷ []) j) ≡ true
both_front xs ys x y i j h =
    let first = found_front (λ o. is_same_place o (slice_get ys j)) refl xs x i h in
    found_front (λ o. is_same_place (slice_get (xs ++ x ∷ []) i) o)
    (none_at (slice_get (xs ++ x ∷ []) i)) ys y j first
  where
    none_at : (o : Option ℕ) → is_same_place o None ≡ false
    none_at None = refl
    none_at (Some a) = refl

-- what is an airport or a sector stays one
pub record Keeps (places later : List Place) : Type 0 where
  pub airports : (k : ℕ) → is_airport (slice_get places k) ≡ true
      → is_airport (slice_get later k) ≡ true
  pub sectors : (k : ℕ) → is_sector (slice_get places k) ≡ true
      → is_sector (slice_get later k) ≡ true

network_kept : (places later : List Place) (flight : FlightDraft) → Keeps places later
    → IsNetwork places flight → IsNetwork later flight
network_kept places later flight keeps network = record {
  legs_few = network.legs_few;
  reached_few = network.reached_few;
  sectors = λ k d h. keeps.sectors (get_or flight.reached k d) (network.sectors k d h);
  passed_once = network.passed_once;
  passed_reached = network.passed_reached;
  entered = network.entered;
  left = network.left;
  begins = network.begins;
  legs = network.legs;
  once = network.once;
  order = network.order;
  next = network.next;
}

flight_kept : (periods : ℕ) (places later : List Place) (tables : List CostTable)
    (flight : FlightDraft) → Keeps places later
    → IsFlightDraft periods places tables flight → IsFlightDraft periods later tables flight
flight_kept periods places later tables flight keeps valid = record {
  name = valid.name;
  hours = valid.hours;
  origin = keeps.airports flight.from valid.origin;
  destination = keeps.airports flight.to valid.destination;
  apart = valid.apart;
  cost = valid.cost;
  network = network_kept places later flight keeps valid.network;
}

-- flights keep their rules beside other places and tables where each of them does
flights_beside : (periods : ℕ) (places later : List Place) (tables more : List CostTable)
    (flights : List FlightDraft)
    → ((flight : FlightDraft) → IsFlightDraft periods places tables flight
    → IsFlightDraft periods later more flight)
    → AreFlightDrafts periods places tables flights → AreFlightDrafts periods later more flights
flights_beside periods places later tables more flights keeps valid = record {
  few = valid.few;
  each = λ k d h. keeps (get_or flights k d) (valid.each k d h);
  names = valid.names;
  nodes_few = valid.nodes_few;
}

-- so do flights of which one changes and keeps its name
flights_changed : (periods : ℕ) (places : List Place) (tables : List CostTable)
    (change : FlightDraft → FlightDraft) (flights : List FlightDraft) (k : ℕ)
    → ((flight : FlightDraft) → (change flight).name ≡ flight.name)
    → ((flight : FlightDraft) → slice_get flights k ≡ Some flight
    → IsFlightDraft periods places tables flight
    → IsFlightDraft periods places tables (change flight))
    → node_total (changed_at change flights k) ≤ most_nodes_in_all
    → AreFlightDrafts periods places tables flights
    → AreFlightDrafts periods places tables (changed_at change flights k)
flights_changed periods places tables change flights k same keeps total valid = record {
  few = rw (length-changed change flights k) valid.few;
  each = All-changed (IsFlightDraft periods places tables) change flights k valid.each keeps;
  names = pairs_changed (λ (f : FlightDraft). f.name) change same flights k valid.names;
  nodes_few = total;
}

-- connections keep their rules beside other flights where each of them does
meetings_beside : (flights later : List FlightDraft) (connections : List Connection)
    → ((connection : Connection) → IsMeeting flights connection → IsMeeting later connection)
    → AreMeetings flights connections → AreMeetings later connections
meetings_beside flights later connections keeps valid = record {
  few = valid.few;
  each = λ k d h. keeps (get_or connections k d) (valid.each k d h);
  once = valid.once;
}

-- so do they where one flight changes, and begins and ends as before
meetings_changed : (change : FlightDraft → FlightDraft) (flights : List FlightDraft) (k : ℕ)
    (connections : List Connection)
    → ((flight : FlightDraft) → (change flight).from ≡ flight.from)
    → ((flight : FlightDraft) → (change flight).to ≡ flight.to)
    → AreMeetings flights connections → AreMeetings (changed_at change flights k) connections
meetings_changed change flights k connections from to valid =
    meetings_beside flights (changed_at change flights k) connections
    (λ connection meeting. record {
      together = rw (
        map-changed (λ (f : FlightDraft). f.from) change from flights k,
        map-changed (λ (f : FlightDraft). f.to) change to flights k,
      ) meeting.together;
      turnaround = meeting.turnaround;
    }) valid

pub parts_with_place : (draft : DraftParts) (place : Place) → IsValidDraft draft
    → IsPlace draft.day.periods place
    → position_of place.name (place_names draft.places) ≡ None → length draft.places < 1000
    → IsValidDraft (with_place draft place)
parts_with_place draft place valid one fresh room = record {
  day = valid.day;
  places = record {
    few = let more = length-append draft.places (place ∷ []) in let few = valid.places.few in
        omega arith;
    each = All-push (IsPlace draft.day.periods) draft.places place valid.places.each one;
    names = names_more (λ p. p.name) draft.places place valid.places.names fresh;
  };
  flights = flights_beside draft.day.periods draft.places (draft.places ++ place ∷ [])
      draft.tables draft.tables draft.flights
      (λ flight. flight_kept draft.day.periods draft.places (draft.places ++ place ∷ [])
      draft.tables flight (record {
        airports = found_front is_airport refl draft.places place;
        sectors = found_front is_sector refl draft.places place;
      })) valid.flights;
  tables = valid.tables;
  connections = valid.connections;
}

pub total_push : (flights : List FlightDraft) (flight : FlightDraft)
    → node_total (flights ++ flight ∷ []) ≡ node_total flights + node_count flight
total_push flights flight = sum_by_push node_count flights flight

meeting_with_flight : (flights : List FlightDraft) (flight : FlightDraft) (connection : Connection)
    → IsMeeting flights connection → IsMeeting (flights ++ flight ∷ []) connection
meeting_with_flight flights flight connection meeting = record {
  together = rw (
    map-append (λ (f : FlightDraft). f.from) flights (flight ∷ []),
    map-append
        (λ (f : FlightDraft). f.to) flights (flight ∷ []),
  )
      (both_front (origins flights)
      (destinations flights) flight.from flight.to connection.second connection.first
      meeting.together);
  turnaround = meeting.turnaround;
}

pub parts_with_flight : (draft : DraftParts) (flight : FlightDraft) → IsValidDraft draft
    → IsFlightDraft draft.day.periods draft.places draft.tables flight
    → position_of flight.name (flight_names draft.flights) ≡ None → length draft.flights < 2000
    → node_total draft.flights + node_count flight ≤ 20000 → IsValidDraft (with_flight draft flight)
parts_with_flight draft flight valid one fresh room few = record {
  day = valid.day;
  places = valid.places;
  flights = record {
    few = let more = length-append draft.flights (flight ∷ []) in omega arith;
    each = All-push (IsFlightDraft draft.day.periods draft.places draft.tables) draft.flights
        flight valid.flights.each one;
    names = names_more (λ f. f.name) draft.flights flight valid.flights.names fresh;
    nodes_few = let more = total_push draft.flights flight in omega arith;
  };
  tables = valid.tables;
  connections = meetings_beside draft.flights (draft.flights ++ flight ∷ []) draft.connections
      (meeting_with_flight draft.flights flight) valid.connections;
}

flight_with_leg : (periods : ℕ) (places : List Place) (tables : List CostTable) (total : ℕ)
    (flight : FlightDraft) (leg : PlaceLeg) → IsFlightDraft periods places tables flight
    → IsNewLeg places total flight leg → IsFlightDraft periods places tables (with_leg flight leg)
flight_with_leg periods places tables total flight leg valid new = record {
  name = valid.name;
  hours = valid.hours;
  origin = valid.origin;
  destination = valid.destination;
  apart = valid.apart;
  cost = valid.cost;
  network = network_grows places total flight leg valid.network new;
}

total_with_leg : (flights : List FlightDraft) (k : ℕ) (leg : PlaceLeg) (flight : FlightDraft)
    → slice_get flights k ≡ Some flight
    → node_total (with_leg_at flights k leg) ≡ node_total flights
    + cond (adds_node flight leg.to) 1 0
total_with_leg [] k leg flight h = absurd cc
total_with_leg (first ∷ flights) zero leg flight h =
    let same : first ≡ flight = cc in
    let more = length_new (adds_node flight leg.to) flight.reached leg.to in
    rw (
      same,
      sum_by-cons node_count
          (with_leg flight leg) flights,
      sum_by-cons node_count flight flights,
    ) (omega arith)
total_with_leg (first ∷ flights) (suc k) leg flight h =
    let more = total_with_leg flights k leg flight h in
    rw (
      sum_by-cons node_count first
          (with_leg_at flights k leg),
      sum_by-cons node_count first flights,
    ) (omega arith)

room_for : (adds full : Bool) (n total : ℕ) → (adds && (full || nat_le 20000 total)) ≡ false
    → total ≤ 20000 → total + cond adds 1 0 ≤ 20000
room_for false full n total h le = omega arith
room_for true full n total h le = let few : total < 20000 =
    leb-false 20000 total (or_parts full (nat_le 20000 total) h).1 in omega arith

pub parts_with_leg : (draft : DraftParts) (k : ℕ) (leg : PlaceLeg) (flight : FlightDraft)
    → IsValidDraft draft → slice_get draft.flights k ≡ Some flight
    → IsNewLeg draft.places (node_total draft.flights) flight leg
    → IsValidDraft (with_flight_leg draft (k, leg))
parts_with_leg draft k leg flight valid here new = record {
  day = valid.day;
  places = valid.places;
  flights = flights_changed draft.day.periods draft.places draft.tables (λ f. with_leg f leg)
      draft.flights k (λ f. refl)
      (λ f e valid. let same : flight ≡ f = same_Some flight f (sym here ∙ e) in
      flight_with_leg draft.day.periods draft.places draft.tables (node_total draft.flights) f leg
      valid (subst (λ (g : FlightDraft). IsNewLeg draft.places (node_total draft.flights) g leg)
      same new))
      (rw (total_with_leg draft.flights k leg flight here)
      (room_for (adds_node flight leg.to) (nat_le 32 (length flight.reached + 2))
      (length flight.reached) (node_total draft.flights) new.few valid.flights.nodes_few))
      valid.flights;
  tables = valid.tables;
  connections = meetings_changed (λ f. with_leg f leg) draft.flights k draft.connections
      (λ f. refl) (λ f. refl) valid.connections;
}

flight_with_cost : (periods : ℕ) (places : List Place) (tables : List CostTable) (cost : Cost)
    (flight : FlightDraft) → IsFlightDraft periods places tables flight
    → is_cost tables flight.hours.mg flight.hours.md cost ≡ true
    → IsFlightDraft periods places tables (with_cost cost flight)
flight_with_cost periods places tables cost flight valid long = record {
  name = valid.name;
  hours = valid.hours;
  origin = valid.origin;
  destination = valid.destination;
  apart = valid.apart;
  cost = long;
  network = network_same (valid.network);
}
  where
    network_same : IsNetwork places flight → IsNetwork places (with_cost cost flight)
    network_same network = record {
      legs_few = network.legs_few;
      reached_few = network.reached_few;
      sectors = network.sectors;
      passed_once = network.passed_once;
      passed_reached = network.passed_reached;
      entered = network.entered;
      left = network.left;
      begins = network.begins;
      legs = network.legs;
      once = network.once;
      order = network.order;
      next = network.next;
    }

total_with_cost : (flights : List FlightDraft) (k : ℕ) (cost : Cost)
    → node_total (with_cost_at flights k cost) ≡ node_total flights
total_with_cost [] k cost = refl
total_with_cost (flight ∷ flights) zero cost =
    sum_by-cons node_count (with_cost cost flight) flights
    ∙ sym (sum_by-cons node_count flight flights)
total_with_cost (flight ∷ flights) (suc k) cost =
    rw (
      sum_by-cons node_count flight
          (with_cost_at flights k cost),
      sum_by-cons node_count flight flights,
      total_with_cost
          flights k cost,
    ) refl

pub parts_with_pricing : (draft : DraftParts) (pricing : Pricing) → IsValidDraft draft
    → IsPricing draft.flights draft.tables pricing → IsValidDraft (with_pricing draft pricing)
parts_with_pricing draft pricing valid new =
    let cost = Tables pricing.total pricing.credit in
    record {
      day = valid.day;
      places = valid.places;
      flights = flights_changed draft.day.periods draft.places draft.tables (with_cost cost)
          draft.flights pricing.flight (λ f. refl)
          (λ f e valid. flight_with_cost draft.day.periods draft.places draft.tables cost f valid
          (new.long f e))
          (rw (total_with_cost draft.flights pricing.flight cost) valid.flights.nodes_few)
          valid.flights;
      tables = valid.tables;
      connections = meetings_changed (with_cost cost) draft.flights pricing.flight
          draft.connections (λ f. refl) (λ f. refl) valid.connections;
    }

cost_with_table : (tables : List CostTable) (table : CostTable) (mg md : ℕ) (cost : Cost)
    → is_cost tables mg md cost ≡ true → is_cost (tables ++ table ∷ []) mg md cost ≡ true
cost_with_table tables table mg md (Linear on_ground airborne) h = h
cost_with_table tables table mg md (Tables total credit) h =
    let (first, second) =
    and_parts (nat_le (md + 1) (value_count (slice_get tables total)))
    (nat_le (mg + 1) (value_count (slice_get tables credit))) h in
    rw (
      found_front (λ o. nat_le (md + 1) (value_count o))
          (lt-leb (md + 1) 0 (omega arith)) tables table total first,
      found_front (λ o. nat_le (mg + 1) (value_count o))
          (lt-leb (mg + 1) 0 (omega arith)) tables table credit second,
    ) refl

flight_with_table : (periods : ℕ) (places : List Place) (tables : List CostTable)
    (table : CostTable) (flight : FlightDraft) → IsFlightDraft periods places tables flight
    → IsFlightDraft periods places (tables ++ table ∷ []) flight
flight_with_table periods places tables table flight valid = record {
  name = valid.name;
  hours = valid.hours;
  origin = valid.origin;
  destination = valid.destination;
  apart = valid.apart;
  cost = cost_with_table tables table flight.hours.mg flight.hours.md flight.cost valid.cost;
  network = valid.network;
}

pub parts_with_table : (draft : DraftParts) (table : CostTable) → IsValidDraft draft → IsTable table
    → position_of table.name (table_names draft.tables) ≡ None
    → length draft.tables < 1000 → IsValidDraft (with_table draft table)
parts_with_table draft table valid one fresh room = record {
  day = valid.day;
  places = valid.places;
  flights = flights_beside draft.day.periods draft.places draft.places draft.tables
      (draft.tables ++ table ∷ []) draft.flights
      (flight_with_table draft.day.periods draft.places draft.tables table) valid.flights;
  tables = record {
    few = let more = length-append draft.tables (table ∷ []) in omega arith;
    each = All-push IsTable draft.tables table valid.tables.each one;
    names = names_more (λ t. t.name) draft.tables table valid.tables.names fresh;
  };
  connections = valid.connections;
}

connection_apart : (connections : List Connection) (connection : Connection) (k : ℕ)
    (d : Connection)
    → are_connected connections connection.first connection.second ≡ false → k < length connections
    → IsOtherConnection (get_or connections k d) connection
connection_apart [] connection k d none h = absurd (omega arith)
connection_apart (other ∷ connections) connection zero d none h = λ first second.
    let one : (other.first == connection.first && other.second == connection.second) ≡ false =
    (or_parts _ _ none).0 in
    let same : (other.first == connection.first && other.second == connection.second) ≡ true =
    rw (eq-eqb _ _ first, eq-eqb _ _ second) refl in
    false≢true (sym one ∙ same)
connection_apart (other ∷ connections) connection (suc k) d none h =
    connection_apart connections connection k d (or_parts _ _ none).1 (omega arith)

pub parts_with_connection : (draft : DraftParts) (connection : Connection) → IsValidDraft draft
    → IsMeeting draft.flights connection
    → are_connected draft.connections connection.first connection.second ≡ false
    → length draft.connections < 4000
    → IsValidDraft (with_connection draft connection)
parts_with_connection draft connection valid one once room = record {
  day = valid.day;
  places = valid.places;
  flights = valid.flights;
  tables = valid.tables;
  connections = record {
    few = let more = length-append draft.connections (connection ∷ []) in omega arith;
    each = All-push (IsMeeting draft.flights) draft.connections connection
        valid.connections.each one;
    once = all_pairs_push IsOtherConnection draft.connections connection valid.connections.once
        (λ k d h. connection_apart draft.connections connection k d once h);
  };
}

filled_length : (from count value : ℕ) (caps : List ℕ)
    → length (filled from count value caps) ≡ length caps
filled_length from zero value caps = refl
filled_length from (suc count) value caps =
    length-set (filled from count value caps) (from + count) value
    ∙ filled_length from count value caps

filled_few : (from count value : ℕ) (caps : List ℕ) → value ≤ most_capacity
    → All (λ c. c ≤ most_capacity) caps
    → All (λ c. c ≤ most_capacity) (filled from count value caps)
filled_few from zero value caps few all = all
filled_few from (suc count) value caps few all =
    All-set (λ c. c ≤ most_capacity) (filled from count value caps) (from + count) value few
    (filled_few from count value caps few all)

caps_changed : (change : CapChange) (caps : List ℕ) → change.value ≤ most_capacity
    → All (λ c. c ≤ most_capacity) caps → All (λ c. c ≤ most_capacity) (changed_caps change caps)
caps_changed change caps few all =
    filled_few change.first (change.last + 1 - change.first) change.value caps few all

count_unchanged : (change : CapChange) (caps : List ℕ)
    → length (changed_caps change caps) ≡ length caps
count_unchanged change caps =
    filled_length change.first (change.last + 1 - change.first) change.value caps

-- the capacities of departures, or of a sector, change
first_changed : (periods : ℕ) (change : CapChange) (place : Place)
    → change.value ≤ most_capacity → IsPlace periods place
    → IsPlace periods (record place { first = changed_caps change place.first })
first_changed periods change place few valid = record {
  name = valid.name;
  first_count = count_unchanged change place.first ∙ valid.first_count;
  second_count = valid.second_count;
  first = caps_changed change place.first few valid.first;
  second = valid.second;
}

place_changed : (periods : ℕ) (change : CapChange) (kind : CapKind) (place : Place)
    → change.value ≤ most_capacity → IsPlace periods place
    → IsPlace periods (with_change_of kind change place)
place_changed periods change kind.Dep place few valid = first_changed periods change place few valid
place_changed periods change kind.Sector place few valid =
    first_changed periods change place few valid
place_changed periods change kind.Arr place few valid = record {
  name = valid.name;
  first_count = valid.first_count;
  second_count = count_unchanged change place.second ∙ valid.second_count;
  first = valid.first;
  second = caps_changed change place.second few valid.second;
}

pub name_unchanged : (change : CapChange) (kind : CapKind) (place : Place)
    → (with_change_of kind change place).name ≡ place.name
name_unchanged change kind.Dep place = refl
name_unchanged change kind.Arr place = refl
name_unchanged change kind.Sector place = refl

kind_unchanged : (change : CapChange) (kind : CapKind) (place : Place)
    → (with_change_of kind change place).kind ≡ place.kind
kind_unchanged change kind.Dep place = refl
kind_unchanged change kind.Arr place = refl
kind_unchanged change kind.Sector place = refl

airport_unchanged : (change : CapChange) (place : Place)
    → is_airport (Some (with_change change place)) ≡ is_airport (Some place)
airport_unchanged change place = rw (kind_unchanged change change.kind place) refl

sector_unchanged : (change : CapChange) (place : Place)
    → is_sector (Some (with_change change place)) ≡ is_sector (Some place)
sector_unchanged change place = rw (kind_unchanged change change.kind place) refl

pub parts_with_change : (draft : DraftParts) (change : CapChange) → IsValidDraft draft
    → IsCapChange draft.day.periods draft.places change
    → IsValidDraft (with_cap_change draft change)
parts_with_change draft change valid new = record {
  day = valid.day;
  places = record {
    few = rw (length-changed (with_change change) draft.places change.place) valid.places.few;
    each = All-changed (IsPlace draft.day.periods) (with_change change) draft.places change.place
        valid.places.each
        (λ p e one. place_changed draft.day.periods change change.kind p new.few one);
    names = pairs_changed (λ (p : Place). p.name) (with_change change)
        (λ p. name_unchanged change change.kind p) draft.places change.place valid.places.names;
  };
  flights = flights_beside draft.day.periods draft.places
      (changed_at (with_change change) draft.places change.place) draft.tables draft.tables
      draft.flights
      (λ flight. flight_kept draft.day.periods draft.places
      (changed_at (with_change change) draft.places change.place) draft.tables flight (record {
        airports = λ j e. get_changed is_airport (with_change change)
            (airport_unchanged change) draft.places change.place j ∙ e;
        sectors = λ j e. get_changed is_sector (with_change change)
            (sector_unchanged change) draft.places change.place j ∙ e;
      })) valid.flights;
  tables = valid.tables;
  connections = valid.connections;
}

-- a place that has such capacities has them for every period
is_some_at : {X : Type 0} (test : Option X → Bool) → test None ≡ false → (xs : List X) (k : ℕ)
    → test (slice_get xs k) ≡ true → k < length xs
is_some_at test none [] k h = absurd (false≢true (sym none ∙ h))
is_some_at test none (x ∷ xs) zero h = omega arith
is_some_at test none (x ∷ xs) (suc k) h = let less = is_some_at test none xs k h in omega arith

pub change_within : (periods : ℕ) (places : List Place) (change : CapChange)
    → IsCapChange periods places change → change.place < length places
change_within periods places change new =
    is_some_at (has_kind change.kind) (no_kind change.kind) places change.place new.place
  where
    no_kind : (kind : CapKind) → has_kind kind None ≡ false
    no_kind kind.Dep = refl
    no_kind kind.Arr = refl
    no_kind kind.Sector = refl

all_at : {X : Type 0} (P : X → Type 0) (xs : List X) (k : ℕ) (x : X) → All P xs
    → slice_get xs k ≡ Some x → P x
all_at P [] k x all e = absurd cc
all_at P (y ∷ xs) zero x all e = subst P (same_Some y x e) (all 0 y (omega arith))
all_at P (y ∷ xs) (suc k) x all e = all_at P xs k x (λ j d h. all (suc j) d (omega arith)) e

pub reaches : (day : Day) (places : List Place) (flights : List FlightDraft)
    (tables : List CostTable) (connections : List Connection) (nodes : ℕ) (change : CapChange)
    → IsDraft day places flights tables connections nodes → IsCapChange day.periods places change
    → (place : Place) → slice_get places change.place ≡ Some place → Reaches change place
reaches day places flights tables connections nodes change valid new place here = record {
  forward = new.forward;
  within = by change.kind place.kind refl (rw here at new.place)
      (all_at (IsPlace day.periods) places change.place place valid.parts.places.each here);
}
  where
    by : (kind : CapKind) (place_kind : PlaceKind) → place.kind ≡ place_kind
        → has_kind kind (Some place) ≡ true → IsPlace day.periods place
        → change.last < length (caps_for kind place)
    by kind.Dep place_kind e has one = rw one.first_count new.within
    by kind.Sector place_kind e has one = rw one.first_count new.within
    by kind.Arr Airport e has one = rw (one.second_count, e) new.within
    by kind.Arr Sector e has one = absurd (false≢true (rw e at has))

abbrev parts : Day → List Place → List FlightDraft → List CostTable → List Connection → DraftParts
parts day places flights tables connections =
    record {
      day = day;
      places = places;
      flights = flights;
      tables = tables;
      connections = connections;
    }

pub draft_with_leg : (day : Day) (places : List Place) (flights more : List FlightDraft)
    (tables : List CostTable) (connections : List Connection) (nodes total k : ℕ) (leg : PlaceLeg)
    (flight : FlightDraft)
    → IsDraft day places flights tables connections nodes
    → slice_get flights k ≡ Some flight → IsNewLeg places (node_total flights) flight leg
    → more ≡ with_leg_at flights k leg
    → total ≡ nodes + cond (adds_node flight leg.to) 1 0
    → IsDraft day places more tables connections total
draft_with_leg day places flights more tables connections nodes total k leg flight valid here new is
    sum =
    rw (is, sum) (record {
      parts = parts_with_leg
          (parts day places flights tables connections) k leg flight valid.parts here new;
      counted = rw valid.counted (sym (total_with_leg flights k leg flight here));
    })

pub draft_with_flight : (day : Day) (places : List Place) (flights more : List FlightDraft)
    (tables : List CostTable) (connections : List Connection) (nodes : ℕ) (flight : FlightDraft)
    → IsDraft day places flights tables connections nodes
    → IsFlightDraft day.periods places tables flight
    → position_of flight.name (flight_names flights) ≡ None → flight.reached ≡ []
    → length flights < 2000
    → node_total flights + 2 ≤ 20000 → more ≡ flights ++ flight ∷ []
    → IsDraft day places more tables connections (nodes + 2)
draft_with_flight day places flights more tables connections nodes flight valid one fresh empty room
    few is =
    let two : node_count flight ≡ 2 = rw empty refl in
    let counted = valid.counted in
    let sum = total_push flights flight in
    rw is (record {
      parts = parts_with_flight
          (parts day places flights tables connections) flight valid.parts one fresh room
          (omega arith);
      counted = omega arith;
    })

pub draft_with_place : (day : Day) (places more : List Place) (flights : List FlightDraft)
    (tables : List CostTable) (connections : List Connection) (nodes : ℕ) (place : Place)
    → IsDraft day places flights tables connections nodes
    → IsPlace day.periods place → position_of place.name (place_names places) ≡ None
    → length places < 1000 → more ≡ places ++ place ∷ []
    → IsDraft day more flights tables connections nodes
draft_with_place day places more flights tables connections nodes place valid one fresh room is =
    rw is (record {
      parts = parts_with_place
          (parts day places flights tables connections) place valid.parts one fresh room;
      counted = valid.counted;
    })

pub draft_with_table : (day : Day) (places : List Place) (flights : List FlightDraft)
    (tables more : List CostTable) (connections : List Connection) (nodes : ℕ) (table : CostTable)
    → IsDraft day places flights tables connections nodes
    → IsTable table → position_of table.name (table_names tables) ≡ None → length tables < 1000
    → more ≡ tables ++ table ∷ []
    → IsDraft day places flights more connections nodes
draft_with_table day places flights tables more connections nodes table valid one fresh room is =
    rw is (record {
      parts = parts_with_table
          (parts day places flights tables connections) table valid.parts one fresh room;
      counted = valid.counted;
    })

pub draft_with_connection : (day : Day) (places : List Place) (flights : List FlightDraft)
    (tables : List CostTable) (connections more : List Connection) (nodes : ℕ)
    (connection : Connection)
    → IsDraft day places flights tables connections nodes
    → IsMeeting flights connection
    → are_connected connections connection.first connection.second ≡ false
    → length connections < 4000 → more ≡ connections ++ connection ∷ []
    → IsDraft day places flights tables more nodes
draft_with_connection day places flights tables connections more nodes connection valid one once
    room is =
    rw is (record {
      parts = parts_with_connection
          (parts day places flights tables connections) connection valid.parts one once room;
      counted = valid.counted;
    })

pub draft_with_pricing : (day : Day) (places : List Place) (flights more : List FlightDraft)
    (tables : List CostTable) (connections : List Connection) (nodes : ℕ) (pricing : Pricing)
    → IsDraft day places flights tables connections nodes → IsPricing flights tables pricing
    → more ≡ with_cost_at flights pricing.flight (Tables pricing.total pricing.credit)
    → IsDraft day places more tables connections nodes
draft_with_pricing day places flights more tables connections nodes pricing valid new is =
    rw is (record {
      parts = parts_with_pricing
          (parts day places flights tables connections) pricing valid.parts new;
      counted = valid.counted
          ∙ sym (total_with_cost flights pricing.flight (Tables pricing.total pricing.credit));
    })

pub draft_with_change : (day : Day) (places more : List Place) (flights : List FlightDraft)
    (tables : List CostTable) (connections : List Connection) (nodes : ℕ) (change : CapChange)
    → IsDraft day places flights tables connections nodes → IsCapChange day.periods places change
    → more ≡ changed_at (with_change change) places change.place
    → IsDraft day more flights tables connections nodes
draft_with_change day places more flights tables connections nodes change valid new is =
    rw is (record {
      parts = parts_with_change
          (parts day places flights tables connections) change valid.parts new;
      counted = valid.counted;
    })

-- the network of a flight of a draft
pub network_at : (draft : DraftParts) (k : ℕ) (flight : FlightDraft) → IsValidDraft draft
    → slice_get draft.flights k ≡ Some flight → IsNetwork draft.places flight
network_at draft k flight valid here =
    (all_at (IsFlightDraft draft.day.periods draft.places draft.tables) draft.flights k flight
    valid.flights.each here).network
