-- What is known of days, places, flights, connections and changes of capacities that read.
use Rattle.std.proofs.Common.{◌≡◌, ◌≢◌, ℕ, ◌+◌, ◌-◌, ◌==◌, ◌<◌, ◌≤◌, false, IsTrue, List, [], length, Option, Some, None, Ok, refl, sym, subst, ◌∙◌, arith, eq-eqb}
use Rattle.std.specs.Prelude.{nat_le, nat_lt, slice_get}
use Rattle.std.proofs.lemmas.Bool.{false≢true, le-leb, leb-false, ltb-false}
use Rattle.std.proofs.lemmas.List.Elements.{All-replicate}
use Rattle.std.proofs.lemmas.List.{length-replicate}
use Rattle.flow_types.specs.Capacities.{has_kind}
use Rattle.flow_types.specs.Limits.{most_capacity, most_connections, most_delay, most_flights, most_minutes, most_nodes_in_all, most_period_cost, most_periods, most_places}
use Rattle.flow_types.specs.Routes.{is_airport}
use Rattle.flow_types.specs.Valid.{is_cost, IsDay, IsPlace}
use Rattle.flow_types.specs.declared.day.Day.{Day}
use Rattle.flow_types.specs.declared.flight.Connection.{Connection}
use Rattle.flow_types.specs.declared.flight.Cost.{Cost}
use Rattle.flow_types.specs.declared.flight.CostTable.{CostTable}
use Rattle.flow_types.specs.declared.place.CapKind.{CapKind}
use Rattle.flow_types.specs.declared.place.Place.{Place}
use Rattle.text_records.specs.Fields.{ends_after, field_in, name_in, number_in}
use Rattle.text_records.specs.Names.{known_in, new_name, position_of}
use Rattle.text_records.specs.Rows.{Fields}
use Rattle.scenario_reader.specs.Capacities.{cap_change_of, cap_kind_at, cap_kind_of, last_in, place_in}
use Rattle.scenario_reader.specs.Connections.{are_connected, connection_of, first_in, meet, second_in}
use Rattle.scenario_reader.specs.Dates.{moment_of}
use Rattle.scenario_reader.specs.DraftParts.{DraftParts, flight_names, node_total, place_names}
use Rattle.scenario_reader.specs.Flights.{airport_at, arrival_in, cost_in, destination_in, flight_name_of, flight_of, hours_in, origin_in, other_airport_at}
use Rattle.scenario_reader.specs.Places.{airport_of, day_of, sector_of}
use Rattle.scenario_reader.specs.Validity.{IsCapChange, IsFlightDraft, IsHours, IsMeeting, IsNetwork}
use Rattle.scenario_reader.specs.declared.capacities.CapChange.{CapChange}
use Rattle.scenario_reader.specs.declared.flight_draft.FlightDraft.{FlightDraft}
use Rattle.scenario_reader.specs.declared.flight_draft.Hours.{Hours}
use Rattle.text_records.proofs.StepFacts.{bound, given, holds, ok_is, passed}
use Rattle.scenario_reader.proofs.ValidFields.{IsLater, later_is, moment_is, new_name_is, number_is}

pub day_is : (fields : Fields) (day : Day) → day_of fields ≡ Ok day → IsDay day
unfolding day_of
day_is fields day e =
    let text = bound (field_in fields 2) _ day e in
    let moment = bound (moment_of text.0) _ day text.2 in
    let minutes = bound (number_in fields 3 1 most_minutes) _ day moment.2 in
    let periods = bound (number_in fields 4 1 most_periods) _ day minutes.2 in
    let ended = bound (ends_after fields 4) _ day periods.2 in
    let real = moment_is text.0 moment.0 moment.1 in
    let long = number_is fields 3 1 most_minutes minutes.0 minutes.1 in
    let many = number_is fields 4 1 most_periods periods.0 periods.1 in
    subst IsDay (ok_is _ day ended.2) (record {
      year_from = real.year_from;
      year_to = real.year_to;
      date = record {
        month_from = real.month_from;
        month_to = real.month_to;
        day_from = real.day_from;
        day_to = real.day_to;
      };
      hour = real.hour;
      minute = real.minute;
      minutes_from = long.from;
      minutes_to = long.to;
      periods_from = many.from;
      periods_to = many.to;
    })

-- a valid place of a new name, with room for it
pub record IsNewPlace (periods : ℕ) (names : List (List ℕ)) (place : Place) : Type 0 where
  pub valid : IsPlace periods place
  pub fresh : position_of place.name names ≡ None
  pub room : length names < most_places

pub airport_is : (periods : ℕ) (names : List (List ℕ)) (fields : Fields) (place : Place)
    → airport_of periods names fields ≡ Ok place → IsNewPlace periods names place
unfolding airport_of
airport_is periods names fields place e =
    let name = bound (new_name most_places names fields) _ place e in
    let departures = bound (number_in fields 3 0 most_capacity) _ place name.2 in
    let arrivals = bound (number_in fields 4 0 most_capacity) _ place departures.2 in
    let ended = bound (ends_after fields 4) _ place arrivals.2 in
    let new = new_name_is most_places names fields name.0 name.1 in
    subst (IsNewPlace periods names) (ok_is _ place ended.2) (record {
      valid = record {
        name = new.named;
        first_count = length-replicate periods departures.0;
        second_count = length-replicate periods arrivals.0;
        first = All-replicate (λ c. c ≤ most_capacity) periods departures.0
            ((number_is fields 3 0 most_capacity departures.0 departures.1).to);
        second = All-replicate (λ c. c ≤ most_capacity) periods arrivals.0
            ((number_is fields 4 0 most_capacity arrivals.0 arrivals.1).to);
      };
      fresh = new.fresh;
      room = new.room;
    })

pub sector_is : (periods : ℕ) (names : List (List ℕ)) (fields : Fields) (place : Place)
    → sector_of periods names fields ≡ Ok place → IsNewPlace periods names place
unfolding sector_of
sector_is periods names fields place e =
    let name = bound (new_name most_places names fields) _ place e in
    let capacity = bound (number_in fields 3 0 most_capacity) _ place name.2 in
    let ended = bound (ends_after fields 3) _ place capacity.2 in
    let new = new_name_is most_places names fields name.0 name.1 in
    subst (IsNewPlace periods names) (ok_is _ place ended.2) (record {
      valid = record {
        name = new.named;
        first_count = length-replicate periods capacity.0;
        second_count = refl;
        first = All-replicate (λ c. c ≤ most_capacity) periods capacity.0
            ((number_is fields 3 0 most_capacity capacity.0 capacity.1).to);
        second = λ k d h. absurd (omega arith);
      };
      fresh = new.fresh;
      room = new.room;
    })

airport_there : (number : ℕ) (places : List Place) (known : Option ℕ) (place : ℕ)
    → airport_at number places known ≡ Ok place → IsTrue (is_airport (slice_get places place))
airport_there number places None place e = absurd cc
airport_there number places (Some k) place e =
    holds (λ p. is_airport (slice_get places p)) k place _ e

origin_is : (places : List Place) (fields : Fields) (place : ℕ) → origin_in places fields ≡ Ok place
    → IsTrue (is_airport (slice_get places place))
unfolding origin_in
origin_is places fields place e =
    let name = bound (name_in fields 3) _ place e in
    airport_there 3 places (position_of name.0 (place_names places)) place name.2

-- an airport other than the origin
record IsDestination (places : List Place) (origin place : ℕ) : Type 0 where
  airport : IsTrue (is_airport (slice_get places place))
  apart : origin ≢ place

other_airport : (places : List Place) (origin : ℕ) (known : Option ℕ) (place : ℕ)
    → other_airport_at places origin known ≡ Ok place → IsDestination places origin place
other_airport places origin None place e = absurd cc
other_airport places origin (Some k) place e =
    let other = passed (k == origin) _ place _ e in
    let airport = holds (λ p. is_airport (slice_get places p)) k place _ other.1 in
    let kept = given (is_airport (slice_get places k)) k place _ other.1 in
    record {
      airport = airport;
      apart = λ same. false≢true (sym other.0 ∙ eq-eqb k origin (kept.1 ∙ sym same));
    }

destination_is : (places : List Place) (origin : ℕ) (fields : Fields) (place : ℕ)
    → destination_in places origin fields ≡ Ok place → IsDestination places origin place
unfolding destination_in
destination_is places origin fields place e =
    let name = bound (name_in fields 4) _ place e in
    other_airport places origin (position_of name.0 (place_names places)) place name.2

arrival_is : (periods departure : ℕ) (fields : Fields) (arrival : ℕ) → 1 ≤ periods
    → arrival_in periods departure fields ≡ Ok arrival → IsLater periods departure arrival
unfolding arrival_in
arrival_is periods departure fields arrival some e =
    let read = bound (number_in fields 6 0 (periods - 1)) _ arrival e in
    later_is periods departure arrival 6 read.0 fields _ some read.1 read.2

hours_are : (periods : ℕ) (fields : Fields) (hours : Hours) → 1 ≤ periods
    → hours_in periods fields ≡ Ok hours → IsHours periods hours
unfolding hours_in
hours_are periods fields hours some e =
    let departure = bound (number_in fields 5 0 (periods - 1)) _ hours e in
    let arrival = bound (arrival_in periods departure.0 fields) _ hours departure.2 in
    let on_ground = bound (number_in fields 7 0 most_delay) _ hours arrival.2 in
    let late = bound (number_in fields 8 0 most_delay) _ hours on_ground.2 in
    let times = arrival_is periods departure.0 fields arrival.0 some arrival.1 in
    subst (IsHours periods) (ok_is _ hours late.2) (record {
      forward = times.forward;
      within = times.within;
      ground_delay = (number_is fields 7 0 most_delay on_ground.0 on_ground.1).to;
      arrival_delay = (number_is fields 8 0 most_delay late.0 late.1).to;
    })

cost_is : (fields : Fields) (cost : Cost) → cost_in fields ≡ Ok cost
    → (tables : List CostTable) (mg md : ℕ) → IsTrue (is_cost tables mg md cost)
unfolding cost_in
cost_is fields cost e tables mg md =
    let on_ground = bound (number_in fields 9 0 most_period_cost) _ cost e in
    let airborne = bound (number_in fields 10 0 most_period_cost) _ cost on_ground.2 in
    let ended = bound (ends_after fields 10) _ cost airborne.2 in
    subst (λ (c : Cost). IsTrue (is_cost tables mg md c)) (ok_is _ cost ended.2) (rw (
      le-leb on_ground.0 most_period_cost
          ((number_is fields 9 0 most_period_cost on_ground.0 on_ground.1).to),
      le-leb airborne.0 most_period_cost
          ((number_is fields 10 0 most_period_cost airborne.0 airborne.1).to),
    ) refl)

-- a flight with no legs is a network
no_legs : (places : List Place) (at : ℕ) (name : List ℕ) (from to : ℕ) (hours : Hours) (cost : Cost)
    → IsNetwork places (record {
      at = at;
      name = name;
      from = from;
      to = to;
      hours = hours;
      cost = cost;
      legs = [];
      passed = [];
      reached = [];
    })
no_legs places at name from to hours cost = record {
  legs_few = omega arith;
  reached_few = omega arith;
  sectors = λ k d h. absurd (omega arith);
  passed_once = λ i j d before h. absurd (omega arith);
  passed_reached = λ k d h. absurd (omega arith);
  entered = λ k d h. absurd (omega arith);
  left = λ k d h. absurd (omega arith);
  begins = λ some. absurd (omega arith);
  legs = λ k d h. absurd (omega arith);
  once = λ i j d before h. absurd (omega arith);
  order = refl;
  next = refl;
}

-- a valid flight of a new name, with room for it and its nodes
pub record IsNewFlight (draft : DraftParts) (flight : FlightDraft) : Type 0 where
  pub valid : IsFlightDraft draft.day.periods draft.places draft.tables flight
  pub fresh : position_of flight.name (flight_names draft.flights) ≡ None
  pub room : length (flight_names draft.flights) < most_flights
  pub few : node_total draft.flights + (length flight.reached + 2) ≤ most_nodes_in_all

pub flight_is : (draft : DraftParts) (at : ℕ) (fields : Fields) (flight : FlightDraft)
    → 1 ≤ draft.day.periods → flight_of draft at fields ≡ Ok flight → IsNewFlight draft flight
unfolding flight_of flight_name_of
flight_is draft at fields flight some e =
    let name = bound (flight_name_of (flight_names draft.flights) (node_total draft.flights) fields)
    _ flight e in
    let origin = bound (origin_in draft.places fields) _ flight name.2 in
    let destination = bound (destination_in draft.places origin.0 fields) _ flight origin.2 in
    let hours = bound (hours_in draft.day.periods fields) _ flight destination.2 in
    let cost = bound (cost_in fields) _ flight hours.2 in
    let read = bound (new_name most_flights (flight_names draft.flights) fields) _ name.0 name.1 in
    let few = passed (nat_lt most_nodes_in_all (node_total draft.flights + 2)) _ name.0 _ read.2 in
    let new = new_name_is most_flights (flight_names draft.flights) fields read.0 read.1 in
    let same : read.0 ≡ name.0 = ok_is _ name.0 few.1 in
    let other = destination_is draft.places origin.0 fields destination.0 destination.1 in
    subst (IsNewFlight draft) (ok_is _ flight cost.2) (record {
      valid = record {
        name = rw (← same) (new.named);
        hours = hours_are draft.day.periods fields hours.0 some hours.1;
        origin = origin_is draft.places fields origin.0 origin.1;
        destination = other.airport;
        apart = other.apart;
        cost = cost_is fields cost.0 cost.1 draft.tables hours.0.mg hours.0.md;
        network = no_legs draft.places at name.0 origin.0 destination.0 hours.0 cost.0;
      };
      fresh = rw (← same) (new.fresh);
      room = new.room;
      few = ltb-false most_nodes_in_all (node_total draft.flights + 2) few.0;
    })

kind_there : (kind : CapKind) (places : List Place) (fields : Fields) (place : ℕ)
    → place_in kind places fields ≡ Ok place → IsTrue (has_kind kind (slice_get places place))
unfolding place_in
kind_there kind places fields place e =
    let known = bound (known_in 3 (place_names places) fields) _ place e in
    holds (λ p. has_kind kind (slice_get places p)) known.0 place _ known.2

last_is : (periods first : ℕ) (fields : Fields) (last : ℕ) → 1 ≤ periods
    → last_in periods first fields ≡ Ok last → IsLater periods first last
unfolding last_in
last_is periods first fields last some e =
    let read = bound (number_in fields 5 0 (periods - 1)) _ last e in
    later_is periods first last 5 read.0 fields _ some read.1 read.2

pub change_is : (periods : ℕ) (places : List Place) (fields : Fields) (change : CapChange)
    → 1 ≤ periods → cap_change_of periods places fields ≡ Ok change
    → IsCapChange periods places change
unfolding cap_change_of
change_is periods places fields change some e =
    let word = bound (field_in fields 2) _ change e in
    let kind = bound (cap_kind_at (cap_kind_of word.0)) _ change word.2 in
    let place = bound (place_in kind.0 places fields) _ change kind.2 in
    let first = bound (number_in fields 4 0 (periods - 1)) _ change place.2 in
    let last = bound (last_in periods first.0 fields) _ change first.2 in
    let value = bound (number_in fields 6 0 most_capacity) _ change last.2 in
    let ended = bound (ends_after fields 6) _ change value.2 in
    let later = last_is periods first.0 fields last.0 some last.1 in
    subst (IsCapChange periods places) (ok_is _ change ended.2) (record {
      place = kind_there kind.0 places fields place.0 place.1;
      forward = later.forward;
      within = later.within;
      few = (number_is fields 6 0 most_capacity value.0 value.1).to;
    })

-- a connection of two flights that meet, new and with room for it
pub record IsNewConnection (flights : List FlightDraft) (connections : List Connection)
    (connection : Connection) : Type 0 where
  pub valid : IsMeeting flights connection
  pub once : are_connected connections connection.first connection.second ≡ false
  pub room : length connections < most_connections

room_for_one : (flights : List FlightDraft) (connections : List Connection) (fields : Fields)
    (first : ℕ) → first_in flights connections fields ≡ Ok first
    → length connections < most_connections
unfolding first_in
room_for_one flights connections fields first e =
    let known = bound (known_in 2 (flight_names flights) fields) _ first e in
    let kept = passed (nat_le most_connections (length connections)) _ first _ known.2 in
    leb-false most_connections (length connections) kept.0

-- it isn't connected with the first yet, and departs from where that arrives
record IsSecond (flights : List FlightDraft) (connections : List Connection)
    (first second : ℕ) : Type 0 where
  once : are_connected connections first second ≡ false
  together : IsTrue (meet flights first second)

second_is : (flights : List FlightDraft) (connections : List Connection) (first : ℕ)
    (fields : Fields) (second : ℕ) → second_in flights connections first fields ≡ Ok second
    → IsSecond flights connections first second
unfolding second_in
second_is flights connections first fields second e =
    let known = bound (known_in 3 (flight_names flights) fields) _ second e in
    let once = passed (are_connected connections first known.0) _ second _ known.2 in
    let kept = given (meet flights first known.0) known.0 second _ once.1 in
    subst (IsSecond flights connections first) kept.1 (record { once = once.0; together = kept.0 })

pub connection_is : (flights : List FlightDraft) (connections : List Connection) (fields : Fields)
    (connection : Connection) → connection_of flights connections fields ≡ Ok connection
    → IsNewConnection flights connections connection
unfolding connection_of
connection_is flights connections fields connection e =
    let first = bound (first_in flights connections fields) _ connection e in
    let second = bound (second_in flights connections first.0 fields) _ connection first.2 in
    let turnaround = bound (number_in fields 4 0 most_delay) _ connection second.2 in
    let ended = bound (ends_after fields 4) _ connection turnaround.2 in
    let and_parts = second_is flights connections first.0 fields second.0 second.1 in
    subst (IsNewConnection flights connections) (ok_is _ connection ended.2) (record {
      valid = record {
        together = and_parts.together;
        turnaround = (number_is fields 4 0 most_delay turnaround.0 turnaround.1).to;
      };
      once = and_parts.once;
      room = room_for_one flights connections fields first.0 first.1;
    })
