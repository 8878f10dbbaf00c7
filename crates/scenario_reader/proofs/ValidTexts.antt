-- A text that reads is the text of a valid scenario.
use Rattle.std.proofs.Common.{◌≡◌, ℕ, List, Option, Some, None, Ok, subst, arith}
use Rattle.std.proofs.lemmas.List.{length-map}
use Rattle.flow_types.specs.Valid.{IsDay, IsScenario}
use Rattle.flow_types.specs.declared.day.Day.{Day}
use Rattle.flow_types.specs.declared.flight.CostTable.{CostTable}
use Rattle.flow_types.specs.declared.parts.Parts.{Parts}
use Rattle.flow_types.specs.declared.place.Place.{Place}
use Rattle.text_records.specs.Fields.{field_in}
use Rattle.text_records.specs.Rows.{Fields}
use Rattle.scenario_reader.specs.Capacities.{cap_change_of}
use Rattle.scenario_reader.specs.Connections.{connection_of}
use Rattle.scenario_reader.specs.DraftParts.{DraftParts, place_names, table_names}
use Rattle.scenario_reader.specs.Finish.{finished, finished_flights}
use Rattle.scenario_reader.specs.Flights.{flight_of}
use Rattle.scenario_reader.specs.Kinds.{kind_of}
use Rattle.scenario_reader.specs.Legs.{leg_in}
use Rattle.scenario_reader.specs.Places.{airport_of, sector_of}
use Rattle.scenario_reader.specs.Reading.{airport_step, cap_step, connect_step, cost_step, day_by_kind, first_step, flight_step, leg_step, no_parts, scenario_of, sector_step, table_step, with_place}
use Rattle.scenario_reader.specs.Tables.{pricing_of, table_of}
use Rattle.scenario_reader.specs.Validity.{IsValidDraft}
use Rattle.scenario_reader.specs.declared.flight_draft.FlightDraft.{FlightDraft}
use Rattle.scenario_reader.specs.declared.kind.Kind.{Kind}
use Rattle.scenario_reader.specs.declared.kind.Kind.TheVariants as kind
use Rattle.scenario_reader.proofs.DraftFacts.{parts_with_change, parts_with_connection, parts_with_flight, parts_with_leg, parts_with_place, parts_with_pricing, parts_with_table}
use Rattle.scenario_reader.proofs.FinishFacts.{scenario_is}
use Rattle.text_records.proofs.StepFacts.{bound, ok_is}
use Rattle.scenario_reader.proofs.KeptFacts.{IsKept, draft_of}
use Rattle.scenario_reader.proofs.ValidLegs.{leg_found}
use Rattle.scenario_reader.proofs.ValidRecords.{airport_is, change_is, connection_is, day_is, flight_is, IsNewPlace, sector_is}
use Rattle.scenario_reader.proofs.ValidTables.{pricing_is, table_is}

place_added : (draft : DraftParts) (place : Place) → IsValidDraft draft
    → IsNewPlace draft.day.periods (place_names draft.places) place
    → IsValidDraft (with_place draft place)
place_added draft place valid new =
    let long = length-map draft.places (λ (p : Place). p.name) in
    let room = new.room in
    parts_with_place draft place valid new.valid new.fresh (omega arith)

after_airport : (draft next : DraftParts) (fields : Fields) → IsValidDraft draft
    → airport_step draft fields ≡ Ok next → IsValidDraft next
unfolding airport_step
after_airport draft next fields valid e =
    let place = bound (airport_of draft.day.periods (place_names draft.places) fields) _ next e in
    subst IsValidDraft (ok_is _ next place.2)
    (place_added draft place.0 valid
    (airport_is draft.day.periods (place_names draft.places) fields place.0 place.1))

after_sector : (draft next : DraftParts) (fields : Fields) → IsValidDraft draft
    → sector_step draft fields ≡ Ok next → IsValidDraft next
unfolding sector_step
after_sector draft next fields valid e =
    let place = bound (sector_of draft.day.periods (place_names draft.places) fields) _ next e in
    subst IsValidDraft (ok_is _ next place.2)
    (place_added draft place.0 valid
    (sector_is draft.day.periods (place_names draft.places) fields place.0 place.1))

after_flight : (draft next : DraftParts) (at : ℕ) (fields : Fields) → IsValidDraft draft
    → flight_step draft at fields ≡ Ok next → IsValidDraft next
unfolding flight_step
after_flight draft next at fields valid e =
    let flight = bound (flight_of draft at fields) _ next e in
    let new = flight_is draft at fields flight.0 valid.day.periods_from flight.1 in
    let long = length-map draft.flights (λ (f : FlightDraft). f.name) in
    let room = new.room in
    subst IsValidDraft (ok_is _ next flight.2)
    (parts_with_flight draft flight.0 valid new.valid new.fresh (omega arith) new.few)

after_leg : (draft next : DraftParts) (fields : Fields) → IsValidDraft draft
    → leg_step draft fields ≡ Ok next → IsValidDraft next
unfolding leg_step
after_leg draft next fields valid e =
    let found = bound (leg_in draft fields) _ next e in
    let new = leg_found draft fields found.0 found.1 in
    subst IsValidDraft (ok_is _ next found.2)
    (parts_with_leg draft found.0.0 found.0.1 new.flight valid new.here new.valid)

after_connect : (draft next : DraftParts) (fields : Fields) → IsValidDraft draft
    → connect_step draft fields ≡ Ok next → IsValidDraft next
unfolding connect_step
after_connect draft next fields valid e =
    let connection = bound (connection_of draft.flights draft.connections fields) _ next e in
    let new = connection_is draft.flights draft.connections fields connection.0 connection.1 in
    subst IsValidDraft (ok_is _ next connection.2)
    (parts_with_connection draft connection.0 valid new.valid new.once new.room)

after_table : (draft next : DraftParts) (fields : Fields) → IsValidDraft draft
    → table_step draft fields ≡ Ok next → IsValidDraft next
unfolding table_step
after_table draft next fields valid e =
    let table = bound (table_of (table_names draft.tables) fields) _ next e in
    let new = table_is (table_names draft.tables) fields table.0 table.1 in
    let long = length-map draft.tables (λ (t : CostTable). t.name) in
    let room = new.room in
    subst IsValidDraft (ok_is _ next table.2)
    (parts_with_table draft table.0 valid new.valid new.fresh (omega arith))

after_cost : (draft next : DraftParts) (fields : Fields) → IsValidDraft draft
    → cost_step draft fields ≡ Ok next → IsValidDraft next
unfolding cost_step
after_cost draft next fields valid e =
    let pricing = bound (pricing_of draft.flights draft.tables fields) _ next e in
    subst IsValidDraft (ok_is _ next pricing.2)
    (parts_with_pricing draft pricing.0 valid
    (pricing_is draft.flights draft.tables fields pricing.0 pricing.1))

after_cap : (draft next : DraftParts) (fields : Fields) → IsValidDraft draft
    → cap_step draft fields ≡ Ok next → IsValidDraft next
unfolding cap_step
after_cap draft next fields valid e =
    let change = bound (cap_change_of draft.day.periods draft.places fields) _ next e in
    subst IsValidDraft (ok_is _ next change.2)
    (parts_with_change draft change.0 valid
    (change_is draft.day.periods draft.places fields change.0 valid.day.periods_from change.1))

-- a day alone keeps the rules
day_alone : (day : Day) → IsDay day → IsValidDraft (no_parts day)
day_alone day valid = record {
  day = valid;
  places = record {
    few = omega arith;
    each = λ k d h. absurd (omega arith);
    names = λ i j d before h. absurd (omega arith);
  };
  flights = record {
    few = omega arith;
    each = λ k d h. absurd (omega arith);
    names = λ i j d before h. absurd (omega arith);
    nodes_few = omega arith;
  };
  tables = record {
    few = omega arith;
    each = λ k d h. absurd (omega arith);
    names = λ i j d before h. absurd (omega arith);
  };
  connections = record {
    few = omega arith;
    each = λ k d h. absurd (omega arith);
    once = λ i j d before h. absurd (omega arith);
  };
}

day_of_kind : (fields : Fields) (of_kind : Option Kind) (day : Day)
    → day_by_kind fields of_kind ≡ Ok day → IsDay day
day_of_kind fields None day e = absurd cc
day_of_kind fields (Some kind.Day) day e = day_is fields day e
day_of_kind fields (Some kind.Airport) day e = absurd cc
day_of_kind fields (Some kind.Sector) day e = absurd cc
day_of_kind fields (Some kind.Flight) day e = absurd cc
day_of_kind fields (Some kind.Leg) day e = absurd cc
day_of_kind fields (Some kind.Connect) day e = absurd cc
day_of_kind fields (Some kind.Table) day e = absurd cc
day_of_kind fields (Some kind.Cost) day e = absurd cc
day_of_kind fields (Some kind.Cap) day e = absurd cc
day_of_kind fields (Some kind.Note) day e = absurd cc

after_first : (fields : Fields) (draft : DraftParts) → first_step fields ≡ Ok draft
    → IsValidDraft draft
unfolding first_step
after_first fields draft e =
    let word = bound (field_in fields 1) _ draft e in
    let day = bound (day_by_kind fields (kind_of word.0)) _ draft word.2 in
    subst IsValidDraft (ok_is _ draft day.2)
    (day_alone day.0 (day_of_kind fields (kind_of word.0) day.0 day.1))

ended : (draft : DraftParts) (parts : Parts) → IsValidDraft draft → finished draft ≡ Ok parts
    → IsScenario parts
unfolding finished
ended draft parts valid e =
    let flights = bound (finished_flights draft.flights) _ parts e in
    subst IsScenario (ok_is _ parts flights.2) (scenario_is draft flights.0 valid flights.1)

kept : IsKept IsValidDraft
kept = record {
  first = after_first;
  airport = after_airport;
  sector = after_sector;
  flight = λ at draft next fields. after_flight draft next at fields;
  leg = after_leg;
  connect = after_connect;
  table = after_table;
  cost = after_cost;
  cap = after_cap;
}

pub text_is : (bytes : List ℕ) (parts : Parts) → scenario_of bytes ≡ Ok parts → IsScenario parts
text_is bytes parts e =
    let read = draft_of IsValidDraft kept bytes parts e in ended read.0 parts read.1 read.2
