-- The scenario of a text, or its first fault.
use Rattle.std.specs.Prelude.{ℕ, ◌+◌, List, [], ◌∷◌, ◌++◌, Option, Some, None, Result, Ok, Err}
use Rattle.flow_types.specs.declared.day.Day.{Day}
use Rattle.flow_types.specs.declared.flight.Connection.{Connection}
use Rattle.flow_types.specs.declared.flight.Cost.TheVariants.{Tables}
use Rattle.flow_types.specs.declared.flight.CostTable.{CostTable}
use Rattle.flow_types.specs.declared.fault.Cause.TheVariants.{NoDay, Repeated, UnknownKind}
use Rattle.flow_types.specs.declared.fault.Fault.{Fault}
use Rattle.flow_types.specs.declared.parts.Parts.{Parts}
use Rattle.flow_types.specs.declared.place.Place.{Place}
use Rattle.text_records.specs.Fields.{field_in}
use Rattle.text_records.specs.Errors.{◌>>=◌, fault_at, fault_in, in_record}
use Rattle.text_records.specs.Rows.{Fields, rows_of}
use Rattle.text_records.specs.declared.error.FieldFault.{FieldFault}
use Rattle.scenario_reader.specs.Capacities.{cap_change_of, with_change}
use Rattle.scenario_reader.specs.Change.{changed_at}
use Rattle.scenario_reader.specs.Connections.{connection_of}
use Rattle.scenario_reader.specs.Finish.{finished}
use Rattle.scenario_reader.specs.Flights.{flight_of}
use Rattle.scenario_reader.specs.Kinds.{kind_of}
use Rattle.scenario_reader.specs.Legs.{leg_in, with_leg_at}
use Rattle.scenario_reader.specs.Places.{airport_of, day_of, sector_of}
use Rattle.scenario_reader.specs.DraftParts.{DraftParts, place_names, table_names}
use Rattle.scenario_reader.specs.Tables.{pricing_of, table_of, with_cost_at}
use Rattle.scenario_reader.specs.declared.capacities.CapChange.{CapChange}
use Rattle.scenario_reader.specs.declared.tables.Pricing.{Pricing}
use Rattle.scenario_reader.specs.declared.flight_draft.FlightDraft.{FlightDraft}
use Rattle.scenario_reader.specs.declared.flight_draft.PlaceLeg.{PlaceLeg}
use Rattle.scenario_reader.specs.declared.kind.Kind.{Kind}
use Rattle.scenario_reader.specs.declared.kind.Kind.TheVariants as kind

-- the parts of a day alone
abbrev pub no_parts : Day → DraftParts
no_parts day = record { day = day; places = []; flights = []; tables = []; connections = [] }

abbrev pub with_place : DraftParts → Place → DraftParts
with_place draft place = record draft { places = draft.places ++ place ∷ [] }

abbrev pub with_flight : DraftParts → FlightDraft → DraftParts
with_flight draft flight = record draft { flights = draft.flights ++ flight ∷ [] }

abbrev pub with_table : DraftParts → CostTable → DraftParts
with_table draft table = record draft { tables = draft.tables ++ table ∷ [] }

abbrev pub with_connection : DraftParts → Connection → DraftParts
with_connection draft connection =
    record draft { connections = draft.connections ++ connection ∷ [] }

abbrev pub with_pricing : DraftParts → Pricing → DraftParts
with_pricing draft pricing =
    let cost = Tables pricing.total pricing.credit in
    record draft { flights = with_cost_at draft.flights pricing.flight cost }

abbrev pub with_cap_change : DraftParts → CapChange → DraftParts
with_cap_change draft change =
    record draft { places = changed_at (with_change change) draft.places change.place }

abbrev pub with_flight_leg : DraftParts → ℕ × PlaceLeg → DraftParts
with_flight_leg draft found = record draft { flights = with_leg_at draft.flights found.0 found.1 }

unfoldable pub airport_step : DraftParts → Fields → Result DraftParts FieldFault
airport_step draft fields = do
  place ← airport_of draft.day.periods (place_names draft.places) fields
  Ok (with_place draft place)

unfoldable pub sector_step : DraftParts → Fields → Result DraftParts FieldFault
sector_step draft fields = do
  place ← sector_of draft.day.periods (place_names draft.places) fields
  Ok (with_place draft place)

unfoldable pub flight_step : DraftParts → ℕ → Fields → Result DraftParts FieldFault
flight_step draft at fields = do
  flight ← flight_of draft at fields
  Ok (with_flight draft flight)

unfoldable pub leg_step : DraftParts → Fields → Result DraftParts FieldFault
leg_step draft fields = do
  found ← leg_in draft fields
  Ok (with_flight_leg draft found)

unfoldable pub connect_step : DraftParts → Fields → Result DraftParts FieldFault
connect_step draft fields = do
  connection ← connection_of draft.flights draft.connections fields
  Ok (with_connection draft connection)

unfoldable pub table_step : DraftParts → Fields → Result DraftParts FieldFault
table_step draft fields = do
  table ← table_of (table_names draft.tables) fields
  Ok (with_table draft table)

unfoldable pub cost_step : DraftParts → Fields → Result DraftParts FieldFault
cost_step draft fields = do
  pricing ← pricing_of draft.flights draft.tables fields
  Ok (with_pricing draft pricing)

unfoldable pub cap_step : DraftParts → Fields → Result DraftParts FieldFault
cap_step draft fields = do
  change ← cap_change_of draft.day.periods draft.places fields
  Ok (with_cap_change draft change)

-- what a record of this kind does to what was read before it
abbrev pub step_of : DraftParts → ℕ → Fields → Option Kind → Result DraftParts FieldFault
step_of draft at fields None = Err (fault_in 1 UnknownKind)
step_of draft at fields (Some kind.Day) = Err (fault_in 1 Repeated)
step_of draft at fields (Some kind.Airport) = airport_step draft fields
step_of draft at fields (Some kind.Sector) = sector_step draft fields
step_of draft at fields (Some kind.Flight) = flight_step draft at fields
step_of draft at fields (Some kind.Leg) = leg_step draft fields
step_of draft at fields (Some kind.Connect) = connect_step draft fields
step_of draft at fields (Some kind.Table) = table_step draft fields
step_of draft at fields (Some kind.Cost) = cost_step draft fields
step_of draft at fields (Some kind.Cap) = cap_step draft fields
step_of draft at fields (Some kind.Note) = Ok draft

unfoldable pub record_step : DraftParts → ℕ → Fields → Result DraftParts FieldFault
record_step draft at fields = do
  word ← field_in fields 1
  step_of draft at fields (kind_of word)

-- one step a record, from the record of this number on
unfoldable pub records_step : ℕ → DraftParts → List Fields → Result DraftParts Fault
records_step at draft [] = Ok draft
records_step at draft (fields ∷ rows) = do
  next ← in_record at (record_step draft at fields)
  records_step (at + 1) next rows

-- the first record, which has to be of the day
abbrev pub day_by_kind : Fields → Option Kind → Result Day FieldFault
day_by_kind fields None = Err (fault_in 1 NoDay)
day_by_kind fields (Some kind.Day) = day_of fields
day_by_kind fields (Some kind.Airport) = Err (fault_in 1 NoDay)
day_by_kind fields (Some kind.Sector) = Err (fault_in 1 NoDay)
day_by_kind fields (Some kind.Flight) = Err (fault_in 1 NoDay)
day_by_kind fields (Some kind.Leg) = Err (fault_in 1 NoDay)
day_by_kind fields (Some kind.Connect) = Err (fault_in 1 NoDay)
day_by_kind fields (Some kind.Table) = Err (fault_in 1 NoDay)
day_by_kind fields (Some kind.Cost) = Err (fault_in 1 NoDay)
day_by_kind fields (Some kind.Cap) = Err (fault_in 1 NoDay)
day_by_kind fields (Some kind.Note) = Err (fault_in 1 NoDay)

unfoldable pub first_step : Fields → Result DraftParts FieldFault
first_step fields = do
  word ← field_in fields 1
  day ← day_by_kind fields (kind_of word)
  Ok (no_parts day)

-- the scenario of the records of a text
unfoldable pub scenario_from : List Fields → Result Parts Fault
scenario_from [] = Err (fault_at 1 1 NoDay)
scenario_from (fields ∷ rows) = do
  first ← in_record 1 (first_step fields)
  draft ← records_step 2 first rows
  finished draft

-- the scenario of a text, or its first fault
abbrev pub scenario_of : List ℕ → Result Parts Fault
scenario_of bytes = scenario_from (rows_of bytes)
