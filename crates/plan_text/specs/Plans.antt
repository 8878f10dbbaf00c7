-- The plan of a text, or its first fault.
use Rattle.std.specs.Prelude.{ℕ, ◌+◌, List, [], ◌∷◌, length, map, replicate, set, Option, Some, None, Result, Ok, Err}
use Rattle.flow_types.specs.declared.fault.Cause.TheVariants.{UnknownKind}
use Rattle.flow_types.specs.declared.fault.Fault.{Fault}
use Rattle.flow_types.specs.declared.flight.Flight.{Flight}
use Rattle.flow_types.specs.declared.parts.Parts.{Parts}
use Rattle.flow_types.specs.declared.plan.Stop.{Stop}
use Rattle.text_records.specs.Fields.{field_in}
use Rattle.text_records.specs.Errors.{◌>>=◌, fault_in, in_record}
use Rattle.text_records.specs.Rows.{Fields, rows_of}
use Rattle.text_records.specs.declared.error.FieldFault.{FieldFault}
use Rattle.plan_text.specs.Kinds.{kind_of}
use Rattle.plan_text.specs.Trips.{TripsRead, trip_of}
use Rattle.plan_text.specs.declared.kind.Kind.{Kind}
use Rattle.plan_text.specs.declared.kind.Kind.TheVariants as kind

-- the trips with that of the flight at this position
abbrev pub with_trip : TripsRead → ℕ × List Stop → TripsRead
with_trip trips found = set trips found.0 (Some found.1)

unfoldable pub trip_step : Parts → TripsRead → Fields → Result TripsRead FieldFault
trip_step parts trips fields = do
  found ← trip_of parts trips fields
  Ok (with_trip trips found)

-- what a record of this kind does to what was read before it; what a report says besides its trips
-- is passed over
abbrev pub step_of : Parts → TripsRead → Fields → Option Kind → Result TripsRead FieldFault
step_of parts trips fields None = Err (fault_in 1 UnknownKind)
step_of parts trips fields (Some kind.Trip) = trip_step parts trips fields
step_of parts trips fields (Some kind.PassedOver) = Ok trips

unfoldable pub record_step : Parts → TripsRead → Fields → Result TripsRead FieldFault
record_step parts trips fields = do
  word ← field_in fields 1
  step_of parts trips fields (kind_of word)

-- one step a record, from the record of this number on
unfoldable pub records_step : Parts → ℕ → TripsRead → List Fields → Result TripsRead Fault
records_step parts at trips [] = Ok trips
records_step parts at trips (fields ∷ rows) = do
  next ← in_record at (record_step parts trips fields)
  records_step parts (at + 1) next rows

-- before the first record
abbrev pub none_read : List Flight → TripsRead
none_read flights = replicate (length flights) None

-- the stops, none where no record tells the flight's trip
abbrev pub stops_or_none : Option (List Stop) → List Stop
stops_or_none None = []
stops_or_none (Some stops) = stops

abbrev pub trips_of : TripsRead → List (List Stop)
trips_of trips = map stops_or_none trips

-- the plan of the records of a text: a trip for each flight
unfoldable pub plan_from : Parts → List Fields → Result (List (List Stop)) Fault
plan_from parts rows = do
  trips ← records_step parts 1 (none_read parts.flights) rows
  Ok (trips_of trips)

-- the plan of a text, or its first fault
abbrev pub plan_of : Parts → List ℕ → Result (List (List Stop)) Fault
plan_of parts bytes = plan_from parts (rows_of bytes)
