-- The record `trip`: a flight that has no trip yet, and pairs of place and period.
use Rattle.std.specs.Prelude.{ℕ, zero, suc, ◌+◌, ◌*◌, ◌-◌, List, [], ◌∷◌, length, nat_lt, Option, Some, None, Result, Ok, Err, slice_get, if◌then◌else◌}
use Rattle.flow_types.specs.declared.fault.Cause.TheVariants.{Repeated, UnknownName}
use Rattle.flow_types.specs.declared.parts.Parts.{Parts}
use Rattle.flow_types.specs.declared.plan.Stop.{Stop}
use Rattle.text_records.specs.Fields.{ends_after, name_in, number_in}
use Rattle.text_records.specs.Errors.{◌>>=◌, fault_in}
use Rattle.text_records.specs.Rows.{Fields}
use Rattle.text_records.specs.declared.error.FieldFault.{FieldFault}
use Rattle.text_records.specs.Names.{known_at, position_of}
use Rattle.plan_text.specs.Names.{flight_names, node_named, nodes_at}
use Rattle.flow_types.specs.Limits.{most_nodes}

-- the most fields of a record: its kind, the flight, and a place and a period for each node
abbrev pub most_fields : ℕ
most_fields = 2 + 2 * most_nodes

-- what was read so far: for each flight its trip, if a record told it
abbrev pub TripsRead : Type 0
TripsRead = List (Option (List Stop))

-- a flight by its position, whose trip no record has told yet
abbrev pub unread_at : ℕ → Option (Option (List Stop)) → Result ℕ FieldFault
unread_at k None = Err (fault_in 2 UnknownName)
unread_at k (Some None) = Ok k
unread_at k (Some (Some stops)) = Err (fault_in 2 Repeated)

unfoldable pub flight_in : Parts → TripsRead → Fields → Result ℕ FieldFault
flight_in parts trips fields = do
  name ← name_in fields 2
  k ← known_at 2 (position_of name (flight_names parts.flights))
  unread_at k (slice_get trips k)

-- the stop that the fields of this number and the next tell: a place of one of the nodes, and a
-- period of the day
unfoldable pub stop_in : Parts → List ℕ → Fields → ℕ → Result Stop FieldFault
stop_in parts nodes fields number = do
  name ← name_in fields number
  node ← known_at number (node_named parts.places nodes name)
  time ← number_in fields (number + 1) 0 (parts.day.periods - 1)
  Ok (record { node = node; time = time })

-- the stops of at most so many pairs, from the field of this number on
unfoldable pub stops_from : Parts → List ℕ → Fields → ℕ → ℕ → Result (List Stop) FieldFault
stops_from parts nodes fields zero number = Ok []
stops_from parts nodes fields (suc most) number =
    if nat_lt (length fields) number then Ok [] else do
      stop ← stop_in parts nodes fields number
      stops ← stops_from parts nodes fields most (number + 2)
      Ok (stop ∷ stops)

-- the flight by its position, and its stops, of which there are at most 32
unfoldable pub trip_of : Parts → TripsRead → Fields → Result (ℕ × List Stop) FieldFault
trip_of parts trips fields = do
  k ← flight_in parts trips fields
  stops ← stops_from parts (nodes_at parts.flights k) fields most_nodes 3
  ended ← ends_after fields most_fields
  Ok (k, stops)
