-- The record `connect`.
use Rattle.std.specs.Prelude.{ℕ, ◌==◌, ◌&&◌, Bool, false, List, length, Option, Some, Result, Ok, Err, nat_le, slice_get, if◌then◌else◌}
use Rattle.std.specs.List.{list_any}
use Rattle.flow_types.specs.declared.fault.Cause.TheVariants.{Apart, Limit, Repeated}
use Rattle.flow_types.specs.declared.flight.Connection.{Connection}
use Rattle.text_records.specs.Fields.{ends_after, number_in}
use Rattle.text_records.specs.Errors.{◌>>=◌, fault_in}
use Rattle.text_records.specs.Rows.{Fields}
use Rattle.text_records.specs.declared.error.FieldFault.{FieldFault}
use Rattle.text_records.specs.Names.{known_in}
use Rattle.scenario_reader.specs.DraftParts.{destinations, flight_names, origins}
use Rattle.scenario_reader.specs.declared.flight_draft.FlightDraft.{FlightDraft}
use Rattle.flow_types.specs.Limits.{most_connections, most_delay}

-- the flight that brings the aircraft, where there is room for a connection
unfoldable pub first_in : List FlightDraft → List Connection → Fields → Result ℕ FieldFault
first_in flights connections fields = do
  first ← known_in 2 (flight_names flights) fields
  if nat_le most_connections (length connections) then Err (fault_in 2 Limit) else Ok first

-- the two are connected already
abbrev pub are_connected : List Connection → ℕ → ℕ → Bool
are_connected connections first second =
    list_any (λ other. other.first == first && other.second == second) connections

-- these are one place
abbrev pub is_same_place : Option ℕ → Option ℕ → Bool
is_same_place (Some a) (Some b) = a == b
is_same_place a b = false

-- the second departs from where the first arrives
abbrev pub meet : List FlightDraft → ℕ → ℕ → Bool
meet flights first second =
    is_same_place (slice_get (origins flights) second) (slice_get (destinations flights) first)

-- the flight that leaves with it
unfoldable pub second_in : List FlightDraft → List Connection → ℕ → Fields → Result ℕ FieldFault
second_in flights connections first fields = do
  second ← known_in 3 (flight_names flights) fields
  if are_connected connections first second then Err (fault_in 3 Repeated)
      else if meet flights first second then Ok second
      else Err (fault_in 3 Apart)

unfoldable pub connection_of : List FlightDraft → List Connection → Fields
    → Result Connection FieldFault
connection_of flights connections fields = do
  first ← first_in flights connections fields
  second ← second_in flights connections first fields
  turnaround ← number_in fields 4 0 most_delay
  ended ← ends_after fields 4
  Ok (record { first = first; second = second; turnaround = turnaround })
