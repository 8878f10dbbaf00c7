-- The record `flight`.
use Rattle.std.specs.Prelude.{ℕ, ◌+◌, ◌-◌, ◌==◌, List, [], Option, Some, None, Result, Ok, Err, nat_lt, slice_get, if◌then◌else◌}
use Rattle.flow_types.specs.Routes.{is_airport}
use Rattle.flow_types.specs.declared.fault.Cause.TheVariants.{BackInTime, Limit, Repeated, UnknownName}
use Rattle.flow_types.specs.declared.flight.Cost.{Cost}
use Rattle.flow_types.specs.declared.flight.Cost.TheVariants.{Linear}
use Rattle.flow_types.specs.declared.place.Place.{Place}
use Rattle.text_records.specs.Fields.{ends_after, name_in, number_in}
use Rattle.text_records.specs.Errors.{◌>>=◌, fault_in}
use Rattle.text_records.specs.Rows.{Fields}
use Rattle.text_records.specs.declared.error.FieldFault.{FieldFault}
use Rattle.text_records.specs.Names.{new_name, position_of}
use Rattle.scenario_reader.specs.DraftParts.{DraftParts, flight_names, node_total, place_names}
use Rattle.scenario_reader.specs.declared.flight_draft.FlightDraft.{FlightDraft}
use Rattle.scenario_reader.specs.declared.flight_draft.Hours.{Hours}
use Rattle.flow_types.specs.Limits.{most_delay, most_flights, most_nodes_in_all, most_period_cost}

-- a new flight's name, where there is room for its two nodes
unfoldable pub flight_name_of : List (List ℕ) → ℕ → Fields → Result (List ℕ) FieldFault
flight_name_of names total fields = do
  name ← new_name most_flights names fields
  if nat_lt most_nodes_in_all (total + 2) then Err (fault_in 2 Limit) else Ok name

-- an airport
abbrev pub airport_at : ℕ → List Place → Option ℕ → Result ℕ FieldFault
airport_at number places None = Err (fault_in number UnknownName)
airport_at number places (Some place) =
    if is_airport (slice_get places place) then Ok place else Err (fault_in number UnknownName)

unfoldable pub origin_in : List Place → Fields → Result ℕ FieldFault
origin_in places fields = do
  name ← name_in fields 3
  airport_at 3 places (position_of name (place_names places))

-- an airport other than the origin
abbrev pub other_airport_at : List Place → ℕ → Option ℕ → Result ℕ FieldFault
other_airport_at places origin None = Err (fault_in 4 UnknownName)
other_airport_at places origin (Some place) =
    if place == origin then Err (fault_in 4 Repeated) else airport_at 4 places (Some place)

unfoldable pub destination_in : List Place → ℕ → Fields → Result ℕ FieldFault
destination_in places origin fields = do
  name ← name_in fields 4
  other_airport_at places origin (position_of name (place_names places))

-- the scheduled arrival, no earlier than the departure
unfoldable pub arrival_in : ℕ → ℕ → Fields → Result ℕ FieldFault
arrival_in periods departure fields = do
  arrival ← number_in fields 6 0 (periods - 1)
  if nat_lt arrival departure then Err (fault_in 6 BackInTime) else Ok arrival

-- the scheduled times and the greatest delays
unfoldable pub hours_in : ℕ → Fields → Result Hours FieldFault
hours_in periods fields = do
  departure ← number_in fields 5 0 (periods - 1)
  arrival ← arrival_in periods departure fields
  on_ground ← number_in fields 7 0 most_delay
  late ← number_in fields 8 0 most_delay
  Ok (record { sd = departure; sa = arrival; mg = on_ground; md = late })

unfoldable pub cost_in : Fields → Result Cost FieldFault
cost_in fields = do
  on_ground ← number_in fields 9 0 most_period_cost
  airborne ← number_in fields 10 0 most_period_cost
  ended ← ends_after fields 10
  Ok (Linear on_ground airborne)

-- a flight with no legs yet, and the number of its record
unfoldable pub flight_of : DraftParts → ℕ → Fields → Result FlightDraft FieldFault
flight_of draft at fields = do
  name ← flight_name_of (flight_names draft.flights) (node_total draft.flights) fields
  origin ← origin_in draft.places fields
  destination ← destination_in draft.places origin fields
  hours ← hours_in draft.day.periods fields
  cost ← cost_in fields
  Ok (record {
    at = at;
    name = name;
    from = origin;
    to = destination;
    hours = hours;
    cost = cost;
    legs = [];
    passed = [];
    reached = [];
  })
