-- The record `leg`.
use Rattle.std.specs.Prelude.{ℕ, ◌+◌, ◌==◌, ◌&&◌, ◌||◌, not, Bool, true, false, List, [], ◌∷◌, ◌++◌, length, Option, Some, None, Result, Ok, Err, nat_le, ◌<◌, IsTrue, slice_get, if◌then◌else◌}
use Rattle.std.specs.List.{list_any}
use Rattle.flow_types.specs.Routes.{is_sector}
use Rattle.flow_types.specs.declared.fault.Cause.TheVariants.{BackLeg, Limit, Repeated, UnknownName, Unreached}
use Rattle.flow_types.specs.declared.place.Place.{Place}
use Rattle.text_records.specs.Fields.{ends_after, name_in, number_in}
use Rattle.text_records.specs.Errors.{◌>>=◌, fault_in}
use Rattle.text_records.specs.Rows.{Fields}
use Rattle.text_records.specs.declared.error.FieldFault.{FieldFault}
use Rattle.scenario_reader.specs.Change.{changed_at}
use Rattle.text_records.specs.Names.{position_of}
use Rattle.scenario_reader.specs.Sectors.{most_sectors}
use Rattle.scenario_reader.specs.DraftParts.{DraftParts, flight_names, node_total, place_names}
use Rattle.scenario_reader.specs.declared.flight_draft.FlightDraft.{FlightDraft}
use Rattle.scenario_reader.specs.declared.flight_draft.PlaceLeg.{PlaceLeg}
use Rattle.flow_types.specs.Limits.{most_delay, most_legs, most_nodes, most_nodes_in_all}

-- the place is among these
abbrev pub is_among : List ℕ → ℕ → Bool
is_among places place = list_any (λ other. other == place) places

-- a flight that has room for a leg, with its position
abbrev pub flight_at : List FlightDraft → Option ℕ → Result (ℕ × FlightDraft) FieldFault
flight_at flights None = Err (fault_in 2 UnknownName)
flight_at flights (Some k) = flight_of k (slice_get flights k)
  where
    flight_of : ℕ → Option FlightDraft → Result (ℕ × FlightDraft) FieldFault
    flight_of k None = Err (fault_in 2 UnknownName)
    flight_of k (Some flight) =
        if nat_le most_legs (length flight.legs) then Err (fault_in 2 Limit) else Ok (k, flight)

unfoldable pub flight_in : List FlightDraft → Fields → Result (ℕ × FlightDraft) FieldFault
flight_in flights fields = do
  name ← name_in fields 2
  flight_at flights (position_of name (flight_names flights))

-- a sector, or one of the flight's two airports
abbrev pub is_own : List Place → FlightDraft → ℕ → Bool
is_own places flight place =
    is_sector (slice_get places place) || place == flight.from || place == flight.to

abbrev pub own_at : ℕ → List Place → FlightDraft → Option ℕ → Result ℕ FieldFault
own_at number places flight None = Err (fault_in number UnknownName)
own_at number places flight (Some place) =
    if is_own places flight place then Ok place else Err (fault_in number UnknownName)

unfoldable pub own_in : ℕ → List Place → FlightDraft → Fields → Result ℕ FieldFault
own_in number places flight fields = do
  name ← name_in fields number
  own_at number places flight (position_of name (place_names places))

-- where the leg starts: the origin, or a sector that a leg leads to
unfoldable pub start_in : List Place → FlightDraft → Fields → Result ℕ FieldFault
start_in places flight fields = do
  place ← own_in 3 places flight fields
  if place == flight.from || is_among flight.reached place
      then Ok place
      else Err (fault_in 3 Unreached)

-- the flight has a leg from this place to that one
abbrev pub is_joined : List PlaceLeg → ℕ → ℕ → Bool
is_joined legs from to = list_any (λ leg. leg.from == from && leg.to == to) legs

-- the flight has been there: a leg has started from the place
abbrev pub is_back : FlightDraft → ℕ → ℕ → Bool
is_back flight from to = to == flight.from || to == from || is_among flight.passed to

-- a leg to the place makes a new node
abbrev pub adds_node : FlightDraft → ℕ → Bool
adds_node flight to = not (to == flight.to) && not (is_among flight.reached to)

-- a leg from the place is the first one from that sector
abbrev pub passes_new : FlightDraft → ℕ → Bool
passes_new flight from = not (from == flight.from) && not (is_among flight.passed from)

-- a new node would be one too many
abbrev pub is_full : ℕ → FlightDraft → Bool
is_full total flight =
    nat_le most_nodes (length flight.reached + 2) || nat_le most_nodes_in_all total

-- Where the leg leads. A leg that is there already leads to a place of the flight, so a place
-- that isn't one can be refused first.
unfoldable pub end_in : List Place → ℕ → FlightDraft → ℕ → Fields → Result ℕ FieldFault
end_in places total flight from fields = do
  place ← own_in 4 places flight fields
  if is_joined flight.legs from place then Err (fault_in 4 Repeated)
      else if is_back flight from place then Err (fault_in 4 BackLeg)
      else if adds_node flight place && is_full total flight then Err (fault_in 4 Limit)
      else Ok place

unfoldable pub leg_of : List Place → ℕ → FlightDraft → Fields → Result PlaceLeg FieldFault
leg_of places total flight fields = do
  from ← start_in places flight fields
  to ← end_in places total flight from fields
  least ← number_in fields 5 0 most_delay
  ended ← ends_after fields 5
  Ok (record { from = from; to = to; least = least })

-- a place at the end of a list, unless it isn't new
abbrev pub with_new : Bool → List ℕ → ℕ → List ℕ
with_new true places place = places ++ place ∷ []
with_new false places place = places

-- a leg of a flight, which is named by its position
unfoldable pub leg_in : DraftParts → Fields → Result (ℕ × PlaceLeg) FieldFault
leg_in draft fields = do
  found ← flight_in draft.flights fields
  leg ← leg_of draft.places (node_total draft.flights) found.1 fields
  Ok (found.0, leg)

-- the flight with one more leg
abbrev pub with_leg : FlightDraft → PlaceLeg → FlightDraft
with_leg flight leg =
    record flight {
      legs = flight.legs ++ leg ∷ [];
      passed = with_new (passes_new flight leg.from) flight.passed leg.from;
      reached = with_new (adds_node flight leg.to) flight.reached leg.to;
    }

-- there is room for the leg's sectors, where they are new
pub record HasRoom (flight : FlightDraft) (leg : PlaceLeg) : Type 0 where
  pub passed : IsTrue (passes_new flight leg.from) → length flight.passed < most_sectors
  pub reached : IsTrue (adds_node flight leg.to) → length flight.reached < most_sectors

-- the flights, the one at this position with one more leg
abbrev pub with_leg_at : List FlightDraft → ℕ → PlaceLeg → List FlightDraft
with_leg_at flights k leg = changed_at (λ flight. with_leg flight leg) flights k
