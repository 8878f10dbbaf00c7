-- What the flights come to when all records have passed.
use Rattle.std.specs.Prelude.{ℕ, ◌==◌, Bool, List, [], ◌∷◌, ◌++◌, map, Result, Ok, Err, if◌then◌else◌}
use Rattle.std.specs.List.{list_all, list_any, position_or_len}
use Rattle.flow_types.specs.declared.fault.Cause.TheVariants.{DeadEnd, NoRoute}
use Rattle.flow_types.specs.declared.fault.Fault.{Fault}
use Rattle.flow_types.specs.declared.flight.Flight.{Flight}
use Rattle.flow_types.specs.declared.flight.Leg.{Leg}
use Rattle.flow_types.specs.declared.parts.Parts.{Parts}
use Rattle.text_records.specs.Errors.{◌>>=◌, fault_at}
use Rattle.scenario_reader.specs.Legs.{is_among}
use Rattle.scenario_reader.specs.DraftParts.{DraftParts}
use Rattle.scenario_reader.specs.declared.flight_draft.FlightDraft.{FlightDraft}
use Rattle.scenario_reader.specs.declared.flight_draft.PlaceLeg.{PlaceLeg}

-- a leg leads to the destination
abbrev pub has_route : FlightDraft → Bool
has_route flight = list_any (λ leg. leg.to == flight.to) flight.legs

-- a leg starts from each sector that a leg leads to
abbrev pub leads_on : FlightDraft → Bool
leads_on flight = list_all (λ place. is_among flight.passed place) flight.reached

-- the places of the nodes: the origin, the sectors in the order of their first use as the start of
-- a leg, and the destination
abbrev pub nodes_of : FlightDraft → List ℕ
nodes_of flight = flight.from ∷ (flight.passed ++ flight.to ∷ [])

-- the first node at the place
abbrev pub node_of : List ℕ → ℕ → ℕ
node_of nodes place = position_or_len (λ node. node == place) nodes

-- a leg between nodes
abbrev pub leg_between : List ℕ → PlaceLeg → Leg
leg_between nodes leg =
    record { from = node_of nodes leg.from; to = node_of nodes leg.to; least = leg.least }

abbrev pub flight_with : FlightDraft → List ℕ → Flight
flight_with flight nodes = record {
  name = flight.name;
  from = flight.from;
  to = flight.to;
  sd = flight.hours.sd;
  sa = flight.hours.sa;
  mg = flight.hours.mg;
  md = flight.hours.md;
  nodes = nodes;
  legs = map (leg_between nodes) flight.legs;
  cost = flight.cost;
}

-- the flight, whose sectors all have a leg that leaves them
abbrev pub led_on : FlightDraft → Result Flight Fault
led_on flight =
    if leads_on flight
    then Ok (flight_with flight (nodes_of flight))
    else Err (fault_at flight.at 1 DeadEnd)

-- the flight, with its fault at its own record
unfoldable pub finished_flight : FlightDraft → Result Flight Fault
finished_flight flight =
    if has_route flight then led_on flight else Err (fault_at flight.at 1 NoRoute)

unfoldable pub finished_flights : List FlightDraft → Result (List Flight) Fault
finished_flights [] = Ok []
finished_flights (flight ∷ flights) = do
  first ← finished_flight flight
  others ← finished_flights flights
  Ok (first ∷ others)

unfoldable pub finished : DraftParts → Result Parts Fault
finished draft = do
  flights ← finished_flights draft.flights
  Ok (record {
    day = draft.day;
    places = draft.places;
    flights = flights;
    tables = draft.tables;
    connections = draft.connections;
  })
