-- The draft that a reader keeps.
use Rattle.std.specs.Prelude.{◌≡◌, ℕ, List}
use Rattle.flow_types.specs.declared.day.Day.{Day}
use Rattle.flow_types.specs.declared.flight.Connection.{Connection}
use Rattle.flow_types.specs.declared.flight.CostTable.{CostTable}
use Rattle.flow_types.specs.declared.place.Place.{Place}
use Rattle.scenario_reader.specs.DraftParts.{node_total}
use Rattle.scenario_reader.specs.Validity.{IsValidDraft}
use Rattle.scenario_reader.specs.declared.flight_draft.FlightDraft.{FlightDraft}

-- it keeps the rules, and its count of nodes is right
pub record IsDraft (day : Day) (places : List Place) (flights : List FlightDraft)
    (tables : List CostTable) (connections : List Connection) (nodes : ℕ) : Type 0 where
  pub parts : IsValidDraft (record {
    day = day;
    places = places;
    flights = flights;
    tables = tables;
    connections = connections;
  })
  pub counted : nodes ≡ node_total flights
