-- What has been read so far.
use Rattle.std.specs.Prelude.{ℕ, ◌+◌, List, length, map, sum_by}
use Rattle.flow_types.specs.declared.day.Day.{Day}
use Rattle.flow_types.specs.declared.flight.Connection.{Connection}
use Rattle.flow_types.specs.declared.flight.CostTable.{CostTable}
use Rattle.flow_types.specs.declared.place.Place.{Place}
use Rattle.scenario_reader.specs.declared.flight_draft.FlightDraft.{FlightDraft}

pub record DraftParts : Type 0 where
  pub day : Day
  pub places : List Place
  pub flights : List FlightDraft
  pub tables : List CostTable
  pub connections : List Connection

abbrev pub place_names : List Place → List (List ℕ)
place_names places = map (λ place. place.name) places

abbrev pub flight_names : List FlightDraft → List (List ℕ)
flight_names flights = map (λ flight. flight.name) flights

abbrev pub table_names : List CostTable → List (List ℕ)
table_names tables = map (λ table. table.name) tables

-- where the flights begin, and where they end
abbrev pub origins : List FlightDraft → List ℕ
origins flights = map (λ flight. flight.from) flights

abbrev pub destinations : List FlightDraft → List ℕ
destinations flights = map (λ flight. flight.to) flights

-- how many nodes a flight has: its two airports and the sectors that a leg leads to
abbrev pub node_count : FlightDraft → ℕ
node_count flight = length flight.reached + 2

-- how many the flights have in all
abbrev pub node_total : List FlightDraft → ℕ
node_total flights = sum_by node_count flights
