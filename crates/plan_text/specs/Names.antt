-- The names of flights and places, by their positions.
use Rattle.std.specs.Prelude.{◌≡◌, ℕ, ◌==◌, List, [], map, Option, Some, None, position, slice_get}
use Rattle.flow_types.specs.declared.flight.Flight.{Flight}
use Rattle.flow_types.specs.declared.parts.Parts.{Parts}
use Rattle.flow_types.specs.declared.place.Place.{Place}
use Rattle.text_records.specs.Names.{position_of}

abbrev pub flight_names : List Flight → List (List ℕ)
flight_names flights = map (λ flight. flight.name) flights

abbrev pub place_names : List Place → List (List ℕ)
place_names places = map (λ place. place.name) places

-- the names of a scenario's flights and places, in their order
pub record AreNames (parts : Parts) (flights places : List (List ℕ)) : Type 0 where
  pub of_flights : flights ≡ flight_names parts.flights
  pub of_places : places ≡ place_names parts.places

-- the places of a flight's nodes
abbrev pub nodes_of : Option Flight → List ℕ
nodes_of None = []
nodes_of (Some flight) = flight.nodes

abbrev pub nodes_at : List Flight → ℕ → List ℕ
nodes_at flights k = nodes_of (slice_get flights k)

-- the first node that is at the place
abbrev pub node_at : List ℕ → Option ℕ → Option ℕ
node_at nodes None = None
node_at nodes (Some place) = position (λ node. node == place) nodes

-- the first node that is at the place of this name
abbrev pub node_named : List Place → List ℕ → List ℕ → Option ℕ
node_named places nodes name = node_at nodes (position_of name (place_names places))
