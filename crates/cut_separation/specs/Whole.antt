-- The whole cuts of a day, in their order: for each node all its heads, and how far each node is.
use Rattle.std.specs.Prelude.{◌≡◌, ℕ, nat_lt, List, [], ◌∷◌, length, map, Option, slice_get, if◌then◌else◌}
use Rattle.std.specs.List.{filter, flat_map, range_with_len}
use Rattle.flow_types.specs.declared.flight.Flight.{Flight}
use Rattle.flow_types.specs.declared.parts.Parts.{Parts}
use Rattle.bytime_model.specs.Rows.{node_count}
use Rattle.route_distances.specs.Walks.{legs_of}
use Rattle.cut_rows.specs.declared.names.CutName.{CutName}
use Rattle.cut_rows.specs.declared.names.CutName.TheVariants.{Apart, Departed, Heads}
use Rattle.cut_rows.specs.Cuts.{is_head}
use Rattle.cut_separation.specs.declared.whole.WholeKind.{WholeKind}
use Rattle.cut_separation.specs.declared.whole.WholeKind.TheVariants as kind

-- all nodes that the node alone leads to
abbrev pub heads_of : Option Flight → ℕ → List ℕ
heads_of flight node =
    filter (is_head (legs_of flight) node) (range_with_len 0 (node_count flight))

-- A cut of heads is whole where it names all of them, and one of having departed always is.
abbrev pub IsWhole : Parts → CutName → Type 0
IsWhole parts (Heads f n t heads) = heads ≡ heads_of (slice_get parts.flights f) n
IsWhole parts (Apart f t nodes) = ⊥
IsWhole parts (Departed f n t) = Unit {0}

-- a cut for each period
abbrev pub over_day : Parts → (ℕ → CutName) → List CutName
over_day parts name = map name (range_with_len 0 parts.day.periods)

-- the cuts of a node: of all its heads, where it has some, and of having departed, but for node 0
abbrev pub heads_cuts : Parts → ℕ → ℕ → List ℕ → List CutName
heads_cuts parts f n heads =
    if nat_lt 0 (length heads) then over_day parts (λ t. Heads f n t heads) else []

abbrev pub node_cuts : WholeKind → Parts → ℕ → ℕ → List CutName
node_cuts kind.Heads parts f n = heads_cuts parts f n (heads_of (slice_get parts.flights f) n)
node_cuts kind.Departed parts f n =
    if nat_lt 0 n then over_day parts (Departed f n) else []

-- flight by flight, and node by node
abbrev pub flight_cuts : WholeKind → Parts → ℕ → List CutName
flight_cuts kind parts f =
    flat_map (node_cuts kind parts f) (range_with_len 0 (node_count (slice_get parts.flights f)))

abbrev pub kind_cuts : Parts → WholeKind → List CutName
kind_cuts parts kind = flat_map (flight_cuts kind parts) (range_with_len 0 (length parts.flights))

abbrev pub whole_cuts : Parts → List CutName
whole_cuts parts = flat_map (kind_cuts parts) (kind.Heads ∷ kind.Departed ∷ [])
