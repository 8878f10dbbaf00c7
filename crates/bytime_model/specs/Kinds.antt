-- The kinds of rows but cuts: the one list of them, and what names the rows of each have. The order
-- of the rows and the list of all names are told by these.
use Rattle.std.specs.Prelude.{ℕ, List, [], ◌∷◌, length, nat_lt, slice_get, if◌then◌else◌}
use Rattle.flow_types.specs.declared.parts.Parts.{Parts}
use Rattle.flow_types.specs.declared.place.CapKind.{CapKind}
use Rattle.flow_types.specs.declared.place.CapKind.TheVariants as cap
use Rattle.flow_types.specs.Capacities.{has_kind}
use Rattle.bytime_model.specs.declared.names.NodeKind.{NodeKind}
use Rattle.bytime_model.specs.declared.names.NodeKind.TheVariants as node
use Rattle.bytime_model.specs.declared.names.RowKind.{RowKind}
use Rattle.bytime_model.specs.declared.names.RowKind.TheVariants as of
use Rattle.bytime_model.specs.declared.names.Span.{Span}
use Rattle.bytime_model.specs.declared.names.RowName.{RowName}
use Rattle.bytime_model.specs.declared.names.RowName.TheVariants.{Arr, Connect, Cut, Dep, Enter, Leave, Mono, Occupy, Sector, Top}
use Rattle.bytime_model.specs.Rows.{goes_on, node_count}
use Rattle.bytime_model.specs.Values.{has_inside}

-- in the order of their rows
abbrev pub row_kinds : List RowKind
row_kinds =
    of.Nodes node.Mono ∷ of.Nodes node.Top
    ∷ of.Places cap.Dep ∷ of.Places cap.Arr ∷ of.Places cap.Sector
    ∷ of.Nodes node.Occupy ∷ of.Nodes node.Enter ∷ of.Nodes node.Leave
    ∷ of.Connections ∷ []

-- the position of a name's kind in the list, cuts last, and its numbers, 0 for one that it hasn't
abbrev pub SortKey : Type 0
SortKey = ℕ × ℕ × ℕ × ℕ

abbrev pub sort_key : RowName → SortKey
sort_key (Mono f n t) = (0, f, n, t)
sort_key (Top f n) = (1, f, n, 0)
sort_key (Dep p t) = (2, p, t, 0)
sort_key (Arr p t) = (3, p, t, 0)
sort_key (Sector p t) = (4, p, t, 0)
sort_key (Occupy f n t) = (5, f, n, t)
sort_key (Enter f n t) = (6, f, n, t)
sort_key (Leave f n) = (7, f, n, 0)
sort_key (Connect c t) = (8, c, t, 0)
sort_key (Cut i) = (length row_kinds, i, 0, 0)

-- and back: the name of a kind that has these numbers
abbrev pub node_name : NodeKind → ℕ → ℕ → ℕ → RowName
node_name node.Mono f n t = Mono f n t
node_name node.Top f n t = Top f n
node_name node.Occupy f n t = Occupy f n t
node_name node.Enter f n t = Enter f n t
node_name node.Leave f n t = Leave f n

abbrev pub capacity_name : CapKind → ℕ → ℕ → RowName
capacity_name cap.Dep p t = Dep p t
capacity_name cap.Arr p t = Arr p t
capacity_name cap.Sector p t = Sector p t

abbrev pub name_at : RowKind → ℕ → ℕ → ℕ → RowName
name_at (of.Nodes kind) f n t = node_name kind f n t
name_at (of.Places kind) p t none = capacity_name kind p t
name_at of.Connections c t none = Connect c t

-- the position of a kind in the list, by any of its names
abbrev pub rank : RowKind → ℕ
rank kind = (sort_key (name_at kind 0 0 0)).0

-- how many flights, places or connections the rows of a kind are of: so many first numbers
abbrev pub part_count : Parts → RowKind → ℕ
part_count parts (of.Nodes kind) = length parts.flights
part_count parts (of.Places kind) = length parts.places
part_count parts of.Connections = length parts.connections

-- how many second numbers there are beside a first one: of nodes, or of periods
abbrev pub second_count : Parts → RowKind → ℕ → ℕ
second_count parts (of.Nodes kind) f = node_count (slice_get parts.flights f)
second_count parts (of.Places kind) p =
    if has_kind kind (slice_get parts.places p) then parts.day.periods else 0
second_count parts of.Connections c = parts.day.periods

-- and which third ones beside these two: of periods, or 0 alone
abbrev pub up_to : ℕ → Span
up_to count = record { from = 0; to = count }

abbrev pub node_thirds : Parts → NodeKind → ℕ → ℕ → Span
node_thirds parts node.Mono f n = record { from = 1; to = parts.day.periods }
node_thirds parts node.Top f n = up_to 1
node_thirds parts node.Occupy f n =
    up_to (if has_inside (slice_get parts.flights f) n then parts.day.periods else 0)
node_thirds parts node.Enter f n = up_to (if nat_lt 0 n then parts.day.periods else 0)
node_thirds parts node.Leave f n = up_to (if goes_on (slice_get parts.flights f) n then 1 else 0)

abbrev pub thirds : Parts → RowKind → ℕ → ℕ → Span
thirds parts (of.Nodes kind) f n = node_thirds parts kind f n
thirds parts (of.Places kind) p t = up_to 1
thirds parts of.Connections c t = up_to 1
