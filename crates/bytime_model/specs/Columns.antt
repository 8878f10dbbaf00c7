-- A position for each variable that a tight box may leave free: node by node, those of entering the
-- node, then those of being inside.
use Rattle.std.specs.Prelude.{◌≡◌, ℕ, ◌+◌, ◌-◌, ◌*◌, ◌/◌, ◌%◌, ◌^◌, ◌<◌, ◌≤◌, true, nat_lt, max, List, [], ◌∷◌, slice_get, slice_index_or, length, Option, None, Some, if◌then◌else◌}
use Rattle.flow_types.specs.declared.flight.Flight.{Flight}
use Rattle.flow_types.specs.declared.flight.Leg.{Leg}
use Rattle.flow_types.specs.declared.parts.Parts.{Parts}
use Rattle.flow_types.specs.Limits.{most_nodes}
use Rattle.time_windows.specs.declared.access.Access.{Access}
use Rattle.time_windows.specs.declared.access.Window.{Window}
use Rattle.time_windows.specs.Boxes.{Box, IsBoxOf, root_box}
use Rattle.time_windows.specs.Steps.{legs_of}
use Rattle.time_windows.specs.Tight.{IsTight, IsTightened}
use Rattle.bytime_model.specs.declared.left.Left.TheVariants.{Free, Same}
use Rattle.bytime_model.specs.declared.variables.Var.{Var}
use Rattle.bytime_model.specs.declared.variables.Var.TheVariants.{By, Inside}
use Rattle.bytime_model.specs.Left.{left_of}
use Rattle.bytime_model.specs.Values.{has_inside}
use Rattle.bytime_model.specs.declared.columns.Column.{Column}

abbrev pub no_column : Column
no_column = record { start = 0; first = 0; width = 0; stays = 0 }

-- the columns of all nodes, and how many positions they have
pub record Numbering : Type 0 where
  pub columns : List Column
  pub count : ℕ

abbrev pub index_of : Var → ℕ
index_of (By flight node time) = flight * most_nodes + node
index_of (Inside flight node time) = flight * most_nodes + node

abbrev pub position_in : Column → Var → ℕ
position_in column (By flight node time) = column.start + (time - column.first)
position_in column (Inside flight node time) =
    column.start + column.width + (time - column.first)

abbrev pub position_of : List Column → Var → ℕ
position_of columns variable =
    position_in (slice_index_or columns (index_of variable) no_column) variable

-- the variable of a position
abbrev pub variable_in : ℕ → Column → ℕ → Var
variable_in index column position =
    if nat_lt position (column.start + column.width)
    then By (index / most_nodes) (index % most_nodes) (column.first + (position - column.start))
    else Inside (index / most_nodes) (index % most_nodes)
    (column.first + (position - (column.start + column.width)))

abbrev pub variable_at : ℕ → List Column → ℕ → Var
variable_at index [] position = By 0 0 0
variable_at index (column ∷ columns) position =
    if nat_lt position (column.start + column.width + column.stays)
    then variable_in index column position
    else variable_at (index + 1) columns position

-- one after the other, from a position up to another
abbrev pub AreInLine : ℕ → List Column → ℕ → Type 0
AreInLine from [] to = from ≡ to
AreInLine from (column ∷ columns) to =
    (column.start ≡ from) × AreInLine (from + column.width + column.stays) columns to

-- the variable is one of the program's
abbrev pub IsThere : List Flight → Var → Type 0
IsThere flights (By flight node time) = Unit {0}
IsThere flights (Inside flight node time) = has_inside (slice_get flights flight) node ≡ true

-- each variable that the box leaves free has a position of its own
pub record IsNumbered (parts : Parts) (numbering : Numbering) (box : Box) : Type 0 where
  pub few : numbering.count < 2 ^ 64
  pub within : (variable : Var) → IsThere parts.flights variable
      → left_of parts.flights box variable ≡ Free
      → position_of numbering.columns variable < numbering.count
  pub own : (variable : Var) → IsThere parts.flights variable
      → left_of parts.flights box variable ≡ Free
      → variable_at 0 numbering.columns (position_of numbering.columns variable) ≡ variable

-- and what is the same as another variable is so as one that is free
pub record IsWhole (flights : List Flight) (box : Box) : Type 0 where
  pub same : (variable other : Var) → left_of flights box variable ≡ Same other
      → left_of flights box other ≡ Free
  pub there : (variable other : Var) → left_of flights box variable ≡ Same other
      → IsThere flights other

-- whatever tight box within the root box it is
abbrev pub AreColumnsOf : Parts → Numbering → Type 0
AreColumnsOf parts numbering = (box : Box) → IsBoxOf parts box → IsTight parts box
    → IsNumbered parts numbering box

-- a variable that the box leaves free has the position
pub record IsTaken (flights : List Flight) (numbering : Numbering) (box : Box) (position : ℕ)
    : Type 0 where
  pub variable : Var
  pub there : IsThere flights variable
  pub free : left_of flights box variable ≡ Free
  pub here : position_of numbering.columns variable ≡ position

-- in the tight root box each position has one, so that they are as many as its free variables
abbrev pub AreTaken : Parts → Numbering → Type 0
AreTaken parts numbering = (root : Box) → IsTightened parts (root_box parts) root
    → (position : ℕ) → position < numbering.count → IsTaken parts.flights numbering root position

-- the latest end of the windows that legs lead to
abbrev pub end_of : Option Window → ℕ
end_of None = 0
end_of (Some window) = window.hi

abbrev pub latest_end : (ℕ → Access) → List Leg → ℕ → ℕ
latest_end row [] latest = latest
latest_end row (leg ∷ legs) latest = latest_end row legs (max latest (end_of (row leg.to).window))

-- how many periods of being inside are open
abbrev pub stays_from : Option Flight → (ℕ → Access) → ℕ → ℕ → ℕ
stays_from None row node first = 0
stays_from (Some flight) row node first =
    if has_inside (Some flight) node then latest_end row (legs_of flight node) 0 - first else 0

-- the column of a node, from a position on
abbrev pub column_in : Option Window → ℕ → (ℕ → ℕ) → ℕ → Column
column_in None known stays start = record { start = start; first = 0; width = 0; stays = 0 }
column_in (Some window) known stays start = record {
  start = start;
  first = window.lo;
  width = window.hi + 1 - window.lo - known;
  stays = stays window.lo;
}

abbrev pub column_at : List Flight → Box → ℕ → ℕ → ℕ → Column
column_at flights box flight node start =
    column_in (box flight node).window (if (box flight node).must then 1 else 0)
    (stays_from (slice_get flights flight) (box flight) node) start

-- the columns of the first so many nodes, 32 a flight
pub record AreColumnsTo (flights : List Flight) (box : Box) (count : ℕ) (numbering : Numbering)
    : Type 0 where
  pub length : length numbering.columns ≡ count
  pub line : AreInLine 0 numbering.columns numbering.count
  pub few : numbering.count ≤ count * 2 ^ 17
  pub each : (k : ℕ) (column : Column) → slice_get numbering.columns k ≡ Some column
      → column ≡ column_at flights box (k / most_nodes) (k % most_nodes) column.start
