-- The tight box: the widest one in which each entry can be led up to and led on from, and the ends
-- of connections leave time for the turnaround.
use Rattle.std.specs.Prelude.{◌≡◌, ◌⊎◌, ℕ, ◌+◌, ◌-◌, ◌<◌, ◌≤◌, length, Option, None, Some, slice_get, All}
use Rattle.std.specs.List.{Any}
use Rattle.flow_types.specs.declared.flight.Connection.{Connection}
use Rattle.flow_types.specs.declared.flight.Flight.{Flight}
use Rattle.flow_types.specs.declared.flight.Leg.{Leg}
use Rattle.flow_types.specs.declared.parts.Parts.{Parts}
use Rattle.time_windows.specs.declared.access.Access.{Access}
use Rattle.time_windows.specs.declared.access.Window.{Window}
use Rattle.time_windows.specs.declared.tightening.Tight.{Tight}
use Rattle.time_windows.specs.declared.tightening.Tight.TheVariants.{Empty, Live}
use Rattle.time_windows.specs.Boxes.{Box, IsClosedMust, IsProper, IsWithin}

-- from an open node, time for the leg leads to the start of a window
abbrev pub LeadsTo : Option Window → ℕ → Window → Type 0
LeadsTo None least window = ⊥
LeadsTo (Some before) least window = before.lo + least ≤ window.lo

-- to an open node, time for the leg is left from the end of a window
abbrev pub LeadsOn : Option Window → ℕ → Window → Type 0
LeadsOn None least window = ⊥
LeadsOn (Some next) least window = window.hi + least ≤ next.hi

-- the leg enters the node, in time for its window
pub record IsLegIn (row : ℕ → Access) (node : ℕ) (window : Window) (leg : Leg) : Type 0 where
  pub to : leg.to ≡ node
  pub time : LeadsTo (row leg.from).window leg.least window

-- the leg leaves the node, with time from its window
pub record IsLegOut (row : ℕ → Access) (node : ℕ) (window : Window) (leg : Leg) : Type 0 where
  pub from : leg.from ≡ node
  pub time : LeadsOn (row leg.to).window leg.least window

-- The first flight's last node and the second's first: where both are open there is time between
-- their starts and between their ends, and where one is closed, so is the other.
abbrev pub KeepsEnds : ℕ → Option Window → Option Window → Type 0
KeepsEnds turnaround None None = Unit {0}
KeepsEnds turnaround None (Some leaves) = ⊥
KeepsEnds turnaround (Some arrives) None = ⊥
KeepsEnds turnaround (Some arrives) (Some leaves) =
    (arrives.lo + turnaround ≤ leaves.lo) × (arrives.hi + turnaround ≤ leaves.hi)

-- the last node of a flight
abbrev pub last_of : Option Flight → ℕ
last_of None = 0
last_of (Some flight) = length flight.nodes - 1

-- each window of the flight has a leg in and a leg out
pub record IsTightRow (flight : Flight) (row : ℕ → Access) : Type 0 where
  pub proper : (n : ℕ) → IsProper (row n).window
  pub entered : (n : ℕ) (window : Window) → 0 < n → n < length flight.nodes
      → (row n).window ≡ Some window → Any (IsLegIn row n window) flight.legs
  pub left : (n : ℕ) (window : Window) → n + 1 < length flight.nodes
      → (row n).window ≡ Some window → Any (IsLegOut row n window) flight.legs

-- the ends of a connection
abbrev pub IsTightTurn : Parts → Box → Connection → Type 0
IsTightTurn parts box connection =
    KeepsEnds connection.turnaround
    (box connection.first (last_of (slice_get parts.flights connection.first))).window
    (box connection.second 0).window

pub record IsTight (parts : Parts) (box : Box) : Type 0 where
  pub rows : (f : ℕ) (flight : Flight) → slice_get parts.flights f ≡ Some flight
      → IsTightRow flight (box f)
  pub turns : All (IsTightTurn parts box) parts.connections

-- the widest tight box within another
pub record IsTightened (parts : Parts) (outer inner : Box) : Type 0 where
  pub within : IsWithin inner outer
  pub tight : IsTight parts inner
  pub widest : (other : Box) → IsWithin other outer → IsTight parts other → IsWithin other inner

-- by flight, then node
abbrev pub IsEarlierNode : ℕ → ℕ → ℕ → ℕ → Type 0
IsEarlierNode f n flight node = (f < flight) ⊎ ((f ≡ flight) × (n < node))

-- no node that must be entered is closed
abbrev pub IsLive : Box → Type 0
IsLive box = (f n : ℕ) → IsClosedMust (box f n) → ⊥

-- the first node that must be entered and is closed
pub record IsFirstClosed (box : Box) (flight node : ℕ) : Type 0 where
  pub here : IsClosedMust (box flight node)
  pub none_before : (f n : ℕ) → IsEarlierNode f n flight node → IsClosedMust (box f n) → ⊥

-- what is told of a tight box
abbrev pub IsTightAnswer : Box → Tight → Type 0
IsTightAnswer box Live = IsLive box
IsTightAnswer box (Empty flight node) = IsFirstClosed box flight node
