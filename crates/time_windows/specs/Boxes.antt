-- What a box of plans is: for each node of each flight, when the flight may enter it, and whether
-- it must.
use Rattle.std.specs.Prelude.{◌≡◌, ℕ, ◌+◌, ◌-◌, ◌≤◌, ◌==◌, true, false, ◌||◌, nat_lt, List, length, Option, None, Some, slice_get, All, if◌then◌else◌}
use Rattle.std.specs.List.{Any}
use Rattle.flow_types.specs.declared.flight.Flight.{Flight}
use Rattle.flow_types.specs.declared.parts.Parts.{Parts}
use Rattle.flow_types.specs.declared.plan.Stop.{Stop}
use Rattle.flow_types.specs.Trips.{earliest_of, latest_of}
use Rattle.time_windows.specs.declared.access.Access.{Access}
use Rattle.time_windows.specs.declared.access.Window.{Window}

-- by flight and node
abbrev pub Box : Type 0
Box = ℕ → ℕ → Access

-- a node that the flight may not enter
abbrev pub closed : Access
closed = record { window = None; must = false }

-- the first period of a window is no later than the last
abbrev pub IsProper : Option Window → Type 0
IsProper None = Unit {0}
IsProper (Some window) = window.lo ≤ window.hi

-- the period is in the window; none is where the node is closed
abbrev pub IsInWindow : Option Window → ℕ → Type 0
IsInWindow None time = ⊥
IsInWindow (Some window) time = (window.lo ≤ time) × (time ≤ window.hi)

-- each stop is in its node's window, and each node that must be entered has a stop
pub record IsTripInBox (row : ℕ → Access) (stops : List Stop) : Type 0 where
  pub windows : All (λ stop. IsInWindow (row stop.node).window stop.time) stops
  pub musts : (node : ℕ) → (row node).must ≡ true → Any (λ stop. stop.node ≡ node) stops

-- every trip of the plan is
abbrev pub IsInBox : Box → List (List Stop) → Type 0
IsInBox box plan = (f : ℕ) (trip : List Stop) → slice_get plan f ≡ Some trip
    → IsTripInBox (box f) trip

-- how many periods the flight may choose from, and one more where it may leave the node out
abbrev pub width_of : Option Window → ℕ
width_of None = 0
width_of (Some window) = window.hi + 1 - window.lo

abbrev pub options_of : Access → ℕ
options_of access = width_of access.window + (if access.must then 0 else 1)

-- a node that must be entered and is closed
pub record IsClosedMust (access : Access) : Type 0 where
  pub must : access.must ≡ true
  pub shut : access.window ≡ None

-- The root box: every node has its hours of the day, and both ends must be entered.
abbrev pub root_access : ℕ → Flight → ℕ → Access
root_access periods flight node =
    if nat_lt node (length flight.nodes)
    then record {
      window = Some (record { lo = earliest_of flight node; hi = latest_of periods flight node });
      must = (node == 0) || (node + 1 == length flight.nodes);
    } else closed

abbrev pub root_row : ℕ → Option Flight → ℕ → Access
root_row periods None node = closed
root_row periods (Some flight) node = root_access periods flight node

abbrev pub root_box : Parts → Box
root_box parts flight node = root_row parts.day.periods (slice_get parts.flights flight) node

-- the window lies within another
abbrev pub IsWindowWithin : Option Window → Option Window → Type 0
IsWindowWithin None outer = Unit {0}
IsWindowWithin (Some window) None = ⊥
IsWindowWithin (Some window) (Some outer) = (outer.lo ≤ window.lo) × (window.hi ≤ outer.hi)

-- the same marks, and no window wider
pub record IsWithin (inner outer : Box) : Type 0 where
  pub marks : (f n : ℕ) → (inner f n).must ≡ (outer f n).must
  pub windows : (f n : ℕ) → IsWindowWithin (inner f n).window (outer f n).window

-- The box lies within the root box: no window is wider, no mark of the root's is missing, and only
-- nodes are marked.
pub record IsBoxOf (parts : Parts) (box : Box) : Type 0 where
  pub windows : (f n : ℕ) → IsWindowWithin (box f n).window (root_box parts f n).window
  pub marks : (f n : ℕ) → (root_box parts f n).must ≡ true → (box f n).must ≡ true
  pub nodes : (f n : ℕ) → (root_box parts f n).window ≡ None → (box f n).must ≡ false
