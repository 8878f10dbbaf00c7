-- What the least ways of a flight are found under.
use Rattle.std.specs.Prelude.{ℕ, ◌+◌, ◌^◌, ◌<◌, ◌≤◌, ◌≤ℤ◌, List, length, IfSome, slice_index_or, All, ◌≡◌}
use Rattle.flow_types.specs.declared.flight.Flight.{Flight}
use Rattle.flow_types.specs.Limits.{most_nodes, most_periods}
use Rattle.flow_types.specs.Routes.{IsLeg}
use Rattle.time_windows.specs.declared.access.Access.{Access}
use Rattle.time_windows.specs.declared.access.Window.{Window}
use Rattle.time_windows.specs.Boxes.{IsInWindow, IsProper, closed, Box}
use Rattle.flight_routes.specs.Rates.{AreClear, Rates}
use Rattle.exact_sums.specs.Near.{IsNear}
use Rattle.flow_types.specs.declared.parts.Parts.{Parts}

-- sums of them fit in 128 bits
pub record AreSmall (rates : Rates) : Type 0 where
  pub leaves : (t : ℕ) → IfSome (rates.leaves t) (IsNear (2 ^ 110))
  pub arrives : (t : ℕ) → IfSome (rates.arrives t) (IsNear (2 ^ 110))
  pub paid : (n t : ℕ) → IsNear (2 ^ 100) (rates.paid n t)

-- what a row of accesses says of a node
abbrev pub row_of : List Access → ℕ → Access
row_of accesses node = slice_index_or accesses node closed

-- a period of a span of them
abbrev pub IsInSpan : Window → ℕ → Type 0
IsInSpan span time = (span.lo ≤ time) × (time ≤ span.hi)

-- rates of a span of periods that a day may have, which are small
pub record AreRates (span : Window) (rates : Rates) : Type 0 where
  pub few : span.hi < most_periods
  pub small : AreSmall rates

-- windows within a span of periods
pub record AreWindows (span : Window) (row : ℕ → Access) : Type 0 where
  pub proper : (n : ℕ) → IsProper (row n).window
  pub within : (n t : ℕ) → IsInWindow (row n).window t → IsInSpan span t

-- what a box says of each node of a flight, with the periods from the first to the last in which
-- one is open
pub record IsTaken (parts : Parts) (box : Box) (number : ℕ) (span : Window)
    (accesses : List Access) : Type 0 where
  pub long : length accesses ≡ most_nodes
  pub row : (n : ℕ) → row_of accesses n ≡ box number n
  pub windows : AreWindows span (row_of accesses)
  pub day : span.hi < parts.day.periods

-- the flight has few nodes, and legs that lead upward
pub record IsUpward (flight : Flight) : Type 0 where
  pub nodes_from : 1 ≤ length flight.nodes
  pub nodes_to : length flight.nodes ≤ most_nodes
  pub legs : All (IsLeg (length flight.nodes)) flight.legs

-- all of that
pub record IsReady (flight : Flight) (row : ℕ → Access) (span : Window) (rates : Rates)
    : Type 0 where
  pub day : AreRates span rates
  pub clear : AreClear flight span rates
  pub windows : AreWindows span row
  pub network : IsUpward flight

-- being at a node costs more the longer it is
abbrev pub AreRising : Flight → Window → Rates → Type 0
AreRising flight span rates = (n t u : ℕ) → n + 1 < length flight.nodes → span.lo ≤ t → t ≤ u
    → u ≤ span.hi → rates.paid n t ≤ℤ rates.paid n u
