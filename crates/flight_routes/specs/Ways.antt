-- The least ways on from each stop.
use Rattle.std.specs.Prelude.{◌≡◌, ℕ, ◌<◌, ◌≤◌, List, [], ◌∷◌, length, Option, None, Some, slice_index_or, IsSome, ℤ, ◌+ℤ◌}
use Rattle.std.specs.List.{Contains}
use Rattle.flow_types.specs.declared.flight.Flight.{Flight}
use Rattle.flow_types.specs.declared.flight.Leg.{Leg}
use Rattle.flow_types.specs.declared.plan.Stop.{Stop}
use Rattle.flow_types.specs.Trips.{IsLegBetween}
use Rattle.time_windows.specs.declared.access.Access.{Access}
use Rattle.time_windows.specs.Boxes.{IsInWindow}
use Rattle.exact_sums.specs.Leasts.{IsLeast}
use Rattle.flight_routes.specs.Entries.{cell_at}
use Rattle.flight_routes.specs.Rates.{IsWayOn, PassesNoMust, Rates, value_or_zero, way_cost}

abbrev pub stop_at : ℕ → ℕ → Stop
stop_at node time = record { node = node; time = time }

-- the cell is the least cost of the ways on from the stop
abbrev pub IsCell : Flight → (ℕ → Access) → Rates → ℕ → ℕ → Option ℤ → Type 0
IsCell flight row rates node time cell =
    IsLeast (IsWayOn flight row rates (stop_at node time)) (way_cost rates (stop_at node time)) cell

-- what a way on costs, with what being at the node had cost when the flight came there
abbrev pub entered_cost : Rates → Stop → List Stop → ℤ
entered_cost rates stop way = way_cost rates stop way +ℤ rates.paid stop.node stop.time

-- every cell of a window is, from a node on
pub record AreCells (flight : Flight) (row : ℕ → Access) (rates : Rates) (from : ℕ)
    (cells : List (Option ℤ)) : Type 0 where
  pub each : (n t : ℕ) → from ≤ n → n < length flight.nodes → IsInWindow (row n).window t
      → IsCell flight row rates n t (cell_at cells n t)

-- one of the first so many legs leads from one stop to the next
pub record IsStepAmong (legs : List Leg) (count : ℕ) (stop next : Stop) : Type 0 where
  pub at : ℕ
  pub leg : Leg
  pub before : at < count
  pub inside : at < length legs
  pub is : slice_index_or legs at leg ≡ leg
  pub between : IsLegBetween stop next leg

-- a passage whose leg is one of those
pub record IsPassageAmong (legs : List Leg) (count : ℕ) (row : ℕ → Access) (rates : Rates)
    (stop next : Stop) : Type 0 where
  pub step : IsStepAmong legs count stop next
  pub musts : PassesNoMust row stop.node next.node
  pub stay : next.time ≤ rates.clear stop.node stop.time
  pub window : IsInWindow (row next.node).window next.time

-- a way on that begins with such a passage
abbrev pub IsWayAmong : Flight → List Leg → ℕ → (ℕ → Access) → Rates → Stop → List Stop → Type 0
IsWayAmong flight legs count row rates stop [] = ⊥
IsWayAmong flight legs count row rates stop (next ∷ rest) =
    IsPassageAmong legs count row rates stop next × IsWayOn flight row rates next rest

-- a passage by one leg, and a way on that begins with it
pub record IsPassageBy (leg : Leg) (row : ℕ → Access) (rates : Rates) (stop next : Stop)
    : Type 0 where
  pub between : IsLegBetween stop next leg
  pub musts : PassesNoMust row stop.node next.node
  pub stay : next.time ≤ rates.clear stop.node stop.time
  pub window : IsInWindow (row next.node).window next.time

abbrev pub IsWayBy : Flight → Leg → (ℕ → Access) → Rates → Stop → List Stop → Type 0
IsWayBy flight leg row rates stop [] = ⊥
IsWayBy flight leg row rates stop (next ∷ rest) =
    IsPassageBy leg row rates stop next × IsWayOn flight row rates next rest

-- the legs of a list from a node are those of a flight
pub record HasLegsFrom (node : ℕ) (all legs : List Leg) : Type 0 where
  pub each : (leg : Leg) → leg.from ≡ node → Contains all leg → Contains legs leg
  pub only : (leg : Leg) → Contains legs leg → Contains all leg

-- how far a leg from a node may lead, past no node that must be entered
pub record IsLimit (row : ℕ → Access) (nodes node limit : ℕ) : Type 0 where
  pub free : (to : ℕ) → to ≤ limit → PassesNoMust row node to
  pub barred : (to : ℕ) → limit < to → to < nodes → PassesNoMust row node to → ⊥

-- a first stop in the period has a way on, and may be left
pub record IsStart (row : ℕ → Access) (rates : Rates) (cells : List (Option ℤ)) (time : ℕ)
    : Type 0 where
  pub window : IsInWindow (row 0).window time
  pub leaves : IsSome (rates.leaves time)
  pub reaches : IsSome (cell_at cells 0 time)

abbrev pub start_cost : Rates → List (Option ℤ) → ℕ → ℤ
start_cost rates cells time =
    value_or_zero (rates.leaves time) +ℤ value_or_zero (cell_at cells 0 time)

-- the sum of two costs, where both are there
abbrev pub both_of : Option ℤ → Option ℤ → Option ℤ
both_of None b = None
both_of (Some a) None = None
both_of (Some a) (Some b) = Some (a +ℤ b)
