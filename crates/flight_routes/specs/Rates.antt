-- What a flight pays on its way through a box, and the ways that it may take.
use Rattle.std.specs.Prelude.{◌≡◌, ◌⊎◌, ℕ, ◌+◌, ◌<◌, ◌≤◌, true, List, [], ◌∷◌, length, Option, None, Some, IsSome, ℤ, pos, ◌+ℤ◌, ◌-ℤ◌}
use Rattle.flow_types.specs.declared.flight.Flight.{Flight}
use Rattle.flow_types.specs.declared.plan.Stop.{Stop}
use Rattle.flow_types.specs.Trips.{IsStep}
use Rattle.time_windows.specs.declared.access.Access.{Access}
use Rattle.time_windows.specs.declared.access.Window.{Window}
use Rattle.time_windows.specs.Boxes.{IsInWindow}
use Rattle.time_windows.specs.declared.ends.End.{End}
use Rattle.time_windows.specs.declared.ends.End.TheVariants.{Arrival, Departure}

-- What leaving and arriving in a period cost, nothing where the flight may not; what being at a
-- node has cost from period 0 up to a period; and, of a node and a period, the first period from
-- that one on in which the flight may not be there.
pub record Rates : Type 0 where
  pub leaves : ℕ → Option ℤ
  pub arrives : ℕ → Option ℤ
  pub paid : ℕ → ℕ → ℤ
  pub clear : ℕ → ℕ → ℕ

-- what an end of the trip costs in a period
abbrev pub rate_at : End → Rates → ℕ → Option ℤ
rate_at Departure rates = rates.leaves
rate_at Arrival rates = rates.arrives

abbrev pub value_or_zero : Option ℤ → ℤ
value_or_zero None = pos 0
value_or_zero (Some value) = value

-- no node that must be entered lies between the two
abbrev pub PassesNoMust : (ℕ → Access) → ℕ → ℕ → Type 0
PassesNoMust row from to = (k : ℕ) → from < k → k < to → (row k).must ≡ true → ⊥

-- From one stop to the next: a leg leads there, no node is passed over that must be entered, the
-- flight may stay that long, and the next node is open then.
pub record IsPassage (flight : Flight) (row : ℕ → Access) (rates : Rates)
    (stop next : Stop) : Type 0 where
  pub step : IsStep flight.legs stop next
  pub musts : PassesNoMust row stop.node next.node
  pub stay : next.time ≤ rates.clear stop.node stop.time
  pub window : IsInWindow (row next.node).window next.time

-- the stops lead on from a stop to the last node, where the flight may arrive
abbrev pub IsWayOn : Flight → (ℕ → Access) → Rates → Stop → List Stop → Type 0
IsWayOn flight row rates stop [] =
    (stop.node + 1 ≡ length flight.nodes) × IsSome (rates.arrives stop.time)
IsWayOn flight row rates stop (next ∷ rest) =
    IsPassage flight row rates stop next × IsWayOn flight row rates next rest

-- what they cost
abbrev pub way_cost : Rates → Stop → List Stop → ℤ
way_cost rates stop [] = value_or_zero (rates.arrives stop.time)
way_cost rates stop (next ∷ rest) =
    (rates.paid stop.node next.time -ℤ rates.paid stop.node stop.time) +ℤ way_cost rates next rest

-- a way from the first node, which the flight may leave in the period
abbrev pub IsWay : Flight → (ℕ → Access) → Rates → List Stop → Type 0
IsWay flight row rates [] = ⊥
IsWay flight row rates (stop ∷ rest) =
    (stop.node ≡ 0) × IsInWindow (row 0).window stop.time × IsSome (rates.leaves stop.time)
    × IsWayOn flight row rates stop rest

abbrev pub whole_cost : Rates → List Stop → ℤ
whole_cost rates [] = pos 0
whole_cost rates (stop ∷ rest) = value_or_zero (rates.leaves stop.time) +ℤ way_cost rates stop rest

-- of one node, from one period to another: the first period in which the flight may not be there is
-- the period, or that of the next one
abbrev pub IsClear : ℕ → ℕ → (ℕ → ℕ) → Type 0
IsClear from to clear = (t : ℕ) → from ≤ t → t < to
    → (clear t ≡ t) ⊎ ((t < clear t) × (clear t ≡ clear (t + 1)))

-- of each node that a flight may stay at
abbrev pub AreClear : Flight → Window → Rates → Type 0
AreClear flight span rates = (n : ℕ) → n + 1 < length flight.nodes
    → IsClear span.lo span.hi (rates.clear n)
