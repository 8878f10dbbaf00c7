-- What a trip of a flight is: stops from node 0 to the last node, joined by legs, each in its
-- window.
use Rattle.std.specs.Prelude.{◌≡◌, ℕ, ◌+◌, ◌-◌, ◌≤◌, ◌==◌, min, List, [], ◌∷◌, length, Option, Some, None, slice_index, if◌then◌else◌}
use Rattle.std.specs.List.{Any}
use Rattle.flow_types.specs.declared.flight.Flight.{Flight}
use Rattle.flow_types.specs.declared.flight.Leg.{Leg}
use Rattle.flow_types.specs.declared.plan.Stop.{Stop}

-- the first and the last period in which a flight may enter a node: its departure window at the
-- origin, its arrival window at the destination, the day between
abbrev pub earliest_of : Flight → ℕ → ℕ
earliest_of flight node =
    if node == 0 then flight.sd else (if node + 1 == length flight.nodes then flight.sa else 0)

abbrev pub latest_of : ℕ → Flight → ℕ → ℕ
latest_of periods flight node =
    if node == 0 then min (flight.sd + flight.mg) (periods - 1)
    else (if node + 1 == length flight.nodes then min (flight.sa + flight.md)
    (periods - 1) else periods - 1)

-- the stop's time is in its node's window
pub record IsWithinHours (periods : ℕ) (flight : Flight) (stop : Stop) : Type 0 where
  pub early : earliest_of flight stop.node ≤ stop.time
  pub late : stop.time ≤ latest_of periods flight stop.node

-- the leg leads from one stop to the next, and there is time for it
pub record IsLegBetween (stop next : Stop) (leg : Leg) : Type 0 where
  pub from : leg.from ≡ stop.node
  pub to : leg.to ≡ next.node
  pub least : stop.time + leg.least ≤ next.time

abbrev pub IsStep : List Leg → Stop → Stop → Type 0
IsStep legs stop next = Any (IsLegBetween stop next) legs

-- from this stop on, the rest leads to the last node
abbrev pub IsOnward : ℕ → Flight → Stop → List Stop → Type 0
IsOnward periods flight stop [] = stop.node + 1 ≡ length flight.nodes
IsOnward periods flight stop (next ∷ rest) =
    IsStep flight.legs stop next × IsWithinHours periods flight next
    × IsOnward periods flight next rest

-- from node 0 on
abbrev pub IsTrip : ℕ → Flight → List Stop → Type 0
IsTrip periods flight [] = ⊥
IsTrip periods flight (stop ∷ rest) =
    (stop.node ≡ 0) × IsWithinHours periods flight stop × IsOnward periods flight stop rest

-- where a stop is
abbrev pub place_at : Flight → ℕ → ℕ
place_at flight node = slice_index flight.nodes node

-- the time of the first stop, and of the last
abbrev pub departure_of : List Stop → Option ℕ
departure_of [] = None
departure_of (stop ∷ rest) = Some stop.time

abbrev pub arrival_from : Stop → List Stop → ℕ
arrival_from stop [] = stop.time
arrival_from stop (next ∷ rest) = arrival_from next rest

abbrev pub arrival_of : List Stop → Option ℕ
arrival_of [] = None
arrival_of (stop ∷ rest) = Some (arrival_from stop rest)
