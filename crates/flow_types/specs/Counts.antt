-- How many flights depart from, arrive at, or are inside a place in a period.
use Rattle.std.specs.Prelude.{ℕ, ◌+◌, ◌==◌, Bool, ◌&&◌, nat_le, nat_lt, List, [], ◌∷◌, if◌then◌else◌}
use Rattle.flow_types.specs.declared.flight.Flight.{Flight}
use Rattle.flow_types.specs.declared.plan.Stop.{Stop}
use Rattle.flow_types.specs.Trips.{place_at}

abbrev pub one_if : Bool → ℕ
one_if b = if b then 1 else 0

-- 1 where the trip's first stop is at the place in the period
abbrev pub departs_at : ℕ → ℕ → Flight → List Stop → ℕ
departs_at place period flight [] = 0
departs_at place period flight (stop ∷ rest) =
    one_if ((place_at flight stop.node == place) && (stop.time == period))

-- 1 where the trip's last stop is
abbrev pub arrives_from : ℕ → ℕ → Flight → Stop → List Stop → ℕ
arrives_from place period flight stop [] =
    one_if ((place_at flight stop.node == place) && (stop.time == period))
arrives_from place period flight stop (next ∷ rest) = arrives_from place period flight next rest

abbrev pub arrives_at : ℕ → ℕ → Flight → List Stop → ℕ
arrives_at place period flight [] = 0
arrives_at place period flight (stop ∷ rest) = arrives_from place period flight stop rest

-- how many stops are at the place by the period, with the next stop after it: 1 at the most, since
-- the flight is there from the period in which it enters up to the one before it enters the next
abbrev pub stays_from : ℕ → ℕ → Flight → Stop → List Stop → ℕ
stays_from place period flight stop [] = 0
stays_from place period flight stop (next ∷ rest) =
    one_if ((place_at flight stop.node == place) && nat_le stop.time period
    && nat_lt period next.time)
    + stays_from place period flight next rest

abbrev pub stays_at : ℕ → ℕ → Flight → List Stop → ℕ
stays_at place period flight [] = 0
stays_at place period flight (stop ∷ rest) = stays_from place period flight stop rest

-- a count of each flight's trip, added up over the flights that have one
abbrev pub counted : (Flight → List Stop → ℕ) → List Flight → List (List Stop) → ℕ
counted count [] plan = 0
counted count (flight ∷ flights) [] = 0
counted count (flight ∷ flights) (trip ∷ plan) = count flight trip + counted count flights plan

-- how many flights depart from the place, arrive at it, and are inside it, in the period
abbrev pub departures_at : List Flight → List (List Stop) → ℕ → ℕ → ℕ
departures_at flights plan place period = counted (departs_at place period) flights plan

abbrev pub arrivals_at : List Flight → List (List Stop) → ℕ → ℕ → ℕ
arrivals_at flights plan place period = counted (arrives_at place period) flights plan

abbrev pub occupancy_at : List Flight → List (List Stop) → ℕ → ℕ → ℕ
occupancy_at flights plan place period = counted (stays_at place period) flights plan
