-- Which rule a plan breaks first: the number of its trips, then the trips flight by flight and stop
-- by stop, then the turnarounds, then the capacities to depart, to arrive and inside sectors.
-- It is said of every plan. A node that a flight hasn't is entered by no leg, so that its window is
-- never asked for; and the turnarounds and capacities are asked for where all trips are trips.
use Rattle.std.specs.Prelude.{ℕ, zero, suc, ◌+◌, ◌==◌, Bool, ◌&&◌, nat_le, List, [], ◌∷◌, length, Option, Some, None, Result, Ok, Err, ◌≡◌, slice_get, slice_index_or, option_and_then, if◌then◌else◌}
use Rattle.std.specs.List.{find}
use Rattle.std.specs.Option.{option_or}
use Rattle.flow_types.specs.declared.flight.Connection.{Connection}
use Rattle.flow_types.specs.declared.flight.Flight.{Flight}
use Rattle.flow_types.specs.declared.flight.Leg.{Leg}
use Rattle.flow_types.specs.declared.parts.Parts.{Parts}
use Rattle.flow_types.specs.declared.place.CapKind.{CapKind}
use Rattle.flow_types.specs.declared.place.CapKind.TheVariants as kind
use Rattle.flow_types.specs.declared.plan.Stop.{Stop}
use Rattle.flow_types.specs.Capacities.{capacity_of, has_kind}
use Rattle.flow_types.specs.Counts.{arrivals_at, departures_at, occupancy_at}
use Rattle.flow_types.specs.Trips.{arrival_of, departure_of, earliest_of, latest_of}
use Rattle.plan_rules.specs.declared.broken.Broken.{Broken}
use Rattle.plan_rules.specs.declared.broken.Broken.TheVariants as broken

-- what is found at the first number below n at which something is
abbrev pub first_below : ℕ → (ℕ → Option Broken) → Option Broken
first_below zero found = None
first_below (suc n) found = option_or (first_below n found) (found n)

-- what is found at the first item of a list at which something is, of the item and its position
abbrev pub found_at : {A : Type 0} → (ℕ → A → Option Broken) → List A → ℕ → Option Broken
found_at found items k = option_and_then (found k) (slice_get items k)

abbrev pub first_along : {A : Type 0} → (ℕ → A → Option Broken) → List A → Option Broken
first_along found items = first_below (length items) (found_at found items)

-- the rule is broken unless the test holds
abbrev pub unless : Bool → Broken → Option Broken
unless test rule = if test then None else Some rule

-- more trips than flights, or fewer
abbrev pub broken_number : ℕ → ℕ → Option Broken
broken_number trips flights = unless (trips == flights) (broken.Trips trips flights)

-- a stop whose time isn't in its node's window
abbrev pub is_within_hours : ℕ → Flight → Stop → Bool
is_within_hours periods flight stop =
    nat_le (earliest_of flight stop.node) stop.time
    && nat_le stop.time (latest_of periods flight stop.node)

abbrev pub broken_window : ℕ → ℕ → Flight → ℕ → Stop → Option Broken
broken_window periods number flight place stop =
    unless (is_within_hours periods flight stop) (broken.Window number place)

-- the leg from one node to another, if there is one
abbrev pub leg_between : List Leg → ℕ → ℕ → Option Leg
leg_between legs from to = find (λ leg. (leg.from == from) && (leg.to == to)) legs

-- no leg leads from a stop to the next one, or there is less time than the leg takes
abbrev pub broken_step : ℕ → ℕ → Stop → Stop → Option Leg → Option Broken
broken_step number place stop next None = Some (broken.NoLeg number place)
broken_step number place stop next (Some leg) =
    unless (nat_le (stop.time + leg.least) next.time) (broken.Least number place leg.least)

-- What breaks first after a stop, which stands at that place in the trip: stop by stop the way to
-- the next one, then its window, and at the last stop its node.
abbrev pub broken_onward : ℕ → ℕ → Flight → ℕ → Stop → List Stop → Option Broken
broken_onward periods number flight place stop [] =
    unless (stop.node + 1 == length flight.nodes) (broken.Ending number)
broken_onward periods number flight place stop (next ∷ rest) =
    option_or (broken_step number place stop next (leg_between flight.legs stop.node next.node))
    (option_or (broken_window periods number flight (place + 1) next)
    (broken_onward periods number flight (place + 1) next rest))

-- the trip of the flight of that number: its start, the first stop's window, and so on
abbrev pub broken_trip : ℕ → ℕ → Flight → List Stop → Option Broken
broken_trip periods number flight [] = Some (broken.Start number)
broken_trip periods number flight (stop ∷ rest) =
    option_or (unless (stop.node == 0) (broken.Start number))
    (option_or (broken_window periods number flight 0 stop)
    (broken_onward periods number flight 0 stop rest))

abbrev pub broken_trip_in : ℕ → List (List Stop) → ℕ → Flight → Option Broken
broken_trip_in periods plan number flight =
    broken_trip periods number flight (slice_index_or plan number [])

-- a flight that leaves before the turnaround has passed since the one before it arrived, where both
-- are there
abbrev pub broken_times : ℕ → ℕ → Option ℕ → Option ℕ → Option Broken
broken_times number turnaround None leaves = None
broken_times number turnaround (Some arrives) None = None
broken_times number turnaround (Some arrives) (Some leaves) =
    unless (nat_le (arrives + turnaround) leaves) (broken.Turn number arrives leaves)

-- a turnaround that isn't kept by the connection of that number, where flights arrive and depart at
-- these times
abbrev pub broken_turn : (ℕ → Option ℕ) → (ℕ → Option ℕ) → ℕ → Connection → Option Broken
broken_turn arrival departure number connection =
    broken_times number connection.turnaround (arrival connection.first)
    (departure connection.second)

-- when a flight of the plan arrives, and departs
abbrev pub arrival_in : List (List Stop) → ℕ → Option ℕ
arrival_in plan flight = option_and_then arrival_of (slice_get plan flight)

abbrev pub departure_in : List (List Stop) → ℕ → Option ℕ
departure_in plan flight = option_and_then departure_of (slice_get plan flight)

-- more than the capacity of this kind, by the name of the rule
abbrev pub over : CapKind → ℕ → ℕ → ℕ → ℕ → Broken
over kind.Dep place period load capacity =
    broken.Departures (record { place = place; period = period; load = load; capacity = capacity })
over kind.Arr place period load capacity =
    broken.Arrivals (record { place = place; period = period; load = load; capacity = capacity })
over kind.Sector place period load capacity =
    broken.Sectors (record { place = place; period = period; load = load; capacity = capacity })

abbrev pub broken_capacity : Parts → CapKind → (ℕ → ℕ → ℕ) → ℕ → ℕ → Option Broken
broken_capacity parts kind load place t =
    let capacity = capacity_of parts.places kind place t in
    unless (nat_le (load place t) capacity) (over kind place t (load place t) capacity)

-- the first period in which a place is over its capacity, where it has capacities of this kind
abbrev pub first_over_in : Parts → CapKind → (ℕ → ℕ → ℕ) → ℕ → Option Broken
first_over_in parts kind load place =
    if has_kind kind (slice_get parts.places place) then first_below parts.day.periods
    (broken_capacity parts kind load place) else None

-- the first place that is, and its first period
abbrev pub first_over : Parts → CapKind → (ℕ → ℕ → ℕ) → Option Broken
first_over parts kind load = first_below (length parts.places) (first_over_in parts kind load)

-- The first rule that the plan breaks; none where it keeps them all.
abbrev pub first_broken : Parts → List (List Stop) → Option Broken
first_broken parts plan =
    option_or (broken_number (length plan) (length parts.flights))
    (option_or (first_along (broken_trip_in parts.day.periods plan) parts.flights)
    (option_or (first_along (broken_turn (arrival_in plan) (departure_in plan)) parts.connections)
    (option_or (first_over parts kind.Dep (departures_at parts.flights plan))
    (option_or (first_over parts kind.Arr (arrivals_at parts.flights plan))
    (first_over parts kind.Sector (occupancy_at parts.flights plan))))))

-- an answer gives the rule where one is broken, and none where none is
abbrev pub Names : {T : Type 0} → Option Broken → Result T Broken → Type 0
Names rule (Ok none) = rule ≡ None
Names rule (Err found) = rule ≡ Some found
