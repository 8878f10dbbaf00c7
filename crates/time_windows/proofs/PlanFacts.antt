-- A plan as a box of moments: it is tight, so no tightening loses the plan.
use Rattle.std.proofs.Common.{◌≡◌, ℕ, zero, suc, ◌+◌, ◌-◌, ◌<◌, ◌≤◌, Bool, List, [], ◌∷◌, length, get_or, All, Option, None, Some, slice_get, inl, inr, refl, sym, ◌∙◌, subst, arith}
use Rattle.std.proofs.lemmas.List.Elements.{All-weaker}
use Rattle.std.proofs.lemmas.Option.{slice_get_cases}
use Rattle.std.specs.List.{Any}
use Rattle.flow_types.specs.declared.flight.Connection.{Connection}
use Rattle.flow_types.specs.declared.flight.Flight.{Flight}
use Rattle.flow_types.specs.declared.parts.Parts.{Parts}
use Rattle.flow_types.specs.declared.plan.Stop.{Stop}
use Rattle.flow_types.specs.Feasible.{AreTrips, KeepsTurn}
use Rattle.flow_types.specs.Routes.{IsLeg}
use Rattle.flow_types.specs.Trips.{IsTrip, arrival_from, arrival_of, departure_of}
use Rattle.flow_types.specs.Valid.{IsConnection, IsScenario}
use Rattle.time_windows.specs.declared.access.Access.{Access}
use Rattle.time_windows.specs.declared.access.Window.{Window}
use Rattle.time_windows.specs.Boxes.{Box, IsInBox, IsInWindow, IsProper, IsWindowWithin, IsWithin}
use Rattle.time_windows.specs.Held.{access_at}
use Rattle.time_windows.specs.Tight.{IsTight, IsTightRow, IsTightTurn, IsTightened, IsLegIn, IsLegOut, KeepsEnds}
use Rattle.time_windows.proofs.RootFacts.{flight_in, if_eq}
use Rattle.time_windows.proofs.TripFacts.{at_here, at_node, at_skip, at_within, each_at, entered_on, last_at, left_on, moment, moment_in, trip_row}

-- a flight and its trip in a plan
pub record IsPlanned (periods : ℕ) (flight : Flight) (found : Option (List Stop)) : Type 0 where
  pub trip : List Stop
  pub is : found ≡ Some trip
  pub valid : IsTrip periods flight trip

pub planned : (periods : ℕ) (flights : List Flight) (plan : List (List Stop)) (f : ℕ)
    (flight : Flight) → AreTrips periods flights plan → slice_get flights f ≡ Some flight
    → IsPlanned periods flight (slice_get plan f)
planned periods [] plan f flight trips is = absurd cc
planned periods (first ∷ flights) [] f flight trips is = absurd trips
planned periods (first ∷ flights) (trip ∷ plan) zero flight trips is =
    let same : first ≡ flight = cc in
    record {
      trip = trip;
      is = refl;
      valid = subst (λ (x : Flight). IsTrip periods x trip) same trips.0;
    }
planned periods (first ∷ flights) (trip ∷ plan) (suc f) flight trips is =
    planned periods flights plan f flight trips.1 is

-- and the other way round
pub planned_flight : (periods : ℕ) (flights : List Flight) (plan : List (List Stop)) (f : ℕ)
    (trip : List Stop) → AreTrips periods flights plan → slice_get plan f ≡ Some trip
    → (flight : Flight) × (slice_get flights f ≡ Some flight) × IsTrip periods flight trip
planned_flight periods flights [] f trip trips is = absurd cc
planned_flight periods [] (first ∷ plan) f trip trips is = absurd trips
planned_flight periods (flight ∷ flights) (first ∷ plan) zero trip trips is =
    let same : first ≡ trip = cc in
    (flight, refl, subst (IsTrip periods flight) same trips.0)
planned_flight periods (flight ∷ flights) (first ∷ plan) (suc f) trip trips is =
    planned_flight periods flights plan f trip trips.1 is

-- the box of a plan, with the marks of another
abbrev stops_of : Option (List Stop) → List Stop
stops_of None = []
stops_of (Some trip) = trip

abbrev pub plan_box : List (List Stop) → Box → Box
plan_box plan box f = trip_row (λ node. (box f node).must) (stops_of (slice_get plan f))

at_proper : (stops : List Stop) (node : ℕ) → IsProper (at_node stops node)
at_proper [] node = tt
at_proper (stop ∷ rest) node =
    if_eq IsProper stop.node node (Some (moment stop.time)) (at_node rest node)
    (λ _. omega arith) (λ _. at_proper rest node)

-- a trip leaves the first node
first_some : (periods : ℕ) (flight : Flight) (stops : List Stop) → IsTrip periods flight stops
    → (stop : Stop) × (rest : List Stop) × (stops ≡ stop ∷ rest)
first_some periods flight [] trip = absurd trip
first_some periods flight (stop ∷ rest) trip = (stop, rest, refl)

module _ (periods : ℕ) (flight : Flight)
    (upward : All (IsLeg (length flight.nodes)) flight.legs) (marks : ℕ → Bool) where
  entered_trip : (stops : List Stop) → IsTrip periods flight stops → (node : ℕ) (w : Window)
      → 0 < node → at_node stops node ≡ Some w
      → Any (IsLegIn (trip_row marks stops) node w) flight.legs
  entered_trip [] trip node w pos is = absurd trip
  entered_trip (stop ∷ rest) trip node w pos is =
      entered_on periods flight upward marks stop rest node w trip.2
      (sym (at_skip stop rest node (λ e. omega (arith, e, trip.0))) ∙ is)

  left_trip : (stops : List Stop) → IsTrip periods flight stops → (node : ℕ) (w : Window)
      → node + 1 < length flight.nodes → at_node stops node ≡ Some w
      → Any (IsLegOut (trip_row marks stops) node w) flight.legs
  left_trip [] trip node w below is = absurd trip
  left_trip (stop ∷ rest) trip node w below is =
      left_on periods flight upward marks stop rest node w trip.2 below is

  pub trip_tight : (stops : List Stop) → IsTrip periods flight stops
      → IsTightRow flight (trip_row marks stops)
  trip_tight stops trip = record {
    proper = at_proper stops;
    entered = λ node w pos below is. entered_trip stops trip node w pos is;
    left = λ node w below is. left_trip stops trip node w below is;
  }

  -- its ends
  arrives : (stops : List Stop) → IsTrip periods flight stops
      → (time : ℕ) × (arrival_of stops ≡ Some time)
      × (at_node stops (length flight.nodes - 1) ≡ Some (moment time))
  arrives [] trip = absurd trip
  arrives (stop ∷ rest) trip =
      (arrival_from stop rest, refl, last_at periods flight upward stop rest trip.2)

  leaves : (stops : List Stop) → IsTrip periods flight stops
      → (time : ℕ) × (departure_of stops ≡ Some time)
      × (at_node stops 0 ≡ Some (moment time))
  leaves [] trip = absurd trip
  leaves (stop ∷ rest) trip = (stop.time, refl, at_here stop rest 0 trip.0)

  pub trip_each : (stops : List Stop) → IsTrip periods flight stops
      → All (λ s. at_node stops s.node ≡ Some (moment s.time)) stops
  trip_each [] trip = absurd trip
  trip_each (stop ∷ rest) trip = each_at periods flight upward stop rest trip.2

  -- a trip in windows is within them, and is in whatever it is within
  pub in_from_within : (row : ℕ → Access) (stops : List Stop) → IsTrip periods flight stops
      → ((node : ℕ) → IsWindowWithin (at_node stops node) (row node).window)
      → All (λ s. IsInWindow (row s.node).window s.time) stops
  in_from_within row stops trip within =
      All-weaker (λ s. at_node stops s.node ≡ Some (moment s.time))
      (λ s. IsInWindow (row s.node).window s.time)
      (λ s is. moment_in (row s.node).window s.time
      (subst (λ w. IsWindowWithin w (row s.node).window) is (within s.node))) stops
      (trip_each stops trip)

pub legs_up : (parts : Parts) (f : ℕ) (flight : Flight) → IsScenario parts
    → slice_get parts.flights f ≡ Some flight → All (IsLeg (length flight.nodes)) flight.legs
legs_up parts f flight valid is = (flight_in parts f flight valid is).route.each_leg

pub found_at : {X : Type 0} (xs : List X) (k : ℕ) → k < length xs
    → (x : X) × (slice_get xs k ≡ Some x)
found_at xs k below = elim (slice_get_cases xs k).1 as (λ _. (x : _) × (slice_get xs k ≡ Some x)) [
  | inl found ↦ (found.0, found.2)
  | inr past ↦ absurd (omega (arith, past.0))
]

module _ (parts : Parts) (valid : IsScenario parts) (plan : List (List Stop)) (box : Box)
    (trips : AreTrips parts.day.periods parts.flights plan)
    (turns : All (KeepsTurn plan) parts.connections) where
  abbrev here : Box
  here = plan_box plan box

  row_tight : (f : ℕ) (flight : Flight) → slice_get parts.flights f ≡ Some flight
      → IsTightRow flight (here f)
  row_tight f flight is =
      let at = planned parts.day.periods parts.flights plan f flight trips is in
      rw at.is (trip_tight parts.day.periods flight (legs_up parts f flight valid is)
      (λ node. (box f node).must) at.trip at.valid)

  ends_kept : (first second : List Stop) (turn : Connection) (last : ℕ)
      → slice_get plan turn.first ≡ Some first → slice_get plan turn.second ≡ Some second
      → KeepsTurn plan turn
      → (a b : ℕ) → arrival_of first ≡ Some a → departure_of second ≡ Some b
      → at_node first last ≡ Some (moment a) → at_node second 0 ≡ Some (moment b)
      → KeepsEnds turn.turnaround (at_node first last) (at_node second 0)
  ends_kept first second turn last first_is second_is keeps a b arrives leaves at_last at_first =
      let late : a + turn.turnaround ≤ b =
      keeps a b (rw first_is arrives) (rw second_is leaves) in
      rw (at_last, at_first) (late, late)

  turn_tight : (turn : Connection) → IsConnection parts.flights turn → KeepsTurn plan turn
      → IsTightTurn parts here turn
  turn_tight turn joined keeps =
      let one = found_at parts.flights turn.first joined.first in
      let two = found_at parts.flights turn.second joined.second in
      let first = planned parts.day.periods parts.flights plan turn.first one.0 trips one.1 in
      let second = planned parts.day.periods parts.flights plan turn.second two.0 trips two.1 in
      let a = arrives parts.day.periods one.0 (legs_up parts turn.first one.0 valid one.1)
      (λ node. (box turn.first node).must) first.trip first.valid in
      let b = leaves parts.day.periods two.0 (legs_up parts turn.second two.0 valid two.1)
      (λ node. (box turn.second node).must) second.trip second.valid in
      rw (one.1, first.is, second.is)
      (ends_kept first.trip second.trip turn (length one.0.nodes - 1) first.is second.is keeps
      a.0 b.0 a.1 b.1 a.2 b.2)

  pub plan_tight : IsTight parts here
  plan_tight = record {
    rows = row_tight;
    turns = λ k d below. turn_tight (get_or parts.connections k d)
        (valid.connections.each k d below)
        (turns k d below);
  }

  within_at : (f n : ℕ) (found : Option (List Stop)) → slice_get plan f ≡ found
      → IsInBox box plan → IsWindowWithin (at_node (stops_of found) n) (box f n).window
  within_at f n None is inside = tt
  within_at f n (Some trip) is inside = at_within (box f) trip n (inside f trip is).windows

  pub plan_within : IsInBox box plan → IsWithin here box
  plan_within inside = record {
    marks = λ f n. refl;
    windows = λ f n. within_at f n (slice_get plan f) refl inside;
  }

  pub plan_kept : (new : Box) → IsTightened parts box new → IsInBox box plan → IsInBox new plan
  plan_kept new tightened inside f trip is =
      let widest = tightened.widest here (plan_within inside) plan_tight in
      let at = planned_flight parts.day.periods parts.flights plan f trip trips is in
      record {
        windows = in_from_within parts.day.periods at.0 (legs_up parts f at.0 valid at.1)
            (λ node. (box f node).must) (new f) trip at.2
            (λ node. rw is at (widest.windows f node));
        musts = λ node must. (inside f trip is).musts node (widest.marks f node ∙ must);
      }

pub plan_stays : (parts : Parts) (old new : List Access) (plan : List (List Stop))
    → IsScenario parts → IsTightened parts (access_at old) (access_at new)
    → AreTrips parts.day.periods parts.flights plan → All (KeepsTurn plan) parts.connections
    → IsInBox (access_at old) plan → IsInBox (access_at new) plan
plan_stays parts old new plan valid tight trips turns inside =
    plan_kept parts valid plan (access_at old) trips turns (access_at new) tight inside
