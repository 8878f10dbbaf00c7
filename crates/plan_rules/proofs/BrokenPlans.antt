-- A plan breaks no rule exactly where it is feasible; and its loads break the rules that it breaks.
use Rattle.std.proofs.Common.{◌≡◌, ℕ, ◌+◌, ◌<◌, ◌≤◌, Bool, true, false, ◌==◌, nat_le, List, [], length, get_or, slice_get, Option, Some, None, option_and_then, All, AllPairs, IsTrue, refl, sym, ap, ◌∙◌, cond, arith}
use Rattle.std.proofs.lemmas.Bool.Decides.{nat_tests}
use Rattle.std.proofs.lemmas.Option.{slice_get-get_or, slice_get_within}
use Rattle.std.specs.Option.{option_or}
use Rattle.exact_sums.proofs.ItemFacts.{All-item}
use Rattle.flow_types.proofs.PlaceFacts.{has_kind-within}
use Rattle.flow_types.specs.declared.flight.Connection.{Connection}
use Rattle.flow_types.specs.declared.flight.Flight.{Flight}
use Rattle.flow_types.specs.declared.parts.Parts.{Parts}
use Rattle.flow_types.specs.declared.place.CapKind.{CapKind}
use Rattle.flow_types.specs.declared.place.CapKind.TheVariants as kind
use Rattle.flow_types.specs.declared.plan.Stop.{Stop}
use Rattle.flow_types.specs.Capacities.{capacity_of, has_kind}
use Rattle.flow_types.specs.Counts.{arrivals_at, departures_at, occupancy_at}
use Rattle.flow_types.specs.Feasible.{AreTrips, IsFeasible, KeepsTurn}
use Rattle.flow_types.specs.Routes.{IsOtherLeg}
use Rattle.flow_types.specs.Trips.{arrival_of, departure_of}
use Rattle.flow_types.specs.Valid.{IsConnection, IsFlight, IsScenario}
use Rattle.plan_rules.specs.FirstBroken.{arrival_in, broken_capacity, broken_number, broken_times, broken_trip_in, broken_turn, departure_in, first_along, first_below, first_broken, first_over, first_over_in, over, unless}
use Rattle.plan_rules.specs.Judge.{first_broken_load}
use Rattle.plan_rules.specs.Loads.{AreLoads, arrival_at, departure_at, load_at}
use Rattle.plan_rules.specs.declared.broken.Broken.{Broken}
use Rattle.plan_rules.specs.declared.broken.Broken.TheVariants as broken
use Rattle.plan_rules.specs.Tally.{Tally}
use Rattle.plan_rules.proofs.BrokenTrips.{trips_from, trips_to}
use Rattle.plan_rules.proofs.FirstFacts.{first_along-at, first_along-none, first_along-same, first_below-at, first_below-none, first_below-same, or_none, or_nones, unless_none, unless_true}
use Rattle.plan_rules.proofs.TripFacts.{AreTrips-length}

-- the turnarounds
pub times_from : (number turnaround arrives leaves : ℕ) (arrival departure : Option ℕ)
    → broken_times number turnaround arrival departure ≡ None → arrival ≡ Some arrives
    → departure ≡ Some leaves → arrives + turnaround ≤ leaves
times_from number turnaround arrives leaves None departure none arrives_is leaves_is = cc
times_from number turnaround arrives leaves (Some a) None none arrives_is leaves_is = cc
times_from number turnaround arrives leaves (Some a) (Some l) none arrives_is leaves_is =
    let test = unless_none (nat_le (a + turnaround) l) (broken.Turn number a l) none in
    let a_is : a ≡ arrives = cc in
    let l_is : l ≡ leaves = cc in
    grind (arith, nat_tests)

times_to : (number turnaround : ℕ) (arrival departure : Option ℕ)
    → ((arrives leaves : ℕ) → arrival ≡ Some arrives → departure ≡ Some leaves
    → arrives + turnaround ≤ leaves) → broken_times number turnaround arrival departure ≡ None
times_to number turnaround None departure keeps = refl
times_to number turnaround (Some a) None keeps = refl
times_to number turnaround (Some a) (Some l) keeps =
    let least = keeps a l refl refl in
    unless_true (nat_le (a + turnaround) l) (broken.Turn number a l) (grind (arith, nat_tests))

pub turns_from : (plan : List (List Stop)) (connections : List Connection)
    → first_along (broken_turn (arrival_in plan) (departure_in plan)) connections ≡ None
    → All (KeepsTurn plan) connections
turns_from plan connections none k d within arrives leaves arrives_is leaves_is =
    let connection = get_or connections k d in
    times_from k connection.turnaround arrives leaves (arrival_in plan connection.first)
    (departure_in plan connection.second)
    (first_along-at (broken_turn (arrival_in plan) (departure_in plan)) connections k connection
    none (slice_get-get_or connections k d within)) arrives_is leaves_is

turns_to : (plan : List (List Stop)) (connections : List Connection)
    → All (KeepsTurn plan) connections
    → first_along (broken_turn (arrival_in plan) (departure_in plan)) connections ≡ None
turns_to plan connections keeps =
    first_along-none (broken_turn (arrival_in plan) (departure_in plan)) connections
    (λ k connection is. times_to k connection.turnaround (arrival_in plan connection.first)
    (departure_in plan connection.second)
    (All-item (KeepsTurn plan) connections k connection keeps is))

-- the capacities of a kind
pub over_from : (parts : Parts) (kind : CapKind) (load : ℕ → ℕ → ℕ)
    → first_over parts kind load ≡ None
    → (k t : ℕ) → IsTrue (has_kind kind (slice_get parts.places k)) → t < parts.day.periods
    → load k t ≤ capacity_of parts.places kind k t
over_from parts kind load none k t has t_in =
    let k_in = has_kind-within kind parts.places k has in
    let here = first_below-at (length parts.places) (first_over_in parts kind load) none k k_in in
    let periods : first_below parts.day.periods (broken_capacity parts kind load k) ≡ None =
    rw has at here in
    let capacity = capacity_of parts.places kind k t in
    let test = unless_none (nat_le (load k t) capacity) (over kind k t (load k t) capacity)
    (first_below-at parts.day.periods (broken_capacity parts kind load k) periods t t_in) in
    grind (arith, nat_tests)

place_to : (test : Bool) (found : Option Broken) → (IsTrue test → found ≡ None)
    → cond test found None ≡ None
place_to true found none = none refl
place_to false found none = refl

over_to : (parts : Parts) (kind : CapKind) (load : ℕ → ℕ → ℕ)
    → ((k t : ℕ) → IsTrue (has_kind kind (slice_get parts.places k)) → t < parts.day.periods
    → load k t ≤ capacity_of parts.places kind k t) → first_over parts kind load ≡ None
over_to parts kind load keeps =
    first_below-none (length parts.places) (first_over_in parts kind load)
    (λ k k_in. place_to (has_kind kind (slice_get parts.places k))
    (first_below parts.day.periods (broken_capacity parts kind load k))
    (λ has. first_below-none parts.day.periods (broken_capacity parts kind load k)
    (λ t t_in. let capacity = capacity_of parts.places kind k t in
    let within : load k t ≤ capacity = keeps k t has t_in in
    unless_true (nat_le (load k t) capacity) (over kind k t (load k t) capacity)
    (grind (arith, nat_tests)))))

-- The plan breaks no rule exactly where it is feasible.
pub feasible_from : (parts : Parts) (plan : List (List Stop)) → first_broken parts plan ≡ None
    → IsFeasible parts plan
feasible_from parts plan none =
    let number = or_none (broken_number (length plan) (length parts.flights)) _ none in
    let trips = or_none (first_along (broken_trip_in parts.day.periods plan) parts.flights) _
    number.1 in
    let turns = or_none (first_along
    (broken_turn (arrival_in plan) (departure_in plan)) parts.connections) _ trips.1 in
    let departures = or_none
    (first_over parts kind.Dep (departures_at parts.flights plan)) _ turns.1 in
    let arrivals = or_none
    (first_over parts kind.Arr (arrivals_at parts.flights plan)) _ departures.1 in
    let same = unless_none (length plan == length parts.flights)
    (broken.Trips (length plan) (length parts.flights)) number.0 in
    record {
      trips = trips_from parts.day.periods parts.flights plan (grind (arith, nat_tests)) trips.0;
      turns = turns_from plan parts.connections turns.0;
      departures = over_from parts kind.Dep (departures_at parts.flights plan) departures.0;
      arrivals = over_from parts kind.Arr (arrivals_at parts.flights plan) arrivals.0;
      sectors = over_from parts kind.Sector (occupancy_at parts.flights plan) arrivals.1;
    }

-- no two legs of a flight join the same nodes
pub legs_once : (parts : Parts) → IsScenario parts → (k : ℕ) (flight : Flight)
    → slice_get parts.flights k ≡ Some flight → AllPairs IsOtherLeg flight.legs
legs_once parts valid k flight is =
    (All-item (IsFlight parts.day.periods parts.places parts.tables) parts.flights k flight
    valid.flights.each is).route.once

pub number_to : (trips flights : ℕ) → trips ≡ flights → broken_number trips flights ≡ None
number_to trips flights same =
    unless_true (trips == flights) (broken.Trips trips flights) (grind (arith, nat_tests))

number_by : (trips flights : ℕ) (test : Bool) → (trips == flights) ≡ test → (trips ≡ flights → ⊥)
    → unless test (broken.Trips trips flights) ≡ Some (broken.Trips trips flights)
number_by trips flights true is differ = absurd (differ (grind (arith, nat_tests)))
number_by trips flights false is differ = refl

pub number_off : (trips flights : ℕ) → (trips ≡ flights → ⊥)
    → broken_number trips flights ≡ Some (broken.Trips trips flights)
number_off trips flights differ = number_by trips flights (trips == flights) refl differ

pub plan_trips_to : (parts : Parts) (plan : List (List Stop)) → IsScenario parts
    → AreTrips parts.day.periods parts.flights plan
    → first_along (broken_trip_in parts.day.periods plan) parts.flights ≡ None
plan_trips_to parts plan valid trips =
    let same = AreTrips-length parts.day.periods parts.flights plan trips in
    trips_to parts.day.periods parts.flights plan (legs_once parts valid)
    (λ k flight is. let within = slice_get_within parts.flights k flight is in omega arith) trips

pub plan_trips_from : (parts : Parts) (plan : List (List Stop))
    → option_or (broken_number (length plan) (length parts.flights))
    (first_along (broken_trip_in parts.day.periods plan) parts.flights) ≡ None
    → AreTrips parts.day.periods parts.flights plan
plan_trips_from parts plan none =
    let number = or_none (broken_number (length plan) (length parts.flights)) _ none in
    let same = unless_none (length plan == length parts.flights)
    (broken.Trips (length plan) (length parts.flights)) number.0 in
    trips_from parts.day.periods parts.flights plan (grind (arith, nat_tests)) number.1

pub feasible_to : (parts : Parts) (plan : List (List Stop)) → IsScenario parts
    → IsFeasible parts plan → first_broken parts plan ≡ None
feasible_to parts plan valid feasible =
    or_nones _ _ (number_to (length plan) (length parts.flights)
    (AreTrips-length parts.day.periods parts.flights plan feasible.trips))
    (or_nones _ _ (plan_trips_to parts plan valid feasible.trips)
    (or_nones _ _ (turns_to plan parts.connections feasible.turns)
    (or_nones _ _ (over_to parts kind.Dep (departures_at parts.flights plan) feasible.departures)
    (or_nones _ _ (over_to parts kind.Arr (arrivals_at parts.flights plan) feasible.arrivals)
    (over_to parts kind.Sector (occupancy_at parts.flights plan) feasible.sectors)))))

-- equal loads break equal capacities
capacity_same : (parts : Parts) (kind : CapKind) (load by : ℕ → ℕ → ℕ) (k t : ℕ) → load k t ≡ by k t
    → broken_capacity parts kind load k t ≡ broken_capacity parts kind by k t
capacity_same parts kind load by k t same =
    let capacity = capacity_of parts.places kind k t in
    ap (λ (n : ℕ). unless (nat_le n capacity) (over kind k t n capacity)) same

over_same : (parts : Parts) (kind : CapKind) (load by : ℕ → ℕ → ℕ)
    → ((k t : ℕ) → k < length parts.places → t < parts.day.periods → load k t ≡ by k t)
    → first_over parts kind load ≡ first_over parts kind by
over_same parts kind load by same =
    first_below-same (length parts.places) (first_over_in parts kind load)
    (first_over_in parts kind by)
    (λ k k_in. ap (λ (found : Option Broken). cond
    (has_kind kind (slice_get parts.places k)) found None)
    (first_below-same parts.day.periods (broken_capacity parts kind load k)
    (broken_capacity parts kind by k)
    (λ t t_in. capacity_same parts kind load by k t (same k t k_in t_in))))

module _ (parts : Parts) (plan : List (List Stop)) (loads : Tally) (valid : IsScenario parts)
    (are : AreLoads parts plan loads) (trips : AreTrips parts.day.periods parts.flights plan) where
  -- the time of a flight, read from the plan
  time_at : (time : List Stop → Option ℕ) (n : ℕ) → n < length parts.flights
      → option_and_then time (slice_get plan n) ≡ time (get_or plan n [])
  time_at time n within =
      let same = AreTrips-length parts.day.periods parts.flights plan trips in
      ap (option_and_then time) (slice_get-get_or plan n [] (omega arith))

  turn_same : (k : ℕ) (connection : Connection) → slice_get parts.connections k ≡ Some connection
      → broken_turn (arrival_at loads) (departure_at loads) k connection
      ≡ broken_turn (arrival_in plan) (departure_in plan) k connection
  turn_same k connection is =
      let at = All-item (IsConnection parts.flights) parts.connections k connection
      valid.connections.each is in
      ap (λ (arrives : Option ℕ). broken_times k connection.turnaround arrives
      (departure_at loads connection.second))
      (are.arrives connection.first at.first ∙ sym (time_at arrival_of connection.first at.first))
      ∙ ap (broken_times k connection.turnaround (arrival_in plan connection.first))
      (are.leaves connection.second at.second
      ∙ sym (time_at departure_of connection.second at.second))

  -- The loads of a plan of trips break what the plan breaks.
  pub loads_break : first_broken_load parts loads ≡ first_broken parts plan
  loads_break =
      let number = number_to (length plan) (length parts.flights)
      (AreTrips-length parts.day.periods parts.flights plan trips) in
      let each = plan_trips_to parts plan valid trips in
      rw (
        number,
        each,
        first_along-same _ (broken_turn (arrival_in plan) (departure_in plan)) parts.connections
            turn_same,
        over_same parts kind.Dep (load_at loads kind.Dep)
            (departures_at parts.flights plan) are.departures,
        over_same parts kind.Arr (load_at loads kind.Arr)
            (arrivals_at parts.flights plan) are.arrivals,
        over_same parts kind.Sector (load_at loads kind.Sector)
            (occupancy_at parts.flights plan) are.sectors,
      )
