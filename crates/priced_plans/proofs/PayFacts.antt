-- What the trips of a plan pay is what its counts pay, with what it pays and is paid back for
-- connections; and in a feasible plan it is no more than what the capacities would pay.
use Rattle.std.proofs.Common.{◌≡◌, ◌≢◌, ◌⊎◌, ℕ, ◌+◌, ◌-◌, ◌*◌, ◌<◌, ◌≤◌, ◌==◌, ◌&&◌, Bool, true, false, not, nat_le, nat_lt, List, [], ◌∷◌, length, slice_get, slice_index, Option, None, Some, if◌then◌else◌, IsTrue, All, pos, ◌+ℤ◌, ◌-ℤ◌, ◌≤ℤ◌, refl, sym, ap, ◌∙◌, inl, inr, arith}
use Rattle.std.proofs.lemmas.Bool.{cases_eq, false≢true}
use Rattle.std.proofs.lemmas.Bool.Decides.{nat_tests}
use Rattle.std.proofs.lemmas.Int.{ints}
use Rattle.std.proofs.lemmas.List.Elements.{All-head, All-tail}
use Rattle.flow_types.specs.declared.flight.Flight.{Flight}
use Rattle.flow_types.specs.declared.parts.Parts.{Parts}
use Rattle.flow_types.specs.declared.place.CapKind.TheVariants as kind
use Rattle.flow_types.specs.declared.place.Place.{Place}
use Rattle.flow_types.specs.declared.place.PlaceKind.{PlaceKind}
use Rattle.flow_types.specs.declared.place.PlaceKind.TheVariants.{Airport, Sector}
use Rattle.flow_types.specs.declared.plan.Stop.{Stop}
use Rattle.flow_types.specs.Counts.{arrivals_at, arrives_at, arrives_from, departs_at, departures_at, occupancy_at, one_if, stays_from}
use Rattle.flow_types.specs.Feasible.{AreTrips, IsFeasible}
use Rattle.flow_types.specs.Routes.{is_airport, is_airport_kind, is_sector}
use Rattle.flow_types.specs.Trips.{IsOnward, IsTrip, arrival_from, place_at}
use Rattle.flow_types.specs.Valid.{IsFlight, IsScenario}
use Rattle.flight_routes.specs.Prices.{PriceTable, price_in, stay_price, stays_price, summed, turns_back, turns_paid}
use Rattle.flight_routes.proofs.TripFacts.{in_day, step_up}
use Rattle.priced_plans.specs.Values.{arrives_in, counts_price, leaves_in, limit_price, loads_price, plan_price, price_of, turns_price}
use Rattle.priced_plans.proofs.PlaceFacts.{prices-alone, prices-both, prices-none, prices-same, prices-within}
use Rattle.priced_plans.proofs.RangeFacts.{summed-at, summed-between, times_none}
use Rattle.priced_plans.proofs.TurnFacts.{over_plan, turns-are, turns-kept}

-- a test of the place with another one or two, at that place and elsewhere
here_two : (a : ℕ) (b : Bool) → one_if ((a == a) && b) ≡ one_if b
here_two a b = by (a == a) (grind (arith, nat_tests)) where
  by : (same : Bool) → same ≡ true → one_if (same && b) ≡ one_if b
  by true is = refl
  by false is = absurd (false≢true is)

here_three : (a : ℕ) (b c : Bool) → one_if ((a == a) && b && c) ≡ one_if (b && c)
here_three a b c = by (a == a) (grind (arith, nat_tests)) where
  by : (same : Bool) → same ≡ true → one_if (same && b && c) ≡ one_if (b && c)
  by true is = refl
  by false is = absurd (false≢true is)

else_two : (a k : ℕ) (b : Bool) → k ≢ a → one_if ((a == k) && b) ≡ 0
else_two a k b other = by (a == k) refl where
  by : (same : Bool) → (a == k) ≡ same → one_if (same && b) ≡ 0
  by true is = absurd (other (grind (arith, nat_tests)))
  by false is = refl

else_three : (a k : ℕ) (b c : Bool) → k ≢ a → one_if ((a == k) && b && c) ≡ 0
else_three a k b c other = by (a == k) refl where
  by : (same : Bool) → (a == k) ≡ same → one_if (same && b && c) ≡ 0
  by true is = absurd (other (grind (arith, nat_tests)))
  by false is = refl

-- no airport is a sector
no_sector : (place : Option Place) → IsTrue (is_airport place) → is_sector place ≡ false
no_sector None airport = absurd (false≢true airport)
no_sector (Some place) airport = by place.kind airport where
  by : (k : PlaceKind) → IsTrue (is_airport_kind k) → not (is_airport_kind k) ≡ false
  by Airport is = refl
  by Sector is = absurd (false≢true is)

module _ (parts : Parts) (table : PriceTable) (some : 1 ≤ parts.day.periods) where
  module _ (flight : Flight)
      (valid : IsFlight parts.day.periods parts.places parts.tables flight) where
    -- where a trip arrives, and when
    arrived : (stop : Stop) (rest : List Stop) (k t : ℕ)
        → IsOnward parts.day.periods flight stop rest
        → arrives_from k t flight stop rest
        ≡ one_if ((flight.to == k) && (arrival_from stop rest == t))
    arrived stop [] k t onward =
        ap (λ (place : ℕ). one_if ((place == k) && (stop.time == t)))
        (ap (slice_index flight.nodes) (before_end stop.node (length flight.nodes) onward)
        ∙ valid.route.last)
      where
        before_end : (n m : ℕ) → n + 1 ≡ m → n ≡ m - 1
        before_end n m is = omega (arith, is)
    arrived stop (next ∷ rest) k t onward = arrived next rest k t onward.2

    arrives-day : (stop : Stop) (rest : List Stop) → stop.time < parts.day.periods
        → IsOnward parts.day.periods flight stop rest
        → arrival_from stop rest < parts.day.periods
    arrives-day stop [] day onward = day
    arrives-day stop (next ∷ rest) day onward =
        arrives-day next rest (in_day parts.day.periods flight next some onward.1) onward.2

    departure-is : (stop : Stop) (rest : List Stop)
        → IsTrip parts.day.periods flight (stop ∷ rest)
        → counts_price parts kind.Dep table.departures
        (λ k t. departs_at k t flight (stop ∷ rest))
        ≡ price_in table.departures flight.from stop.time
    departure-is stop rest trip =
        let from = ap (slice_index flight.nodes) trip.0 ∙ valid.route.first in
        prices-same parts kind.Dep table.departures
        (λ k t. departs_at k t flight (stop ∷ rest))
        (λ k t. one_if ((flight.from == k) && (stop.time == t)))
        (λ k t. ap (λ (place : ℕ). one_if ((place == k) && (stop.time == t))) from)
        ∙ prices-alone parts kind.Dep table.departures flight.from
        (λ k t. one_if ((flight.from == k) && (stop.time == t))) (λ t. one_if (stop.time == t))
        valid.origin (λ t. here_two flight.from (stop.time == t))
        (λ k t. else_two flight.from k (stop.time == t))
        ∙ summed-at (price_in table.departures flight.from) stop.time parts.day.periods
        (in_day parts.day.periods flight stop some trip.1)

    arrival-is : (stop : Stop) (rest : List Stop)
        → IsTrip parts.day.periods flight (stop ∷ rest)
        → counts_price parts kind.Arr table.arrivals (λ k t. arrives_at k t flight (stop ∷ rest))
        ≡ price_in table.arrivals flight.to (arrival_from stop rest)
    arrival-is stop rest trip =
        prices-same parts kind.Arr table.arrivals (λ k t. arrives_at k t flight (stop ∷ rest))
        (λ k t. one_if ((flight.to == k) && (arrival_from stop rest == t)))
        (λ k t. arrived stop rest k t trip.2)
        ∙ prices-alone parts kind.Arr table.arrivals flight.to
        (λ k t. one_if ((flight.to == k) && (arrival_from stop rest == t)))
        (λ t. one_if (arrival_from stop rest == t)) valid.destination
        (λ t. here_two flight.to (arrival_from stop rest == t))
        (λ k t. else_two flight.to k (arrival_from stop rest == t))
        ∙ summed-at (price_in table.arrivals flight.to) (arrival_from stop rest) parts.day.periods
        (arrives-day stop rest (in_day parts.day.periods flight stop some trip.1) trip.2)

    -- a stay before the next stop: that at the origin pays nothing
    origin-free : (stop : Stop) (leaves : ℕ) → stop.node ≡ 0
        → counts_price parts kind.Sector table.inside
        (λ k t. one_if ((place_at flight stop.node == k) && nat_le stop.time t
        && nat_lt t leaves))
        ≡ 0
    origin-free stop leaves origin =
        prices-none parts kind.Sector table.inside
        (λ k t. one_if ((place_at flight stop.node == k) && nat_le stop.time t
        && nat_lt t leaves))
        (λ k t. by k t (cases_eq k (place_at flight stop.node)))
      where
        from : place_at flight stop.node ≡ flight.from
        from = ap (slice_index flight.nodes) origin ∙ valid.route.first

        free : (b : Bool) (p c : ℕ) → b ≡ false → (if b then p else 0) * c ≡ 0
        free true p c is = absurd (false≢true (sym is))
        free false p c is = omega arith

        by : (k t : ℕ) → (k ≡ place_at flight stop.node) ⊎ (k ≡ place_at flight stop.node → ⊥)
            → price_of parts kind.Sector table.inside k t
            * one_if ((place_at flight stop.node == k) && nat_le stop.time t && nat_lt t leaves)
            ≡ 0
        by k t (inl here) =
            free (is_sector (slice_get parts.places k)) (price_in table.inside k t)
            (one_if ((place_at flight stop.node == k) && nat_le stop.time t && nat_lt t leaves))
            (ap (λ (place : ℕ). is_sector (slice_get parts.places place)) (here ∙ from)
            ∙ no_sector (slice_get parts.places flight.from) valid.origin)
        by k t (inr other) =
            times_none (price_of parts kind.Sector table.inside k t)
            (one_if ((place_at flight stop.node == k) && nat_le stop.time t && nat_lt t leaves))
            (else_three (place_at flight stop.node) k (nat_le stop.time t) (nat_lt t leaves) other)

    stay-is : (stop : Stop) (leaves : ℕ) → stop.node + 1 < length flight.nodes
        → leaves ≤ parts.day.periods
        → counts_price parts kind.Sector table.inside
        (λ k t. one_if ((place_at flight stop.node == k) && nat_le stop.time t
        && nat_lt t leaves))
        ≡ stay_price table flight stop leaves
    stay-is stop leaves inner day = by (stop.node == 0) refl where
      by : (b : Bool) → (stop.node == 0) ≡ b
          → counts_price parts kind.Sector table.inside
          (λ k t. one_if ((place_at flight stop.node == k) && nat_le stop.time t
          && nat_lt t leaves))
          ≡ (if b then 0
          else summed (price_in table.inside (place_at flight stop.node)) stop.time leaves)
      by true is = origin-free stop leaves (grind (arith, nat_tests))
      by false is =
          let after : 0 < stop.node = grind (arith, nat_tests) in
          prices-alone parts kind.Sector table.inside (place_at flight stop.node)
          (λ k t. one_if ((place_at flight stop.node == k) && nat_le stop.time t
          && nat_lt t leaves))
          (λ t. one_if (nat_le stop.time t && nat_lt t leaves))
          (valid.route.sectors stop.node after inner)
          (λ t. here_three (place_at flight stop.node) (nat_le stop.time t) (nat_lt t leaves))
          (λ k t. else_three (place_at flight stop.node) k (nat_le stop.time t) (nat_lt t leaves))
          ∙ summed-between (price_in table.inside (place_at flight stop.node)) stop.time leaves
          parts.day.periods day

    stays-are : (stop : Stop) (rest : List Stop) → IsOnward parts.day.periods flight stop rest
        → counts_price parts kind.Sector table.inside (λ k t. stays_from k t flight stop rest)
        ≡ stays_price table flight stop rest
    stays-are stop [] onward =
        prices-none parts kind.Sector table.inside (λ k t. 0) (λ k t. omega arith)
    stays-are stop (next ∷ rest) onward =
        let up = step_up flight valid.route.each_leg stop next onward.0 in
        let inner : stop.node + 1 < length flight.nodes = omega (arith, up.0, up.1) in
        let day = in_day parts.day.periods flight next some onward.1 in
        let one = stay-is stop next.time inner (omega (arith, day)) in
        let more = stays-are next rest onward.2 in
        let both = prices-both parts kind.Sector table.inside
        (λ k t. one_if ((place_at flight stop.node == k) && nat_le stop.time t
        && nat_lt t next.time))
        (λ k t. stays_from k t flight next rest)
        (λ k t. stays_from k t flight stop (next ∷ rest)) (λ k t. refl) in
        omega (arith, one, more, both)

  -- what the counts of these flights pay
  abbrev counts_paid : List Flight → List (List Stop) → ℕ
  counts_paid flights plan =
      counts_price parts kind.Dep table.departures (departures_at flights plan)
      + counts_price parts kind.Arr table.arrivals (arrivals_at flights plan)
      + counts_price parts kind.Sector table.inside (occupancy_at flights plan)

  -- what they pay for connections, and are paid back
  abbrev paid : ℕ → List (List Stop) → ℕ
  paid number plan =
      over_plan (λ n trip.
      turns_paid table parts.day.periods n (leaves_in trip) 0 parts.connections) number plan

  abbrev back : ℕ → List (List Stop) → ℕ
  back number plan =
      over_plan (λ n trip.
      turns_back table parts.day.periods n (arrives_in trip) 0 parts.connections) number plan

  plan-pays : (number : ℕ) (flights : List Flight) (plan : List (List Stop))
      → All (IsFlight parts.day.periods parts.places parts.tables) flights
      → AreTrips parts.day.periods flights plan
      → plan_price table parts number flights plan
      ≡ pos (counts_paid flights plan + paid number plan) -ℤ pos (back number plan)
  plan-pays number [] [] valid trips =
      omega (
        arith,
        ints,
        prices-none parts kind.Dep table.departures (λ k t. 0) (λ k t. omega arith),
        prices-none parts kind.Arr table.arrivals (λ k t. 0) (λ k t. omega arith),
        prices-none parts kind.Sector table.inside (λ k t. 0) (λ k t. omega arith),
      )
  plan-pays number [] (trip ∷ plan) valid trips = absurd trips
  plan-pays number (flight ∷ flights) [] valid trips = absurd trips
  plan-pays number (flight ∷ flights) ([] ∷ plan) valid trips = absurd trips.0
  plan-pays number (flight ∷ flights) ((stop ∷ rest) ∷ plan) valid trips =
      let is : IsFlight parts.day.periods parts.places parts.tables flight =
      All-head (IsFlight parts.day.periods parts.places parts.tables) flight flights valid in
      let later = plan-pays (number + 1) flights plan
      (All-tail (IsFlight parts.day.periods parts.places parts.tables) flight flights valid)
      trips.1 in
      let departs = departure-is flight is stop rest trips.0 in
      let arrives = arrival-is flight is stop rest trips.0 in
      let stays = stays-are flight is stop rest trips.0.2 in
      let departures = prices-both parts kind.Dep table.departures
      (λ k t. departs_at k t flight (stop ∷ rest)) (departures_at flights plan)
      (departures_at (flight ∷ flights) ((stop ∷ rest) ∷ plan)) (λ k t. refl) in
      let arrivals = prices-both parts kind.Arr table.arrivals
      (λ k t. arrives_at k t flight (stop ∷ rest)) (arrivals_at flights plan)
      (arrivals_at (flight ∷ flights) ((stop ∷ rest) ∷ plan)) (λ k t. refl) in
      let inside = prices-both parts kind.Sector table.inside
      (λ k t. stays_from k t flight stop rest) (occupancy_at flights plan)
      (occupancy_at (flight ∷ flights) ((stop ∷ rest) ∷ plan)) (λ k t. refl) in
      omega (arith, ints, later, departs, arrives, stays, departures, arrivals, inside)

-- a plan pays by its counts, and for its connections
pub counts-pay : (parts : Parts) (table : PriceTable) (plan : List (List Stop))
    → IsScenario parts → AreTrips parts.day.periods parts.flights plan
    → plan_price table parts 0 parts.flights plan
    ≡ pos (loads_price table parts plan)
    +ℤ turns_price table parts.day.periods plan 0 parts.connections
counts-pay parts table plan valid trips =
    let pays = plan-pays parts table valid.day.periods_from 0 parts.flights plan
    valid.flights.each trips in
    let turns = turns-are parts.day.periods parts.flights plan trips table 0 parts.connections
    valid.connections.each in
    omega (arith, ints, pays, turns)

-- a feasible plan pays no more than all capacities would
pub feasible-pays : (parts : Parts) (table : PriceTable) (plan : List (List Stop))
    → IsScenario parts → IsFeasible parts plan
    → plan_price table parts 0 parts.flights plan ≤ℤ pos (limit_price parts table)
feasible-pays parts table plan valid feasible =
    let pays = counts-pay parts table plan valid feasible.trips in
    let turns = turns-kept parts.day.periods parts.flights plan feasible.trips table 0
    parts.connections valid.connections.each feasible.turns in
    let departures = prices-within parts kind.Dep table.departures
    (departures_at parts.flights plan) feasible.departures in
    let arrivals = prices-within parts kind.Arr table.arrivals
    (arrivals_at parts.flights plan) feasible.arrivals in
    let inside = prices-within parts kind.Sector table.inside
    (occupancy_at parts.flights plan) feasible.sectors in
    omega (arith, ints, pays, turns, departures, arrivals, inside)
