-- A plan that keeps every rule is within the limits of lines, and its lines have so many bytes at
-- most.
use Rattle.std.proofs.Common.{◌≡◌, ℕ, suc, ◌+◌, ◌*◌, ◌≤◌, true, ◌&&◌, List, [], ◌∷◌, length, Option, None, Some, slice_get, refl, ℤ, pos, negsuc, neg_ℤ, ◌≤ℤ◌, unsigned_abs, arith, length-append}
use Rattle.std.specs.Prelude.{codes, nat_le}
use Rattle.std.specs.Fmt.{decimal, signed_decimal}
use Rattle.std.specs.List.{list_all}
use Rattle.std.proofs.lemmas.Bool.{and_parts, leb-true}
use Rattle.std.proofs.lemmas.Int.{ints}
use Rattle.exact_sums.proofs.ItemFacts.{All-item}
use Rattle.flow_types.specs.declared.flight.Flight.{Flight}
use Rattle.flow_types.specs.declared.parts.Parts.{Parts}
use Rattle.flow_types.specs.declared.plan.Stop.{Stop}
use Rattle.flow_types.specs.Costs.{plan_cost}
use Rattle.flow_types.specs.Feasible.{AreTrips, IsFeasible}
use Rattle.flow_types.specs.declared.place.Place.{Place}
use Rattle.flow_types.specs.Limits.{most_name_bytes}
use Rattle.flow_types.specs.Trips.{place_at}
use Rattle.flow_types.specs.Valid.{IsFlight, IsPlace, IsScenario}
use Rattle.flow_types.specs.Words.{is_name, is_name_byte}
use Rattle.flow_types.proofs.CostFacts.{plan_within}
use Rattle.plan_text.proofs.TripsAgain.{AreReadBack, are_read_back, few_stops}
use Rattle.plan_text.specs.Lines.{place_name}
use Rattle.certificate.specs.Items.{name_at}
use Rattle.certificate.specs.Limits.{most_cost}
use Rattle.certificate.specs.Lines.{fields_text, line_of, stop_fields}
use Rattle.certificate.specs.Ranges.{AreStopsInRange}
use Rattle.certificate.specs.Texts.{plan_text, trips_text}
use Rattle.certificate.specs.Writable.{AreTripsWritable, IfPlanWritable, IsPlanWritable}
use Rattle.flow_cli.proofs.OwnSizes.{digits_to, field_size, field_to, line_size, whole_to}

-- a number between these two is no further from 0
pub abs_to : (most : ℕ) (value : ℤ) → neg_ℤ (pos most) ≤ℤ value → value ≤ℤ pos most
    → unsigned_abs value ≤ most
abs_to most (pos n) low high = omega (arith, ints, high)
abs_to most (negsuc n) low high = omega (arith, ints, low)

module _ (parts : Parts) (valid : IsScenario parts) where
  pub cost_to : (plan : List (List Stop)) → AreTrips parts.day.periods parts.flights plan
      → unsigned_abs (plan_cost parts.tables parts.flights plan) ≤ most_cost
  cost_to plan trips =
      let within = plan_within parts plan valid trips in
      abs_to most_cost (plan_cost parts.tables parts.flights plan) within.low within.high

  stops_in_range : (flight : Flight) (stops : List Stop)
      → AreReadBack parts.day.periods flight stops → AreStopsInRange flight stops
  stops_in_range flight [] are = tt
  stops_in_range flight (stop ∷ stops) are =
      let time = are.0.time in
      let most = valid.day.periods_to in (
        record { node_to = are.0.node; time_to = omega (arith, time, most) },
        stops_in_range flight stops are.1,
      )

  trips_writable : (flights : List Flight) (plan : List (List Stop))
      → ((k : ℕ) (flight : Flight) → slice_get flights k ≡ Some flight
      → IsFlight parts.day.periods parts.places parts.tables flight)
      → AreTrips parts.day.periods flights plan → AreTripsWritable flights plan
  trips_writable [] [] each trips = tt
  trips_writable [] (trip ∷ plan) each trips = absurd trips
  trips_writable (flight ∷ flights) [] each trips = absurd trips
  trips_writable (flight ∷ flights) (trip ∷ plan) each trips =
      let some = valid.day.periods_from in
      let route = (each 0 flight refl).route in
      let short = few_stops parts.day.periods some flight route.each_leg trip trips.0 in
      let nodes = route.nodes_to in (
        (
          stops_in_range flight trip
              (are_read_back parts.day.periods some flight route.each_leg trip trips.0),
          omega (arith, short, nodes),
        ),
        trips_writable flights plan (λ k. each (suc k)) trips.1,
      )

  pub plan_writable : (plan : List (List Stop)) → IsFeasible parts plan
      → IsPlanWritable parts plan
  plan_writable plan feasible = record {
    trips = trips_writable parts.flights plan
        (λ k flight here.
        All-item (IsFlight parts.day.periods parts.places parts.tables) parts.flights k flight
        valid.flights.each here) feasible.trips;
    cost = cost_to plan feasible.trips;
  }

  -- how many bytes its lines have
  name_size : (name : List ℕ) → is_name name ≡ true → length name ≤ 32
  name_size name is =
      let outer = and_parts (nat_le 1 (length name) && nat_le (length name) most_name_bytes)
      (list_all is_name_byte name) is in
      let inner = and_parts (nat_le 1 (length name)) (nat_le (length name) most_name_bytes)
      outer.0 in
      leb-true (length name) most_name_bytes inner.1

  place_size : (place : ℕ) → length (name_at parts.places place) ≤ 32
  place_size place = by (slice_get parts.places place) refl
    where
      by : (found : Option Place) → slice_get parts.places place ≡ found
          → length (place_name found) ≤ 32
      by None is = omega arith
      by (Some found) is =
          name_size found.name
          (All-item (IsPlace parts.day.periods) parts.places place found valid.places.each is).name

  stops_size : (flight : Flight) (stops : List Stop) → AreStopsInRange flight stops
      → length (fields_text (stop_fields parts.places flight stops)) ≤ 38 * length stops + 1
  stops_size flight [] are = omega arith
  stops_size flight (stop ∷ stops) are =
      let time_to = are.0.time_to in
      let more = stops_size flight stops are.1 in
      let time = digits_to 4 stop.time (omega arith) (omega arith) (omega (arith, time_to)) in
      let second = field_size (decimal stop.time) (stop_fields parts.places flight stops) in
      let place = place_size (place_at flight stop.node) in
      let first = field_size (name_at parts.places (place_at flight stop.node))
      (decimal stop.time ∷ stop_fields parts.places flight stops) in
      omega (arith, more, time, second, place, first)

  trips_size : (flights : List Flight) (plan : List (List Stop))
      → ((k : ℕ) (flight : Flight) → slice_get flights k ≡ Some flight
      → is_name flight.name ≡ true)
      → AreTripsWritable flights plan
      → length (trips_text parts.places flights plan) ≤ 1254 * length flights
  trips_size [] [] named trips = omega arith
  trips_size [] (trip ∷ plan) named trips = absurd trips
  trips_size (flight ∷ flights) [] named trips = absurd trips
  trips_size (flight ∷ flights) (trip ∷ plan) named trips =
      let name = name_size flight.name (named 0 flight refl) in
      let few = trips.0.1 in
      let stops = stops_size flight trip trips.0.0 in
      let fields = field_size flight.name (stop_fields parts.places flight trip) in
      let line = line_size (codes "trip") (flight.name ∷ stop_fields parts.places flight trip) in
      let more = trips_size flights plan (λ k. named (suc k)) trips.1 in
      let all = length-append
      (line_of (codes "trip") (flight.name ∷ stop_fields parts.places flight trip))
      (trips_text parts.places flights plan) in
      omega (arith, name, few, stops, fields, line, more, all)

  pub plan_size : (plan : Option (List (List Stop))) → IfPlanWritable parts plan
      → length (plan_text parts plan) ≤ 3000000
  plan_size None is = omega arith
  plan_size (Some plan) is =
      let cost : ℤ = plan_cost parts.tables parts.flights plan in
      let digits = whole_to 14 most_cost (Some cost) (omega arith) (omega arith) (omega arith)
      is.cost in
      let fields = field_to 15 1 (signed_decimal cost) [] digits (omega arith) in
      let line = line_size (codes "plan") (signed_decimal cost ∷ []) in
      let trips = trips_size parts.flights plan (λ k flight here.
      (All-item (IsFlight parts.day.periods parts.places parts.tables) parts.flights k flight
      valid.flights.each here).name) is.trips in
      let few = valid.flights.few in
      let all = length-append (line_of (codes "plan") (signed_decimal cost ∷ []))
      (trips_text parts.places parts.flights plan) in
      omega (arith, fields, line, trips, few, all)
