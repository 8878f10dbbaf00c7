-- The trips of a plan that keeps every rule fit one beside another.
use Rattle.std.proofs.Common.{◌≡◌, ℕ, zero, suc, ◌+◌, ◌<◌, ◌≤◌, ◌==◌, ◌&&◌, Bool, true, false, nat_le, nat_lt, List, [], ◌∷◌, take, set, get_or, slice_get, Option, None, Some, IsTrue, refl, sym, ap, ◌∙◌, subst, arith}
use Rattle.std.proofs.lemmas.Bool.Decides.{nat_tests}
use Rattle.std.proofs.lemmas.List.{length-take-le}
use Rattle.std.proofs.lemmas.Option.{slice_get_within}
use Rattle.std.specs.Option.{option_and_then}
use Rattle.flow_types.specs.declared.flight.Connection.{Connection}
use Rattle.flow_types.specs.declared.flight.Flight.{Flight}
use Rattle.flow_types.specs.declared.parts.Parts.{Parts}
use Rattle.flow_types.specs.declared.place.CapKind.{CapKind}
use Rattle.flow_types.specs.declared.place.CapKind.TheVariants as kind
use Rattle.flow_types.specs.declared.plan.Stop.{Stop}
use Rattle.flow_types.specs.Capacities.{capacity_of, has_kind}
use Rattle.flow_types.specs.Counts.{arrives_at, arrives_from, counted, departs_at, one_if, stays_at, stays_from}
use Rattle.flow_types.specs.Feasible.{IsFeasible, KeepsTurn}
use Rattle.flow_types.specs.Trips.{IsOnward, IsTrip, arrival_of, departure_of, place_at}
use Rattle.flow_types.specs.Valid.{IsScenario}
use Rattle.plan_rules.proofs.CountFacts.{counted-set}
use Rattle.plan_rules.proofs.TripFacts.{AreTrips-length}
use Rattle.time_windows.proofs.PlanFacts.{planned}
use Rattle.flight_routes.specs.Fits.{FitsAs, HasRoom}
use Rattle.flight_routes.proofs.TripFacts.{in_day}
use Rattle.greedy_plan.specs.Greedy.{with_rest}
use Rattle.greedy_plan.proofs.FeasibleFacts.{with_rest-more, with_rest-next}

-- fewer trips count no more
counted_rest : (count : Flight → List Stop → ℕ) → ((flight : Flight) → count flight [] ≡ 0)
    → (flights : List Flight) → counted count flights (with_rest flights []) ≡ 0
counted_rest count none [] = refl
counted_rest count none (flight ∷ flights) =
    omega (arith, none flight, counted_rest count none flights)

counted_first : (count : Flight → List Stop → ℕ) → ((flight : Flight) → count flight [] ≡ 0)
    → (flights : List Flight) (plan : List (List Stop)) (n : ℕ)
    → counted count flights (with_rest flights (take n plan)) ≤ counted count flights plan
counted_first count none [] plan n = omega arith
counted_first count none (flight ∷ flights) [] zero =
    omega (arith, none flight, counted_rest count none flights)
counted_first count none (flight ∷ flights) [] (suc n) =
    omega (arith, none flight, counted_rest count none flights)
counted_first count none (flight ∷ flights) (trip ∷ plan) zero =
    omega (arith, none flight, counted_rest count none flights)
counted_first count none (flight ∷ flights) (trip ∷ plan) (suc n) =
    omega (arith, counted_first count none flights plan n)

-- what is known of one of fewer trips is known of the trip
module _ (end : List Stop → Option ℕ) (none : end [] ≡ None) where
  rest_none : (flights : List Flight) (k time : ℕ)
      → option_and_then end (slice_get (with_rest flights []) k) ≡ Some time → ⊥
  rest_none [] k time is = cc
  rest_none (flight ∷ flights) zero time is = cc
  rest_none (flight ∷ flights) (suc k) time is = rest_none flights k time is

  end_first : (flights : List Flight) (plan : List (List Stop)) (n k time : ℕ)
      → option_and_then end (slice_get (with_rest flights (take n plan)) k) ≡ Some time
      → option_and_then end (slice_get plan k) ≡ Some time
  end_first [] plan n k time is = cc
  end_first (flight ∷ flights) [] zero k time is =
      absurd (rest_none (flight ∷ flights) k time is)
  end_first (flight ∷ flights) [] (suc n) k time is =
      absurd (rest_none (flight ∷ flights) k time is)
  end_first (flight ∷ flights) (trip ∷ plan) zero k time is =
      absurd (rest_none (flight ∷ flights) k time is)
  end_first (flight ∷ flights) (trip ∷ plan) (suc n) zero time is = is
  end_first (flight ∷ flights) (trip ∷ plan) (suc n) (suc k) time is =
      end_first flights plan n k time is

turn_first : (flights : List Flight) (plan : List (List Stop)) (n : ℕ) (connection : Connection)
    → KeepsTurn plan connection → KeepsTurn (with_rest flights (take n plan)) connection
turn_first flights plan n connection kept arrives leaves a l =
    kept arrives leaves (end_first arrival_of refl flights plan n connection.first arrives a)
    (end_first departure_of refl flights plan n connection.second leaves l)

-- a trip counts within the day
time_is : (a b k t : ℕ) → 0 < one_if ((a == k) && (b == t)) → b ≡ t
time_is a b k t some = grind (arith, nat_tests)

departs_in_day : (periods k t : ℕ) (flight : Flight) (stops : List Stop) → 1 ≤ periods
    → IsTrip periods flight stops → 0 < departs_at k t flight stops → t < periods
departs_in_day periods k t flight [] long trip some = absurd trip
departs_in_day periods k t flight (stop ∷ rest) long trip some =
    omega (
      arith,
      in_day periods flight stop long trip.1,
      time_is (place_at flight stop.node) stop.time k t some,
    )

arrives_on : (periods k t : ℕ) (flight : Flight) (stop : Stop) (rest : List Stop) → 1 ≤ periods
    → stop.time < periods → IsOnward periods flight stop rest
    → 0 < arrives_from k t flight stop rest → t < periods
arrives_on periods k t flight stop [] long day onward some =
    omega (arith, day, time_is (place_at flight stop.node) stop.time k t some)
arrives_on periods k t flight stop (next ∷ rest) long day onward some =
    arrives_on periods k t flight next rest long (in_day periods flight next long onward.1)
    onward.2 some

arrives_in_day : (periods k t : ℕ) (flight : Flight) (stops : List Stop) → 1 ≤ periods
    → IsTrip periods flight stops → 0 < arrives_at k t flight stops → t < periods
arrives_in_day periods k t flight [] long trip some = absurd trip
arrives_in_day periods k t flight (stop ∷ rest) long trip some =
    arrives_on periods k t flight stop rest long (in_day periods flight stop long trip.1) trip.2
    some

stay_by : (periods t n more : ℕ) (here since : Bool) → n < periods
    → 0 < one_if (here && since && nat_lt t n) + more → (0 < more → t < periods) → t < periods
stay_by periods t n more true true day some later = grind (arith, nat_tests)
stay_by periods t n more true false day some later = later (grind (arith, nat_tests))
stay_by periods t n more false true day some later = later (grind (arith, nat_tests))
stay_by periods t n more false false day some later = later (grind (arith, nat_tests))

stays_on : (periods k t : ℕ) (flight : Flight) (stop : Stop) (rest : List Stop) → 1 ≤ periods
    → IsOnward periods flight stop rest → 0 < stays_from k t flight stop rest → t < periods
stays_on periods k t flight stop [] long onward some = absurd (omega (arith, some))
stays_on periods k t flight stop (next ∷ rest) long onward some =
    stay_by periods t next.time (stays_from k t flight next rest) (place_at flight stop.node == k)
    (nat_le stop.time t) (in_day periods flight next long onward.1) some
    (stays_on periods k t flight next rest long onward.2)

stays_in_day : (periods k t : ℕ) (flight : Flight) (stops : List Stop) → 1 ≤ periods
    → IsTrip periods flight stops → 0 < stays_at k t flight stops → t < periods
stays_in_day periods k t flight [] long trip some = absurd trip
stays_in_day periods k t flight (stop ∷ rest) long trip some =
    stays_on periods k t flight stop rest long trip.2 some

module _ (parts : Parts) (valid : IsScenario parts) (plan : List (List Stop))
    (feasible : IsFeasible parts plan) (n : ℕ) (flight : Flight) (trip : List Stop)
    (here : slice_get parts.flights n ≡ Some flight) (at : slice_get plan n ≡ Some trip) where
  is_trip : IsTrip parts.day.periods flight trip
  is_trip =
      let found = planned parts.day.periods parts.flights plan n flight feasible.trips here in
      let same : found.trip ≡ trip = some_same found.trip trip (sym found.is ∙ at) in
      subst (IsTrip parts.day.periods flight) same found.valid
    where
      some_same : (a b : List Stop) → Some a ≡ Some b → a ≡ b
      some_same a b is = cc

  absent : slice_get (with_rest parts.flights (take n plan)) n ≡ Some []
  absent =
      let within = slice_get_within parts.flights n flight here in
      let same = AreTrips-length parts.day.periods parts.flights plan feasible.trips in
      let long = length-take-le n plan (omega (arith, within, same)) in
      subst (λ m. slice_get (with_rest parts.flights (take n plan)) m ≡ Some []) long
      (with_rest-next parts.flights (take n plan) flight
      (ap (slice_get parts.flights) long ∙ here))

  with_it : with_rest parts.flights (take (suc n) plan)
      ≡ set (with_rest parts.flights (take n plan)) n trip
  with_it = with_rest-more parts.flights plan n flight trip here at

  room_for : (kind : CapKind) (count : ℕ → ℕ → Flight → List Stop → ℕ)
      → ((k t : ℕ) (f : Flight) → count k t f [] ≡ 0)
      → ((k t : ℕ) → 0 < count k t flight trip → t < parts.day.periods)
      → ((k t : ℕ) → IsTrue (has_kind kind (slice_get parts.places k)) → t < parts.day.periods
      → counted (count k t) parts.flights plan ≤ capacity_of parts.places kind k t)
      → HasRoom parts kind
      (λ k t. counted (count k t) parts.flights (with_rest parts.flights (take n plan)))
      (λ k t. count k t flight trip)
  room_for kind count none day kept k t has some =
      let more = counted-set (count k t) (none k t) parts.flights
      (with_rest parts.flights (take n plan)) n flight trip here absent in
      let same = ap (counted (count k t) parts.flights) with_it in
      let fewer = counted_first (count k t) (none k t) parts.flights plan (suc n) in
      omega (arith, more, same, fewer, kept k t has (day k t some))

  -- each beside those before it
  pub trip_fits : FitsAs parts (with_rest parts.flights (take n plan)) n flight trip
  trip_fits = record {
    departures = room_for kind.Dep departs_at (λ k t f. refl)
        (λ k t. departs_in_day parts.day.periods k t flight trip valid.day.periods_from is_trip)
        feasible.departures;
    arrivals = room_for kind.Arr arrives_at (λ k t f. refl)
        (λ k t. arrives_in_day parts.day.periods k t flight trip valid.day.periods_from is_trip)
        feasible.arrivals;
    sectors = room_for kind.Sector stays_at (λ k t f. refl)
        (λ k t. stays_in_day parts.day.periods k t flight trip valid.day.periods_from is_trip)
        feasible.sectors;
    turns = λ k d within own.
        subst (λ trips. KeepsTurn trips (get_or parts.connections k d)) with_it
        (turn_first parts.flights plan (suc n) (get_or parts.connections k d)
        (feasible.turns k d within));
  }
