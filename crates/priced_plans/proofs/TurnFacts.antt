-- What a plan pays for connections, less what it is paid back: nothing where it keeps turnarounds.
use Rattle.std.proofs.Common.{◌≡◌, ◌≢◌, ℕ, zero, suc, ◌+◌, ◌*◌, ◌<◌, ◌≤◌, ◌==◌, Bool, true, false, nat_le, List, [], ◌∷◌, get_or, length, slice_get, Option, Some, if◌then◌else◌, All, pos, ◌-ℤ◌, ◌≤ℤ◌, refl, sym, ap, ◌∙◌, arith}
use Rattle.std.specs.Option.{option_and_then}
use Rattle.std.proofs.Math.Nat.{mul-le-mul_left}
use Rattle.std.proofs.lemmas.Bool.Decides.{nat_tests}
use Rattle.std.proofs.lemmas.Int.{ints}
use Rattle.std.proofs.lemmas.List.Elements.{All-head, All-tail}
use Rattle.std.proofs.lemmas.Option.{get_or_from_slice_get}
use Rattle.exact_sums.proofs.ItemFacts.{item_there}
use Rattle.flow_types.specs.declared.flight.Connection.{Connection}
use Rattle.flow_types.specs.declared.flight.Flight.{Flight}
use Rattle.flow_types.specs.declared.plan.Stop.{Stop}
use Rattle.flow_types.specs.Counts.{one_if}
use Rattle.flow_types.specs.Feasible.{AreTrips, KeepsTurn}
use Rattle.flow_types.specs.Trips.{IsTrip, arrival_of, departure_of}
use Rattle.flow_types.specs.Valid.{IsConnection}
use Rattle.time_windows.proofs.PlanFacts.{planned}
use Rattle.flight_routes.specs.Prices.{PriceTable, price_in, summed, turns_back, turns_paid}
use Rattle.priced_plans.specs.Values.{arrives_in, has_left, is_ready, leaves_in, over_day, turns_price}
use Rattle.priced_plans.proofs.RangeFacts.{range-le, summed-since}

-- a number of each trip of a plan, added up; the first has this number
abbrev pub over_plan : (ℕ → List Stop → ℕ) → ℕ → List (List Stop) → ℕ
over_plan amount number [] = 0
over_plan amount number (trip ∷ plan) = amount number trip + over_plan amount (number + 1) plan

plan-both : (f g h : ℕ → List Stop → ℕ) (number : ℕ) (plan : List (List Stop))
    → ((n : ℕ) (trip : List Stop) → h n trip ≡ f n trip + g n trip)
    → over_plan h number plan ≡ over_plan f number plan + over_plan g number plan
plan-both f g h number [] each = refl
plan-both f g h number (trip ∷ plan) each =
    omega (arith, each number trip, plan-both f g h (number + 1) plan each)

plan-none : (number : ℕ) (plan : List (List Stop)) → over_plan (λ n trip. 0) number plan ≡ 0
plan-none number [] = refl
plan-none number (trip ∷ plan) = omega (arith, plan-none (number + 1) plan)

-- the trip of one number alone
module _ (amount : List Stop → ℕ) (chosen : ℕ) where
  alone : ℕ → List Stop → ℕ
  alone n trip = if chosen == n then amount trip else 0

  other : (n : ℕ) (b : Bool) (m : ℕ) → (chosen == n) ≡ b → chosen ≢ n
      → (if b then m else 0) ≡ 0
  other n true m is apart = absurd (apart (grind (arith, nat_tests)))
  other n false m is apart = refl

  same : (n : ℕ) (b : Bool) (m : ℕ) → (chosen == n) ≡ b → chosen ≡ n
      → (if b then m else 0) ≡ m
  same n true m is here = refl
  same n false m is here = absurd (grind (arith, nat_tests))

  plan-before : (number : ℕ) (plan : List (List Stop)) → chosen < number
      → over_plan (λ n trip. if chosen == n then amount trip else 0) number plan ≡ 0
  plan-before number [] before = refl
  plan-before number (trip ∷ plan) before =
      omega (
        arith,
        other number (chosen == number) (amount trip) refl (λ e. omega (arith, e, before)),
        plan-before (number + 1) plan (omega (arith, before)),
      )

  plan-alone : (number j : ℕ) (plan : List (List Stop)) (trip : List Stop)
      → slice_get plan j ≡ Some trip → chosen ≡ number + j
      → over_plan (λ n t. if chosen == n then amount t else 0) number plan ≡ amount trip
  plan-alone number j [] trip there is = cc
  plan-alone number zero (t ∷ plan) trip there is =
      let here : t ≡ trip = cc in
      omega (
        arith,
        same number (chosen == number) (amount t) refl (omega (arith, is)),
        plan-before (number + 1) plan (omega (arith, is)),
        ap amount here,
      )
  plan-alone number (suc j) (t ∷ plan) trip there is =
      omega (
        arith,
        other number (chosen == number) (amount t) refl (λ e. omega (arith, e, is)),
        plan-alone (number + 1) j plan trip there (omega (arith, is)),
      )

-- a trip of the plan, with its times
record IsTripAt (plan : List (List Stop)) (k : ℕ) (trip : List Stop) : Type 0 where
  there : slice_get plan k ≡ Some trip
  leaves : departure_of trip ≡ Some (leaves_in trip)
  arrives : arrival_of trip ≡ Some (arrives_in trip)

trip_times : (periods : ℕ) (flight : Flight) (plan : List (List Stop)) (k : ℕ) (trip : List Stop)
    → slice_get plan k ≡ Some trip → IsTrip periods flight trip → IsTripAt plan k trip
trip_times periods flight plan k [] there is = absurd is
trip_times periods flight plan k (stop ∷ rest) there is =
    record { there = there; leaves = refl; arrives = refl }

trip_at : (periods : ℕ) (flights : List Flight) (plan : List (List Stop)) (k : ℕ)
    → AreTrips periods flights plan → k < length flights
    → (trip : List Stop) × IsTripAt plan k trip
trip_at periods flights plan k trips within =
    let flight = item_there flights k within in
    let own = planned periods flights plan k flight.0 trips flight.1 in
    (own.trip, trip_times periods flight.0 plan k own.trip own.is own.valid)

module _ (periods : ℕ) (flights : List Flight) (plan : List (List Stop))
    (trips : AreTrips periods flights plan) where
  -- what is paid for one connection
  left-is : (price : ℕ → ℕ) (connection : Connection) → IsConnection flights connection
      → over_plan (λ n trip.
      if connection.second == n then summed price (leaves_in trip) periods else 0) 0 plan
      ≡ over_day periods price (has_left plan connection)
  left-is price connection is =
      let second = trip_at periods flights plan connection.second trips is.second in
      plan-alone (λ trip. summed price (leaves_in trip) periods) connection.second 0
      connection.second plan second.0 second.1.there (omega arith)
      ∙ sym (summed-since price (leaves_in second.0) periods)
      ∙ ap (λ (trip : List Stop). over_day periods price (λ t. one_if (nat_le (leaves_in trip) t)))
      (sym (get_or_from_slice_get plan connection.second second.0 [] second.1.there))

  -- and paid back
  ready-is : (price : ℕ → ℕ) (connection : Connection) → IsConnection flights connection
      → over_plan (λ n trip.
      if connection.first == n
      then summed price (arrives_in trip + connection.turnaround) periods else 0) 0 plan
      ≡ over_day periods price (is_ready plan connection)
  ready-is price connection is =
      let first = trip_at periods flights plan connection.first trips is.first in
      plan-alone (λ trip. summed price (arrives_in trip + connection.turnaround) periods)
      connection.first 0 connection.first plan first.0 first.1.there (omega arith)
      ∙ sym (summed-since price (arrives_in first.0 + connection.turnaround) periods)
      ∙ ap (λ (trip : List Stop). over_day periods price
      (λ t. one_if (nat_le (arrives_in trip + connection.turnaround) t)))
      (sym (get_or_from_slice_get plan connection.first first.0 [] first.1.there))

  -- for all connections, the first of which has this number
  pub turns-are : (table : PriceTable) (k : ℕ) (connections : List Connection)
      → All (IsConnection flights) connections
      → turns_price table periods plan k connections
      ≡ pos (over_plan (λ n trip. turns_paid table periods n (leaves_in trip) k connections) 0
      plan)
      -ℤ pos (over_plan (λ n trip. turns_back table periods n (arrives_in trip) k connections) 0
      plan)
  turns-are table k [] are =
      omega (arith, ints, plan-none 0 plan)
  turns-are table k (connection ∷ connections) are =
      let is = All-head (IsConnection flights) connection connections are in
      let left = left-is (price_in table.turns k) connection is in
      let ready = ready-is (price_in table.turns k) connection is in
      let rest = turns-are table (k + 1) connections
      (All-tail (IsConnection flights) connection connections are) in
      let paid = plan-both
      (λ n trip.
      if connection.second == n
      then summed (price_in table.turns k) (leaves_in trip) periods else 0)
      (λ n trip. turns_paid table periods n (leaves_in trip) (k + 1) connections)
      (λ n trip. turns_paid table periods n (leaves_in trip) k (connection ∷ connections)) 0 plan
      (λ n trip. refl) in
      let back = plan-both
      (λ n trip.
      if connection.first == n
      then summed (price_in table.turns k) (arrives_in trip + connection.turnaround) periods else 0)
      (λ n trip. turns_back table periods n (arrives_in trip) (k + 1) connections)
      (λ n trip. turns_back table periods n (arrives_in trip) k (connection ∷ connections)) 0 plan
      (λ n trip. refl) in
      omega (arith, ints, left, ready, rest, paid, back)

  -- where the turnaround is kept, the second flight hasn't left before the aircraft is ready
  turn-kept : (price : ℕ → ℕ) (connection : Connection) → IsConnection flights connection
      → KeepsTurn plan connection
      → over_day periods price (has_left plan connection)
      ≤ over_day periods price (is_ready plan connection)
  turn-kept price connection is keeps =
      let first = trip_at periods flights plan connection.first trips is.first in
      let second = trip_at periods flights plan connection.second trips is.second in
      let arrives = ap (λ (t : Option (List Stop)). option_and_then arrival_of t) first.1.there
      ∙ first.1.arrives in
      let leaves = ap (λ (t : Option (List Stop)). option_and_then departure_of t) second.1.there
      ∙ second.1.leaves in
      let kept = keeps (arrives_in first.0) (leaves_in second.0) arrives leaves in
      let one = ap leaves_in
      (get_or_from_slice_get plan connection.second second.0 [] second.1.there) in
      let two = ap arrives_in
      (get_or_from_slice_get plan connection.first first.0 [] first.1.there) in
      range-le (λ t. price t * has_left plan connection t)
      (λ t. price t * is_ready plan connection t) 0 periods
      (λ t from to. mul-le-mul_left (price t) (sooner
      (leaves_in (get_or plan connection.second []))
      (arrives_in (get_or plan connection.first []) + connection.turnaround) t
      (omega (arith, kept, one, two))))
    where
      sooner : (a b t : ℕ) → b ≤ a → one_if (nat_le a t) ≤ one_if (nat_le b t)
      sooner a b t before = grind (arith, nat_tests)

  pub turns-kept : (table : PriceTable) (k : ℕ) (connections : List Connection)
      → All (IsConnection flights) connections → All (KeepsTurn plan) connections
      → turns_price table periods plan k connections ≤ℤ pos 0
  turns-kept table k [] are keep = omega (arith, ints)
  turns-kept table k (connection ∷ connections) are keep =
      let one = turn-kept (price_in table.turns k) connection
      (All-head (IsConnection flights) connection connections are)
      (All-head (KeepsTurn plan) connection connections keep) in
      let rest = turns-kept table (k + 1) connections
      (All-tail (IsConnection flights) connection connections are)
      (All-tail (KeepsTurn plan) connection connections keep) in
      omega (arith, ints, one, rest)
