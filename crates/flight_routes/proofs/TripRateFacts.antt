-- At the rates of prices, every trip in the box is allowed, and costs what it costs and pays.
use Rattle.std.proofs.Common.{◌≡◌, ◌⊎◌, ℕ, ◌+◌, ◌-◌, ◌<◌, ◌≤◌, ◌==◌, true, false, List, [], ◌∷◌, length, Some, All, IsSome, pos, ◌+ℤ◌, ◌-ℤ◌, ◌*ℤ◌, refl, sym, ap, ◌∙◌, subst, inl, inr, arith}
use Rattle.std.proofs.lemmas.Bool.{cases_lt}
use Rattle.std.proofs.lemmas.Bool.Decides.{nat_tests}
use Rattle.std.proofs.lemmas.Int.{ints}
use Rattle.std.proofs.lemmas.List.Elements.{All-head, All-tail}
use Rattle.exact_sums.proofs.ProductFacts.{times-minus}
use Rattle.flow_types.specs.declared.flight.Flight.{Flight}
use Rattle.flow_types.specs.declared.parts.Parts.{Parts}
use Rattle.flow_types.specs.declared.plan.Stop.{Stop}
use Rattle.flow_types.specs.Costs.{credit_of, total_of, trip_cost}
use Rattle.flow_types.specs.Routes.{IsLeg}
use Rattle.flow_types.specs.Trips.{IsOnward, IsTrip, arrival_from, place_at}
use Rattle.time_windows.specs.declared.access.Access.{Access}
use Rattle.time_windows.specs.declared.access.Window.{Window}
use Rattle.time_windows.specs.Boxes.{IsInWindow, IsTripInBox}
use Rattle.flight_routes.specs.Prices.{PriceTable, price_in, stay_price, stays_price, summed, trip_price}
use Rattle.flight_routes.specs.Rates.{Rates, value_or_zero, whole_cost}
use Rattle.flight_routes.specs.Ready.{IsInSpan}
use Rattle.flight_routes.specs.TripRates.{AreTripRates, arriving_cost, leaving_cost}
use Rattle.flight_routes.proofs.TripFacts.{ClearOn, IsAllowed, ends_in, in_day, stays_cost, step_up, whole_cost_is}

module _ (weight : ℕ) (table : PriceTable) (parts : Parts) (number : ℕ) (flight : Flight)
    (legs : All (IsLeg (length flight.nodes)) flight.legs) (some : 1 ≤ parts.day.periods)
    (row : ℕ → Access) (span : Window)
    (within : (n t : ℕ) → IsInWindow (row n).window t → IsInSpan span t) (rates : Rates)
    (are : AreTripRates weight table parts number flight row span rates) where
  all_clear : (stop : Stop) (rest : List Stop) → IsOnward parts.day.periods flight stop rest
      → ClearOn rates stop rest
  all_clear stop [] onward = tt
  all_clear stop (next ∷ rest) onward = (
    are.clear stop.node stop.time next.time
        (in_day parts.day.periods flight next some onward.1),
    all_clear next rest onward.2,
  )

  -- what a stay costs
  stay_is : (stop : Stop) (leaves : ℕ) → stop.node + 1 < length flight.nodes → stop.time ≤ leaves
      → leaves < parts.day.periods → IsInSpan span stop.time → IsInSpan span leaves
      → (0 < stop.node) ⊎ (stop.node ≤ 0)
      → rates.paid stop.node leaves -ℤ rates.paid stop.node stop.time
      ≡ pos (stay_price table flight stop leaves)
  stay_is stop leaves inside later day from to (inl above) =
      let is : stay_price table flight stop leaves
      ≡ summed (price_in table.inside (place_at flight stop.node)) stop.time leaves =
      charged stop leaves (grind (arith, nat_tests)) in
      omega (arith, ints, are.paid stop.node stop.time leaves above inside from.0 later to.1, is)
    where
      charged : (s : Stop) (u : ℕ) → (s.node == 0) ≡ false → stay_price table flight s u
          ≡ summed (price_in table.inside (place_at flight s.node)) s.time u
      charged s u e = rw e refl
  stay_is stop leaves inside later day from to (inr at_first) =
      let is : stay_price table flight stop leaves ≡ 0 =
      free stop leaves (grind (arith, nat_tests)) in
      let zero_is : stop.node ≡ 0 = omega arith in
      let same : rates.paid stop.node leaves ≡ rates.paid stop.node stop.time =
      ap (λ n. rates.paid n leaves) zero_is ∙ are.unpaid stop.time leaves later day
      ∙ sym (ap (λ n. rates.paid n stop.time) zero_is) in
      omega (arith, ints, same, is)
    where
      free : (s : Stop) (u : ℕ) → (s.node == 0) ≡ true → stay_price table flight s u ≡ 0
      free s u e = rw e refl

  stays_are : (stop : Stop) (rest : List Stop) → IsOnward parts.day.periods flight stop rest
      → All (λ (s : Stop). IsInWindow (row s.node).window s.time) (stop ∷ rest)
      → stays_cost rates stop rest ≡ pos (stays_price table flight stop rest)
  stays_are stop [] onward windows = refl
  stays_are stop (next ∷ rest) onward windows =
      let up = step_up flight legs stop next onward.0 in
      let here = All-head (λ (s : Stop). IsInWindow (row s.node).window s.time) stop (next ∷ rest)
      windows in
      let later = All-tail (λ (s : Stop). IsInWindow (row s.node).window s.time) stop (next ∷ rest)
      windows in
      let there = All-head (λ (s : Stop). IsInWindow (row s.node).window s.time) next rest later in
      omega (
        arith,
        ints,
        stays_are next rest onward.2 later,
        stay_is stop next.time (omega (arith, up.0, up.1))
            (omega (arith, onward.0.4.least)) (in_day parts.day.periods flight next some onward.1)
            (within stop.node stop.time here) (within next.node next.time there)
            (cases_lt 0 stop.node),
      )

  module _ (stop : Stop) (rest : List Stop)
      (trip : IsTrip parts.day.periods flight (stop ∷ rest))
      (inside : IsTripInBox row (stop ∷ rest)) where
    leaves_is : rates.leaves stop.time
        ≡ Some (leaving_cost weight table parts number flight stop.time)
    leaves_is = are.leaves stop.time (subst (λ n. IsInWindow (row n).window stop.time) trip.0
        (All-head (λ (s : Stop). IsInWindow (row s.node).window s.time) stop rest inside.windows))

    arrives_is : rates.arrives (arrival_from stop rest)
        ≡ Some (arriving_cost weight table parts number flight (arrival_from stop rest))
    arrives_is =
        let ends = ends_in parts.day.periods flight row stop rest trip.2 inside.windows in
        are.arrives ends.node (arrival_from stop rest) ends.last ends.window

    -- every trip is allowed
    pub all_allowed : IsAllowed rates (stop ∷ rest)
    all_allowed = (
      subst IsSome (sym leaves_is) refl,
      subst IsSome (sym arrives_is) refl,
      all_clear stop rest trip.2,
    )

    -- at its cost and prices
    pub priced_is : whole_cost rates (stop ∷ rest)
        ≡ pos weight *ℤ trip_cost parts.tables flight (stop ∷ rest)
        +ℤ trip_price table parts number flight (stop ∷ rest)
    priced_is =
        let first = ap value_or_zero leaves_is in
        let last = ap value_or_zero arrives_is in
        let stays = stays_are stop rest trip.2 inside.windows in
        let both = times-minus weight
        (total_of parts.tables flight.cost (arrival_from stop rest - flight.sa))
        (credit_of parts.tables flight.cost (stop.time - flight.sd)) in
        omega (arith, ints, whole_cost_is rates stop rest, first, last, stays, both)
