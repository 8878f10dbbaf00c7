-- Where every price is 0, a trip costs its cost alone.
use Rattle.std.proofs.Common.{◌≡◌, ℕ, zero, suc, ◌+◌, ◌-◌, ◌==◌, Bool, true, false, List, [], ◌∷◌, slice_get, Option, Some, None, sum_by, if◌then◌else◌, ℤ, pos, ◌*ℤ◌, refl, arith}
use Rattle.std.specs.List.{range_with_len}
use Rattle.std.proofs.lemmas.Int.{ints}
use Rattle.std.proofs.lemmas.List.Sums.{sum_by-cons}
use Rattle.exact_sums.proofs.ProductFacts.{times-more}
use Rattle.std.proofs.Math.IntN.{zero-*ℤ}
use Rattle.flow_types.specs.declared.bound.PriceKind.TheVariants.{Capacity, Connection as Connected}
use Rattle.flow_types.specs.declared.flight.Connection.{Connection}
use Rattle.flow_types.specs.declared.flight.Flight.{Flight}
use Rattle.flow_types.specs.declared.parts.Parts.{Parts}
use Rattle.flow_types.specs.declared.place.CapKind.TheVariants as cap
use Rattle.flow_types.specs.declared.plan.Stop.{Stop}
use Rattle.flow_types.specs.Costs.{trip_cost, trip_cost_at}
use Rattle.flow_types.specs.Trips.{arrival_from, place_at}
use Rattle.flight_routes.specs.Prices.{AreFree, PriceTable, key_in, price_in, priced_cost, priced_cost_of, stays_price, summed, trip_price, turns_back, turns_paid}

sum_free : (price : ℕ → ℕ) → ((t : ℕ) → price t ≡ 0) → (from n : ℕ)
    → sum_by price (range_with_len from n) ≡ 0
sum_free price free from zero = refl
sum_free price free from (suc n) =
    omega (
      arith,
      sum_by-cons price from (range_with_len (from + 1) n),
      free from,
      sum_free price free (from + 1) n,
    )

if_free : (b : Bool) (n m : ℕ) → n ≡ 0 → m ≡ 0 → (if b then n else m) ≡ 0
if_free true n m one two = one
if_free false n m one two = two

module _ (table : PriceTable) (free : AreFree table) where
  summed_free : (price : ℕ → ℕ) → ((t : ℕ) → price t ≡ 0) → (from to : ℕ)
      → summed price from to ≡ 0
  summed_free price none from to = sum_free price none from (to - from)

  stays_free : (flight : Flight) (stop : Stop) (rest : List Stop)
      → stays_price table flight stop rest ≡ 0
  stays_free flight stop [] = refl
  stays_free flight stop (next ∷ rest) =
      omega (
        arith,
        if_free (stop.node == 0) 0
            (summed (price_in table.inside (place_at flight stop.node)) stop.time next.time) refl
            (summed_free (price_in table.inside (place_at flight stop.node))
            (λ t. free (key_in (Capacity cap.Sector) (place_at flight stop.node) t)) stop.time
            next.time),
        stays_free flight next rest,
      )

  paid_free : (periods number t k : ℕ) (connections : List Connection)
      → turns_paid table periods number t k connections ≡ 0
  paid_free periods number t k [] = refl
  paid_free periods number t k (connection ∷ connections) =
      omega (
        arith,
        if_free (connection.second == number) (summed (price_in table.turns k) t periods)
            0 (summed_free (price_in table.turns k) (λ p. free (key_in Connected k p)) t periods)
            refl,
        paid_free periods number t (k + 1) connections,
      )

  back_free : (periods number t k : ℕ) (connections : List Connection)
      → turns_back table periods number t k connections ≡ 0
  back_free periods number t k [] = refl
  back_free periods number t k (connection ∷ connections) =
      omega (
        arith,
        if_free (connection.first == number)
            (summed (price_in table.turns k) (t + connection.turnaround) periods)
            0 (summed_free (price_in table.turns k) (λ p. free (key_in Connected k p))
            (t + connection.turnaround) periods) refl,
        back_free periods number t (k + 1) connections,
      )

  price_free : (parts : Parts) (number : ℕ) (flight : Flight) (stops : List Stop)
      → trip_price table parts number flight stops ≡ pos 0
  price_free parts number flight [] = refl
  price_free parts number flight (stop ∷ rest) =
      let a : price_in table.departures flight.from stop.time ≡ 0 =
      free (key_in (Capacity cap.Dep) flight.from stop.time) in
      let b = stays_free flight stop rest in
      let c = paid_free parts.day.periods number stop.time 0 parts.connections in
      let d : price_in table.arrivals flight.to (arrival_from stop rest) ≡ 0 =
      free (key_in (Capacity cap.Arr) flight.to (arrival_from stop rest)) in
      let e = back_free parts.day.periods number (arrival_from stop rest) 0 parts.connections in
      omega (arith, ints, a, b, c, d, e)

  once : (cost : ℤ) → pos 1 *ℤ cost ≡ cost
  once cost = omega (arith, ints, times-more 0 cost, zero-*ℤ cost)

  free_of : (parts : Parts) (number : ℕ) (flight : Option Flight) (stops : List Stop)
      → priced_cost_of 1 table parts number flight stops ≡ trip_cost_at parts.tables flight stops
  free_of parts number None stops = refl
  free_of parts number (Some flight) stops =
      omega (
        arith,
        ints,
        price_free parts number flight stops,
        once (trip_cost parts.tables flight stops),
      )

  -- at weight 1
  pub free_cost : (parts : Parts) (number : ℕ) (stops : List Stop)
      → priced_cost 1 table parts number stops
      ≡ trip_cost_at parts.tables (slice_get parts.flights number) stops
  free_cost parts number stops = free_of parts number (slice_get parts.flights number) stops
