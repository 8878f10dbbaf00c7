-- How far from 0 a trip costs with low prices.
use Rattle.std.proofs.Common.{◌≡◌, ℕ, zero, suc, ◌+◌, ◌-◌, ◌*◌, ◌<◌, ◌≤◌, ◌^◌, ◌==◌, Bool, true, false, if◌then◌else◌, List, [], ◌∷◌, length, sum_by, Option, Some, IfSome, None, ℤ, pos, negsuc, ◌+ℤ◌, ◌-ℤ◌, ◌*ℤ◌, refl, sym, subst, arith}
use Rattle.std.specs.List.{range_with_len}
use Rattle.std.proofs.lemmas.Int.{ints}
use Rattle.std.proofs.lemmas.List.Sums.{sum_by-cons}
use Rattle.exact_sums.specs.Leasts.{IsLeast, IsLeastAt}
use Rattle.exact_sums.proofs.ItemFacts.{All-item}
use Rattle.flow_types.specs.declared.bound.PriceKey.{PriceKey}
use Rattle.flow_types.specs.declared.bound.PriceKind.TheVariants.{Capacity, Connection as Connected}
use Rattle.flow_types.specs.declared.flight.Connection.{Connection}
use Rattle.flow_types.specs.declared.flight.Flight.{Flight}
use Rattle.flow_types.specs.declared.parts.Parts.{Parts}
use Rattle.flow_types.specs.declared.place.CapKind.TheVariants as kind
use Rattle.flow_types.specs.declared.plan.Stop.{Stop}
use Rattle.flow_types.specs.Costs.{times_cost}
use Rattle.flow_types.specs.Trips.{IsOnward, arrival_from, place_at}
use Rattle.flow_types.specs.Valid.{IsFlight, IsScenario}
use Rattle.flow_types.proofs.CostFacts.{credit_at-within, total_at-within}
use Rattle.flow_types.proofs.PlaceFacts.{has_kind-within}
use Rattle.flight_routes.specs.Inside.{IsTripIn}
use Rattle.flight_routes.specs.Prices.{PriceTable, key_in, price_at, price_in, priced_cost, priced_cost_of, stay_price, stays_price, summed, turns_back, turns_paid}
use Rattle.exact_sums.specs.Near.{IsNear}
use Rattle.flight_routes.proofs.TripFacts.{in_day}
use Rattle.time_windows.specs.Boxes.{Box}
use Rattle.priced_plans.specs.Values.{IsPricedSum}
use Rattle.exact_sums.specs.Sums.{plus}
use Rattle.plan_rules.specs.Tally.{Tally}
use Rattle.plan_rules.specs.Loads.{AreLoads, no_trips}
use Rattle.priced_plans.specs.Keys.{IsKeyFor}
use Rattle.priced_plans.proofs.NodeFacts.{place_there}
use Rattle.lagrange_bound.specs.Rounds.{cost_weight}
use Rattle.lagrange_bound.specs.Taking.{HaveTaken, IsTakenSum}
use Rattle.lagrange_bound.proofs.TakeFacts.{none_taken}

-- the most that a price is, here
abbrev top : ℕ
top = 2305843009213693952

range_low : (price : ℕ → ℕ) (from n : ℕ)
    → ((t : ℕ) → from ≤ t → t < from + n → price t ≤ top)
    → sum_by price (range_with_len from n) ≤ top * n
range_low price from zero low = omega arith
range_low price from (suc n) low =
    let more = range_low price (from + 1) n
    (λ t past before. low t (omega (arith, past)) (omega (arith, before))) in
    let first = low from (omega arith) (omega arith) in
    let split = sum_by-cons price from (range_with_len (from + 1) n) in
    omega (arith, more, first, split)

summed_low : (price : ℕ → ℕ) (from to : ℕ) → ((t : ℕ) → t < to → price t ≤ top)
    → summed price from to ≤ top * (to - from)
summed_low price from to low =
    range_low price from (to - from) (λ t past before. low t (omega (arith, past, before)))

module _ (parts : Parts) (table : PriceTable) (valid : IsScenario parts)
    (low : (k : PriceKey) → IsKeyFor parts k → price_at table k ≤ top) where
  stay_low : (flight : Flight) (stop : Stop) (leaves : ℕ) (origin : Bool)
      → IsFlight parts.day.periods parts.places parts.tables flight
      → leaves < parts.day.periods
      → (if origin then 0
      else summed (price_in table.inside (place_at flight stop.node)) stop.time leaves)
      ≤ top * (leaves - stop.time)
  stay_low flight stop leaves true is day = omega arith
  stay_low flight stop leaves false is day =
      summed_low (price_in table.inside (place_at flight stop.node)) stop.time leaves
      (λ t before. low (key_in (Capacity kind.Sector) (place_at flight stop.node) t)
      (place_there parts flight is stop.node, omega (arith, before, day)))

  -- stays pay for no more periods than the trip takes
  stays_low : (flight : Flight) (stop : Stop) (rest : List Stop)
      → IsFlight parts.day.periods parts.places parts.tables flight
      → stop.time < parts.day.periods → IsOnward parts.day.periods flight stop rest
      → (stays_price table flight stop rest + top * stop.time ≤ top * arrival_from stop rest)
      × (arrival_from stop rest < parts.day.periods)
  stays_low flight stop [] is day onward = (omega arith, day)
  stays_low flight stop (next ∷ rest) is day onward =
      let step : stop.time + onward.0.1.least ≤ next.time = onward.0.4.least in
      let here = in_day parts.day.periods flight next valid.day.periods_from onward.1 in
      let first : stay_price table flight stop next.time ≤ top * (next.time - stop.time) =
      stay_low flight stop next.time (stop.node == 0) is here in
      let more = stays_low flight next rest is here onward.2 in
      (omega (arith, first, more.0, step), more.1)

  turn_low : (k from : ℕ) (mine : Bool) → k < length parts.connections
      → (if mine then summed (price_in table.turns k) from parts.day.periods else 0)
      ≤ top * 512
  turn_low k from true within =
      let sum = summed_low (price_in table.turns k) from parts.day.periods
      (λ t before. low (key_in Connected k t) (within, before)) in
      omega (arith, sum, valid.day.periods_to)
  turn_low k from false within = omega arith

  paid_low : (number leaves k : ℕ) (connections : List Connection)
      → k + length connections ≤ length parts.connections
      → turns_paid table parts.day.periods number leaves k connections
      ≤ top * 512 * length connections
  paid_low number leaves k [] within = omega arith
  paid_low number leaves k (connection ∷ connections) within =
      let first = turn_low k leaves (connection.second == number) (omega (arith, within)) in
      let more = paid_low number leaves (k + 1) connections (omega (arith, within)) in
      omega (arith, first, more)

  back_low : (number arrives k : ℕ) (connections : List Connection)
      → k + length connections ≤ length parts.connections
      → turns_back table parts.day.periods number arrives k connections
      ≤ top * 512 * length connections
  back_low number arrives k [] within = omega arith
  back_low number arrives k (connection ∷ connections) within =
      let first = turn_low k (arrives + connection.turnaround) (connection.first == number)
      (omega (arith, within)) in
      let more = back_low number arrives (k + 1) connections (omega (arith, within)) in
      omega (arith, first, more)

  times_near : (cost : ℤ) (more less : ℕ) → IsNear 200000000000 cost
      → more ≤ 2 ^ 83 → less ≤ 2 ^ 83
      → IsNear (2 ^ 84) (pos 1024 *ℤ cost +ℤ (pos more -ℤ pos less))
  times_near (pos cost) more less near few back =
      let high = near.high in
      record { low = omega (arith, ints, high, few, back); high = omega (arith, ints, high, few) }
  times_near (negsuc cost) more less near few back =
      let low = near.low in
      record { low = omega (arith, ints, low, few, back); high = omega (arith, ints, low, few) }

  trip_near : (box : Box) (number : ℕ) (stops : List Stop) → IsTripIn parts box number stops
      → IsNear (2 ^ 84) (priced_cost 1024 table parts number stops)
  trip_near box number [] is = absurd is.trip
  trip_near box number (stop ∷ rest) is =
      let flight = is.flight in
      let good : IsFlight parts.day.periods parts.places parts.tables flight =
      All-item (IsFlight parts.day.periods parts.places parts.tables) parts.flights number
      flight valid.flights.each is.there in
      let leaves = in_day parts.day.periods flight stop valid.day.periods_from is.trip.1 in
      let stays = stays_low flight stop rest good leaves is.trip.2 in
      let arrives : arrival_from stop rest < parts.day.periods = stays.1 in
      let paid = total_at-within parts number (arrival_from stop rest - flight.sa) (Some flight)
      valid is.there (omega (arith, arrives, valid.day.periods_to)) in
      let saved = credit_at-within parts number (stop.time - flight.sd) (Some flight) valid
      is.there (omega (arith, leaves, valid.day.periods_to)) in
      let near : IsNear 200000000000
      (times_cost parts.tables flight stop.time (arrival_from stop rest)) = record {
        low = omega (arith, ints, paid.low, saved.high);
        high = omega (arith, ints, paid.high, saved.low);
      } in
      let from = low (key_in (Capacity kind.Dep) flight.from stop.time)
      (has_kind-within kind.Dep parts.places flight.from good.origin, leaves) in
      let to = low (key_in (Capacity kind.Arr) flight.to (arrival_from stop rest))
      (has_kind-within kind.Arr parts.places flight.to good.destination, arrives) in
      let turns = paid_low number stop.time 0 parts.connections (omega arith) in
      let back = back_low number (arrival_from stop rest) 0 parts.connections (omega arith) in
      subst (λ (f : Option Flight). IsNear (2 ^ 84)
      (priced_cost_of 1024 table parts number f (stop ∷ rest))) (sym is.there)
      (times_near (times_cost parts.tables flight stop.time (arrival_from stop rest))
      (price_in table.departures flight.from stop.time + stays_price table flight stop rest
      + turns_paid table parts.day.periods number stop.time 0 parts.connections
      + price_in table.arrivals flight.to (arrival_from stop rest))
      (turns_back table parts.day.periods number (arrival_from stop rest) 0 parts.connections)
      near
      (omega (
        arith,
        from,
        to,
        stays.0,
        arrives,
        turns,
        valid.day.periods_to,
        valid.connections.few,
      ))
      (omega (arith, back, valid.connections.few)))

  pub least_near : (box : Box) (number : ℕ) (least : ℤ)
      → IsLeastAt (IsTripIn parts box number) (priced_cost 1024 table parts number) least
      → IsNear (2 ^ 84) least
  least_near box number least at =
      subst (IsNear (2 ^ 84)) at.reached.2
      (trip_near box number at.reached.0 at.reached.1)

  pub cost_near : (box : Box) (number : ℕ) (cost : Option ℤ)
      → IsLeast (IsTripIn parts box number) (priced_cost 1024 table parts number) cost
      → IfSome cost (IsNear (2 ^ 84))
  cost_near box number None is = tt
  cost_near box number (Some least) is = least_near box number least is

  -- one flight more
  pub sum_more : (box : Box) (number : ℕ) (old new : Tally) (sum cost : Option ℤ)
      → number < length parts.flights → IsTakenSum parts box table number old sum
      → IsLeast (IsTripIn parts box number) (priced_cost 1024 table parts number) cost
      → (HaveTaken parts box table number old
      → IfSome cost (λ least. HaveTaken parts box table (number + 1) new))
      → IsTakenSum parts box table (number + 1) new (plus sum cost)
  sum_more box number old new None cost within before is taken = before
  sum_more box number old new (Some sum) None within before is taken =
      record { number = number; within = within; none = is }
  sum_more box number old new (Some sum) (Some least) within before is taken =
      let near = least_near box number least is in
      let grown : (number + 1) * 2 ^ 84 ≡ number * 2 ^ 84 + 2 ^ 84 = omega arith in
      record {
        trips = taken before.trips;
        priced = subst (λ n. IsPricedSum parts box cost_weight table n (sum +ℤ least)) (next number)
            (sum, least, before.priced, is, refl);
        near = record {
          low = omega (arith, ints, near.low, before.near.low, grown);
          high = omega (arith, ints, near.high, before.near.high, grown);
        };
      }
    where
      next : (n : ℕ) → suc n ≡ n + 1
      next n = omega arith

pub sum_none : (parts : Parts) (box : Box) (table : PriceTable) (loads : Tally)
    → AreLoads parts (no_trips parts) loads
    → IsTakenSum parts box table 0 loads (Some (pos 0))
sum_none parts box table loads counted = record {
  trips = none_taken parts box table loads counted;
  priced = refl;
  near = record { low = omega (arith, ints); high = omega (arith, ints) };
}

pub sum_near : (parts : Parts) (box : Box) (table : PriceTable) (number : ℕ) (loads : Tally)
    (sum : Option ℤ) → number ≤ 2000 → IsTakenSum parts box table number loads sum
    → IfSome sum (IsNear (2 ^ 100))
sum_near parts box table number loads None few is = tt
sum_near parts box table number loads (Some sum) few is =
    let low = is.near.low in
    let high = is.near.high in
    record { low = omega (arith, ints, low, few); high = omega (arith, ints, high, few) }
