-- How far from zero a trip costs with its prices, and the least of each flight added up.
use Rattle.std.proofs.Common.{◌≡◌, ◌^◌, IfSome, ℕ, zero, suc, ◌+◌, ◌-◌, ◌*◌, ◌<◌, ◌≤◌, ◌==◌, Bool, true, false, if◌then◌else◌, List, [], ◌∷◌, length, slice_get, Option, None, Some, sum_by, ℤ, ◌+ℤ◌, refl, sym, subst, arith}
use Rattle.std.specs.List.{range_with_len}
use Rattle.std.proofs.lemmas.Bool.Decides.{nat_tests}
use Rattle.std.proofs.lemmas.Int.{ints}
use Rattle.std.proofs.lemmas.List.Sums.{sum_by-cons}
use Rattle.exact_sums.specs.Leasts.{IsLeast, IsLeastAt}
use Rattle.exact_sums.proofs.ItemFacts.{All-item}
use Rattle.exact_sums.proofs.ProductFacts.{times-within}
use Rattle.flow_types.specs.declared.bound.PriceKind.{PriceKind}
use Rattle.flow_types.specs.declared.bound.PriceKind.TheVariants.{Capacity, Connection as Connected}
use Rattle.flow_types.specs.declared.flight.Connection.{Connection}
use Rattle.flow_types.specs.declared.flight.Flight.{Flight}
use Rattle.flow_types.specs.declared.parts.Parts.{Parts}
use Rattle.flow_types.specs.declared.place.CapKind.TheVariants as kind
use Rattle.flow_types.specs.declared.plan.Stop.{Stop}
use Rattle.flow_types.specs.Costs.{trip_cost}
use Rattle.flow_types.specs.Trips.{IsOnward, IsTrip, arrival_from, place_at}
use Rattle.flow_types.specs.Valid.{IsFlight, IsScenario}
use Rattle.flow_types.proofs.CostFacts.{credit_at-within, total_at-within}
use Rattle.flow_types.proofs.PlaceFacts.{has_kind-within}
use Rattle.flight_routes.specs.Inside.{IsTripIn}
use Rattle.flight_routes.specs.Prices.{ArePricesOf, PriceTable, block_of, key_in, price_in, priced_cost, priced_cost_of, row_count, stay_price, stays_price, summed, turns_back, turns_paid}
use Rattle.exact_sums.specs.Near.{IsNear}
use Rattle.flight_routes.proofs.TripFacts.{in_day, step_up}
use Rattle.time_windows.specs.Boxes.{Box}
use Rattle.priced_plans.specs.Values.{IsPricedSum}
use Rattle.priced_plans.specs.Valuing.{AreSmall, LacksTrip}
use Rattle.exact_sums.specs.Sums.{plus}
use Rattle.priced_plans.proofs.KeyFacts.{key_of}

-- a sum of so many numbers, none of them greater than this
range-few : (f : ℕ → ℕ) (most from n : ℕ)
    → ((t : ℕ) → from ≤ t → t < from + n → f t ≤ most)
    → sum_by f (range_with_len from n) ≤ n * most
range-few f most from zero each = omega arith
range-few f most from (suc n) each =
    let here : f from ≤ most = each from (omega arith) (omega arith) in
    let rest = range-few f most (from + 1) n
    (λ t after before. each t (omega (arith, after)) (omega (arith, before))) in
    let grown : suc n * most ≡ n * most + most = omega arith in
    omega (arith, here, rest, grown, sum_by-cons f from (range_with_len (from + 1) n))

chosen-few : (b : Bool) (x most : ℕ) → x ≤ most → (if b then x else 0) ≤ most
chosen-few true x most few = few
chosen-few false x most few = omega arith

-- prices of the periods of a day
summed-few : (price : ℕ → ℕ) (from to : ℕ) → to ≤ 512 → ((t : ℕ) → t < to → price t < 2 ^ 62)
    → summed price from to ≤ 2 ^ 71
summed-few price from to few each =
    let by = range-few price (2 ^ 62) from (to - from)
    (λ t after before. omega (arith, each t (omega (arith, after, before)))) in
    omega (arith, by, few)

module _ (parts : Parts) (table : PriceTable) (valid : IsScenario parts)
    (sized : ArePricesOf parts table) (small : AreSmall table) where
  price-small : (kind : PriceKind) (k t : ℕ) → k < row_count parts kind → t < parts.day.periods
      → price_in (block_of kind table) k t < 2 ^ 62
  price-small kind k t within day =
      small (key_in kind k t) (key_of parts table (key_in kind k t) sized (within, day))

  -- what a flight pays for its connections, and is paid back
  turn-few : (k from : ℕ) → k < length parts.connections
      → summed (price_in table.turns k) from parts.day.periods ≤ 2 ^ 71
  turn-few k from within =
      summed-few (price_in table.turns k) from parts.day.periods valid.day.periods_to
      (λ t day. price-small Connected k t within day)

  paid-few : (number leaves k : ℕ) (connections : List Connection)
      → k + length connections ≤ length parts.connections
      → turns_paid table parts.day.periods number leaves k connections
      ≤ length connections * 2 ^ 71
  paid-few number leaves k [] within = omega arith
  paid-few number leaves k (connection ∷ connections) within =
      let here = chosen-few (connection.second == number)
      (summed (price_in table.turns k) leaves parts.day.periods) (2 ^ 71)
      (turn-few k leaves (omega (arith, within))) in
      let rest = paid-few number leaves (k + 1) connections (omega (arith, within)) in
      omega (arith, here, rest)

  back-few : (number arrives k : ℕ) (connections : List Connection)
      → k + length connections ≤ length parts.connections
      → turns_back table parts.day.periods number arrives k connections
      ≤ length connections * 2 ^ 71
  back-few number arrives k [] within = omega arith
  back-few number arrives k (connection ∷ connections) within =
      let here = chosen-few (connection.first == number)
      (summed (price_in table.turns k) (arrives + connection.turnaround) parts.day.periods)
      (2 ^ 71) (turn-few k (arrives + connection.turnaround) (omega (arith, within))) in
      let rest = back-few number arrives (k + 1) connections (omega (arith, within)) in
      omega (arith, here, rest)

  module _ (flight : Flight)
      (is : IsFlight parts.day.periods parts.places parts.tables flight) where
    -- what it pays in sectors
    stay-few : (stop : Stop) (leaves : ℕ) → stop.node + 1 < length flight.nodes
        → leaves < parts.day.periods → stay_price table flight stop leaves ≤ 2 ^ 71
    stay-few stop leaves inner day = by (stop.node == 0) refl where
      by : (b : Bool) → (stop.node == 0) ≡ b
          → (if b then 0
          else summed (price_in table.inside (place_at flight stop.node)) stop.time leaves)
          ≤ 2 ^ 71
      by true at = omega arith
      by false at =
          let after : 0 < stop.node = grind (arith, nat_tests) in
          let place = has_kind-within kind.Sector parts.places (place_at flight stop.node)
          (is.route.sectors stop.node after inner) in
          summed-few (price_in table.inside (place_at flight stop.node)) stop.time leaves
          (omega (arith, day, valid.day.periods_to))
          (λ t before. price-small (Capacity kind.Sector) (place_at flight stop.node) t place
          (omega (arith, day, before)))

    stays-few : (stop : Stop) (rest : List Stop) → IsOnward parts.day.periods flight stop rest
        → stays_price table flight stop rest + stop.node * 2 ^ 71
        ≤ length flight.nodes * 2 ^ 71
    stays-few stop [] onward = omega (arith, onward)
    stays-few stop (next ∷ rest) onward =
        let up = step_up flight is.route.each_leg stop next onward.0 in
        let day = in_day parts.day.periods flight next valid.day.periods_from onward.1 in
        let here = stay-few stop next.time (omega (arith, up.0, up.1)) day in
        let later = stays-few next rest onward.2 in
        omega (arith, here, later, up.0)

    arrives-day : (stop : Stop) (rest : List Stop) → stop.time < parts.day.periods
        → IsOnward parts.day.periods flight stop rest
        → arrival_from stop rest < parts.day.periods
    arrives-day stop [] day onward = day
    arrives-day stop (next ∷ rest) day onward =
        arrives-day next rest
        (in_day parts.day.periods flight next valid.day.periods_from onward.1) onward.2

  module _ (weight : ℕ) (light : weight < 2 ^ 62) (box : Box) where
    near_by : (number : ℕ) (flight : Flight) (stops : List Stop)
        → slice_get parts.flights number ≡ Some flight
        → IsTrip parts.day.periods flight stops
        → IsNear (2 ^ 101) (priced_cost_of weight table parts number (Some flight) stops)
    near_by number flight [] there trip = absurd trip
    near_by number flight (stop ∷ rest) there trip =
        let is = All-item (IsFlight parts.day.periods parts.places parts.tables) parts.flights
        number flight valid.flights.each there in
        let leaves = in_day parts.day.periods flight stop valid.day.periods_from trip.1 in
        let arrives = arrives-day flight is stop rest leaves trip.2 in
        let total = total_at-within parts number (arrival_from stop rest - flight.sa) (Some flight)
        valid there (omega (arith, arrives, valid.day.periods_to)) in
        let credit = credit_at-within parts number (stop.time - flight.sd) (Some flight) valid there
        (omega (arith, leaves, valid.day.periods_to)) in
        let cost = times-within weight (2 ^ 62) 200000000000
        (trip_cost parts.tables flight (stop ∷ rest)) (omega (arith, light))
        (omega (arith, ints, total.low, credit.high))
        (omega (arith, ints, total.high, credit.low)) in
        let departs = price-small (Capacity kind.Dep) flight.from stop.time
        (has_kind-within kind.Dep parts.places flight.from is.origin) leaves in
        let lands = price-small (Capacity kind.Arr) flight.to (arrival_from stop rest)
        (has_kind-within kind.Arr parts.places flight.to is.destination) arrives in
        let stays = stays-few flight is stop rest trip.2 in
        let paid = paid-few number stop.time 0 parts.connections (omega arith) in
        let back = back-few number (arrival_from stop rest) 0 parts.connections (omega arith) in
        record {
          low = omega (arith, ints, cost.0, back, valid.connections.few);
          high = omega (
            arith,
            ints,
            cost.1,
            departs,
            lands,
            stays,
            is.route.nodes_to,
            paid,
            valid.connections.few,
          );
        }

    trip-near : (number : ℕ) (stops : List Stop) → IsTripIn parts box number stops
        → IsNear (2 ^ 101) (priced_cost weight table parts number stops)
    trip-near number stops is =
        subst (λ f. IsNear (2 ^ 101) (priced_cost_of weight table parts number f stops))
        (sym is.there) (near_by number is.flight stops is.there is.trip)

    least-near : (number : ℕ) (least : ℤ)
        → IsLeastAt (IsTripIn parts box number) (priced_cost weight table parts number) least
        → IsNear (2 ^ 101) least
    least-near number least at =
        subst (IsNear (2 ^ 101)) at.reached.2
        (trip-near number at.reached.0 at.reached.1)

    pub least_small : (number : ℕ) (least : Option ℤ)
        → IsLeast (IsTripIn parts box number) (priced_cost weight table parts number) least
        → IfSome least (IsNear (2 ^ 120))
    least_small number None is = tt
    least_small number (Some least) is =
        let near = least-near number least is in
        record { low = omega (arith, ints, near.low); high = omega (arith, ints, near.high) }

-- so many flights
pub record IsSumTo (parts : Parts) (box : Box) (weight : ℕ) (table : PriceTable) (count : ℕ)
    (sum : ℤ) : Type 0 where
  pub is : IsPricedSum parts box weight table count sum
  pub near : IsNear (count * 2 ^ 101) sum

-- the sum so far, where each flight so far has a trip
abbrev pub IsPartSum : Parts → Box → ℕ → PriceTable → ℕ → Option ℤ → Type 0
IsPartSum parts box weight table count None = LacksTrip parts box
IsPartSum parts box weight table count (Some sum) = IsSumTo parts box weight table count sum

pub part_more : (parts : Parts) (box : Box) (weight count : ℕ) (table : PriceTable)
    (sum cost both : Option ℤ) → both ≡ plus sum cost → IsScenario parts
    → ArePricesOf parts table → AreSmall table → weight < 2 ^ 62 → count < length parts.flights
    → IsPartSum parts box weight table count sum
    → IsLeast (IsTripIn parts box count) (priced_cost weight table parts count) cost
    → IsPartSum parts box weight table (count + 1) both
part_more parts box weight count table None cost both same valid sized small light within before
    is = subst (IsPartSum parts box weight table (count + 1)) (sym same) before
part_more parts box weight count table (Some sum) None both same valid sized small light within
    before is =
    subst (IsPartSum parts box weight table (count + 1)) (sym same)
    (record { number = count; within = within; none = is })
part_more parts box weight count table (Some sum) (Some cost) both same valid sized small light
    within before is =
    let near = least-near parts table valid sized small weight light box count cost is in
    subst (IsPartSum parts box weight table (count + 1)) (sym same)
    (subst (λ n. IsSumTo parts box weight table n (sum +ℤ cost)) (one_more count)
    (record {
      is = (sum, cost, before.is, is, refl);
      near = record {
        low = omega (arith, ints, near.low, before.near.low);
        high = omega (arith, ints, near.high, before.near.high);
      };
    }))
  where
    one_more : (n : ℕ) → suc n ≡ n + 1
    one_more n = omega arith
