-- What all flights cost alone is no more than what any plan costs.
use Rattle.std.proofs.Common.{◌≡◌, ◌^◌, IfSome, ℕ, zero, suc, ◌+◌, ◌-◌, ◌*◌, ◌<◌, ◌≤◌, List, [], ◌∷◌, get_or, length, slice_get, Option, Some, None, ℤ, pos, ◌+ℤ◌, ◌≤ℤ◌, refl, sym, ap, ◌∙◌, subst, arith}
use Rattle.std.specs.List.{range_with_len}
use Rattle.std.proofs.lemmas.Int.{ints}
use Rattle.std.proofs.lemmas.Option.{get_or_from_slice_get}
use Rattle.exact_sums.specs.Leasts.{IsLeast, IsLeastAt}
use Rattle.exact_sums.specs.Sums.{total, plus}
use Rattle.exact_sums.proofs.RangeFacts.{total_next}
use Rattle.exact_sums.proofs.LeastFacts.{least_said}
use Rattle.exact_sums.specs.Near.{IsNear}
use Rattle.flow_types.specs.declared.bound.Bound.{Bound}
use Rattle.flow_types.specs.declared.bound.Bound.TheVariants.{AtLeast, NoPlan}
use Rattle.flow_types.specs.declared.flight.CostTable.{CostTable}
use Rattle.flow_types.specs.declared.flight.Flight.{Flight}
use Rattle.flow_types.specs.declared.parts.Parts.{Parts}
use Rattle.flow_types.specs.declared.plan.Stop.{Stop}
use Rattle.flow_types.specs.Costs.{plan_cost, trip_cost_at}
use Rattle.flow_types.specs.Feasible.{AreTrips}
use Rattle.flow_types.specs.Trips.{IsOnward, arrival_from}
use Rattle.flow_types.specs.Valid.{IsScenario}
use Rattle.flow_types.proofs.CostFacts.{credit_at-within, total_at-within}
use Rattle.plan_rules.proofs.TripFacts.{AreTrips-length}
use Rattle.flight_routes.specs.Inside.{IsTripIn}
use Rattle.flight_routes.specs.Prices.{AreFree, PriceTable, priced_cost}
use Rattle.flight_routes.proofs.FreeFacts.{free_cost}
use Rattle.flight_routes.proofs.TripFacts.{in_day}
use Rattle.flight_routes.proofs.InsideFacts.{trip_inside}
use Rattle.time_windows.specs.Boxes.{Box, IsInBox}
use Rattle.time_windows.specs.Plans.{AreTripsIn}
use Rattle.flow_types.specs.Bounds.{IsLowerBound}
use Rattle.greedy_plan.specs.FirstBound.{HasNoTrip, IsFirstBound, IsLeastSum}

-- what a plan costs, by what the trip of each flight does
plan_cost_is : (tables : List CostTable) (cost : ℕ → ℤ) (from : ℕ) (flights : List Flight)
    (plan : List (List Stop)) → length plan ≡ length flights
    → ((k : ℕ) → cost (from + k) ≡ trip_cost_at tables (slice_get flights k) (get_or plan k []))
    → total cost (range_with_len from (length flights)) ≡ plan_cost tables flights plan
plan_cost_is tables cost from [] plan long each = refl
plan_cost_is tables cost from (flight ∷ flights) [] long each = absurd (omega (arith, long))
plan_cost_is tables cost from (flight ∷ flights) (trip ∷ plan) long each =
    let here = ap cost (first from) ∙ each 0 in
    let later = plan_cost_is tables cost (from + 1) flights plan (omega (arith, long))
    (λ k. ap cost (next from k) ∙ each (suc k)) in
    omega (arith, ints, here, later)
  where
    first : (n : ℕ) → n ≡ n + 0
    first n = omega arith

    next : (n k : ℕ) → n + 1 + k ≡ n + suc k
    next n k = omega arith

module _ (parts : Parts) (box : Box) where
  none_bound : (number : ℕ) → HasNoTrip parts box number → (plan : List (List Stop))
      → AreTrips parts.day.periods parts.flights plan → IsInBox box plan → ⊥
  none_bound number none plan trips inside =
      let trip = trip_inside parts box plan trips inside number none.within in
      none.none trip.0 trip.2

  sum_below : (plan : List (List Stop)) → AreTrips parts.day.periods parts.flights plan
      → IsInBox box plan → (n : ℕ)
      → n ≤ length parts.flights → (sum : ℤ) → IsLeastSum parts box n sum
      → sum ≤ℤ total (λ k. trip_cost_at parts.tables (slice_get parts.flights k) (get_or plan k []))
      (range_with_len 0 n)
  sum_below plan trips inside zero upto sum is = omega (arith, ints, is)
  sum_below plan trips inside (suc n) upto sum is =
      let cost = λ (k : ℕ).
      trip_cost_at parts.tables (slice_get parts.flights k) (get_or plan k []) in
      let before = sum_below plan trips inside n (omega (arith, upto)) is.0 is.2 in
      let trip = trip_inside parts box plan trips inside n (omega (arith, upto)) in
      let at : get_or plan n [] ≡ trip.0 = get_or_from_slice_get plan n trip.0 [] trip.1 in
      let least = is.3.below trip.0 trip.2 in
      let here : is.1 ≤ℤ cost n =
      subst (λ t. is.1 ≤ℤ trip_cost_at parts.tables (slice_get parts.flights n) t) (sym at) least in
      let next : suc n ≡ n + 1 = omega arith in
      let more = ap (λ m. total cost (range_with_len 0 m)) next ∙ total_next cost n in
      omega (arith, ints, before, here, more, is.4)

  least_bound : (sum : ℤ) → IsLeastSum parts box (length parts.flights) sum
      → (plan : List (List Stop)) → AreTrips parts.day.periods parts.flights plan
      → IsInBox box plan → sum ≤ℤ plan_cost parts.tables parts.flights plan
  least_bound sum is plan trips inside =
      let below = sum_below plan trips inside (length parts.flights) (omega arith) sum is in
      let same = plan_cost_is parts.tables
      (λ k. trip_cost_at parts.tables (slice_get parts.flights k) (get_or plan k [])) 0
      parts.flights plan (AreTrips-length parts.day.periods parts.flights plan trips)
      (λ k. ap (λ m. trip_cost_at parts.tables (slice_get parts.flights m) (get_or plan m []))
      (zero_plus k)) in
      subst (λ c. sum ≤ℤ c) same below
    where
      zero_plus : (k : ℕ) → 0 + k ≡ k
      zero_plus k = omega arith

  pub is_bound : (bound : Bound) → IsFirstBound parts box bound
      → IsLowerBound parts (AreTripsIn parts box) bound
  is_bound NoPlan is = λ plan are. none_bound is.0 is.1 plan are.trips are.inside
  is_bound (AtLeast least) is = λ plan are. least_bound least is plan are.trips are.inside

-- how far from zero a trip costs
arrives_in_day : (periods : ℕ) (flight : Flight) (stop : Stop) (rest : List Stop) → 1 ≤ periods
    → stop.time < periods → IsOnward periods flight stop rest → arrival_from stop rest < periods
arrives_in_day periods flight stop [] some day onward = day
arrives_in_day periods flight stop (next ∷ rest) some day onward =
    arrives_in_day periods flight next rest some (in_day periods flight next some onward.1) onward.2

cost_near : (parts : Parts) (box : Box) (number : ℕ) (stops : List Stop) → IsScenario parts
    → IsTripIn parts box number stops
    → IsNear 200000000000 (trip_cost_at parts.tables (slice_get parts.flights number) stops)
cost_near parts box number [] valid is = absurd is.trip
cost_near parts box number (stop ∷ rest) valid is =
    let flight = is.flight in
    let leaves = in_day parts.day.periods flight stop valid.day.periods_from is.trip.1 in
    let arrives = arrives_in_day parts.day.periods flight stop rest valid.day.periods_from leaves
    is.trip.2 in
    let paid = total_at-within parts number (arrival_from stop rest - flight.sa) (Some flight) valid
    is.there (omega (arith, arrives, valid.day.periods_to)) in
    let saved = credit_at-within parts number (stop.time - flight.sd) (Some flight) valid
    is.there (omega (arith, leaves, valid.day.periods_to)) in
    subst (λ f. IsNear 200000000000 (trip_cost_at parts.tables f (stop ∷ rest))) (sym is.there)
    (record {
      low = omega (arith, ints, paid.low, saved.high);
      high = omega (arith, ints, paid.high, saved.low);
    })

-- the least of a flight's trips is near
least_near : (parts : Parts) (box : Box) (number : ℕ) (least : ℤ) → IsScenario parts
    → IsLeastAt (IsTripIn parts box number)
    (trip_cost_at parts.tables (slice_get parts.flights number)) least
    → IsNear 200000000000 least
least_near parts box number least valid at =
    subst (IsNear 200000000000) at.reached.2
    (cost_near parts box number at.reached.0 valid at.reached.1)

-- so many flights, and one more
pub record IsSumTo (parts : Parts) (box : Box) (count : ℕ) (sum : ℤ) : Type 0 where
  pub is : IsLeastSum parts box count sum
  pub near : IsNear (count * 200000000000) sum

pub sum_none : (parts : Parts) (box : Box) → IsSumTo parts box 0 (pos 0)
sum_none parts box =
    record { is = refl; near = record { low = omega (arith, ints); high = omega (arith, ints) } }

-- least trips at no price cost their cost alone
pub free_least : (parts : Parts) (box : Box) (number : ℕ) (table : PriceTable)
    (least : Option ℤ) → AreFree table
    → IsLeast (IsTripIn parts box number) (priced_cost 1 table parts number) least
    → IsLeast (IsTripIn parts box number)
    (trip_cost_at parts.tables (slice_get parts.flights number)) least
free_least parts box number table least free =
    least_said (IsTripIn parts box number) (IsTripIn parts box number)
    (priced_cost 1 table parts number)
    (trip_cost_at parts.tables (slice_get parts.flights number))
    (λ stops is. (is, sym (free_cost table free parts number stops))) (λ stops is. is) least

pub sum_more : (parts : Parts) (box : Box) (count : ℕ) (sum least : ℤ) → IsScenario parts
    → IsSumTo parts box count sum
    → IsLeastAt (IsTripIn parts box count)
    (trip_cost_at parts.tables (slice_get parts.flights count)) least
    → IsSumTo parts box (suc count) (sum +ℤ least)
sum_more parts box count sum least valid before at =
    let near = least_near parts box count least valid at in
    let grown : suc count * 200000000000 ≡ count * 200000000000 + 200000000000 = omega arith in
    record {
      is = (sum, least, before.is, at, refl);
      near = record {
        low = omega (arith, ints, near.low, before.near.low, grown);
        high = omega (arith, ints, near.high, before.near.high, grown);
      };
    }

-- the sum so far, where each flight so far has a trip
abbrev pub IsPartSum : Parts → Box → ℕ → Option ℤ → Type 0
IsPartSum parts box count None = (number : ℕ) × HasNoTrip parts box number
IsPartSum parts box count (Some sum) = IsSumTo parts box count sum

pub part_more : (parts : Parts) (box : Box) (count : ℕ) (table : PriceTable) (sum cost : Option ℤ)
    → IsScenario parts → AreFree table → count < length parts.flights
    → IsPartSum parts box count sum
    → IsLeast (IsTripIn parts box count) (priced_cost 1 table parts count) cost
    → IsPartSum parts box (count + 1) (plus sum cost)
part_more parts box count table None cost valid free within before is = before
part_more parts box count table (Some sum) None valid free within before is =
    (count, record { within = within; none = is })
part_more parts box count table (Some sum) (Some cost) valid free within before is =
    subst (λ n. IsSumTo parts box n (sum +ℤ cost)) (one_more count)
    (sum_more parts box count sum cost valid before
    (free_least parts box count table (Some cost) free is))
  where
    one_more : (n : ℕ) → suc n ≡ n + 1
    one_more n = omega arith

pub part_near : (parts : Parts) (box : Box) (count : ℕ) (sum : Option ℤ) → count ≤ 2000
    → IsPartSum parts box count sum → IfSome sum (IsNear (2 ^ 120))
part_near parts box count None few is = tt
part_near parts box count (Some sum) few is = record {
  low = omega (arith, ints, is.near.low, few);
  high = omega (arith, ints, is.near.high, few);
}

pub cost_small : (parts : Parts) (box : Box) (count : ℕ) (table : PriceTable) (cost : Option ℤ)
    → IsScenario parts → AreFree table
    → IsLeast (IsTripIn parts box count) (priced_cost 1 table parts count) cost
    → IfSome cost (IsNear (2 ^ 120))
cost_small parts box count table None valid free is = tt
cost_small parts box count table (Some cost) valid free is =
    let near = least_near parts box count cost valid
    (free_least parts box count table (Some cost) free is) in
    record { low = omega (arith, ints, near.low); high = omega (arith, ints, near.high) }

pub part_bound : (parts : Parts) (box : Box) (least : ℤ)
    → IsPartSum parts box (length parts.flights) (Some least)
    → IsFirstBound parts box (AtLeast least)
part_bound parts box least is = is.is
