-- Rounds worked out on the day of two flights of which one may leave in a period. Without prices
-- both leave in the first period, and the bound is 0. So that period's departures pay 1024 after
-- one round, and the bound is 1, which is what the best plan costs.
use Rattle.std.proofs.Common.{◌≡◌, ◌⊎◌, ℕ, zero, suc, ◌+◌, ◌*◌, ◌<◌, ◌≤◌, Bool, false, true, nat_eq, List, [], ◌∷◌, replicate, slice_get, slice_index, Option, Some, ℤ, pos, negsuc, ◌+ℤ◌, ◌-ℤ◌, ◌*ℤ◌, ◌≤ℤ◌, inl, inr, refl, sym, ap, ap₂, subst, arith}
use Rattle.std.proofs.lemmas.Bool.{and_parts, cases_lt}
use Rattle.std.proofs.lemmas.Bool.Decides.{nat_tests}
use Rattle.std.proofs.lemmas.Int.{ints}
use Rattle.exact_sums.specs.Leasts.{IsLeastAt}
use Rattle.flow_types.specs.declared.bound.Bound.TheVariants.{AtLeast}
use Rattle.flow_types.specs.declared.bound.PriceKind.{PriceKind}
use Rattle.flow_types.specs.declared.bound.PriceKind.TheVariants.{Capacity, Connection as Connected}
use Rattle.flow_types.specs.declared.flight.Cost.TheVariants.{Linear}
use Rattle.flow_types.specs.declared.flight.Flight.{Flight}
use Rattle.flow_types.specs.declared.flight.Leg.{Leg}
use Rattle.flow_types.specs.declared.parts.Parts.{Parts}
use Rattle.flow_types.specs.declared.plan.Stop.{Stop}
use Rattle.flow_types.specs.declared.place.CapKind.TheVariants as cap
use Rattle.flow_types.specs.Costs.{times_cost}
use Rattle.flow_types.specs.Trips.{IsOnward, IsStep, IsTrip}
use Rattle.flight_routes.specs.Inside.{IsTripIn}
use Rattle.flight_routes.specs.Prices.{AreFree, ArePricesOf, Block, PriceTable, block_of, key_in, price_at, price_in, priced_cost, priced_cost_of, row_count, stays_price}
use Rattle.flight_routes.specs.TripOrder.{IsNoLater}
use Rattle.time_windows.specs.Boxes.{Box}
use Rattle.worked_days.specs.Days.{beside, flight_with, legs_with, plan_with, stop_at, there, trip_at, two_flights}
use Rattle.worked_days.proofs.WorkedDay.{all_below}
use Rattle.priced_plans.specs.Values.{IsPricedValue, limit_price}
use Rattle.priced_plans.specs.PricedBound.{IsRoundedUp}
use Rattle.priced_plans.specs.Usage.{traffic_of}
use Rattle.priced_plans.proofs.WorkedPrices.{on_time as trip_on_time}
use Rattle.lagrange_bound.specs.Rounds.{AreLeastTrips, IsLeastTrip, IsMovedBy, IsRoundBound, IsRoundStep, IsRoundTable, moved_price}

abbrev two : Parts
two = two_flights 1 9 9

-- every period is open at every node
abbrev all_open : Box
all_open flight node = record { window = Some (record { lo = 0; hi = 7 }); must = false }

-- prices of a departure from the first airport in the first period; the others are 0
abbrev no_prices : ℕ → Block
no_prices rows = record { rows = rows; periods = 8; prices = replicate (rows * 8) 0 }

abbrev table_with : ℕ → PriceTable
table_with first = record {
  departures = record { rows = 3; periods = 8; prices = first ∷ replicate 23 0 };
  arrivals = no_prices 3;
  inside = no_prices 3;
  turns = no_prices 0;
}

are_prices : (first : ℕ) → ArePricesOf two (table_with first)
are_prices first = record {
  departures = record { wide = refl; long = refl };
  arrivals = record { wide = refl; long = refl };
  inside = record { wide = refl; long = refl };
  turns = record { wide = refl; long = refl };
}

-- a flight scheduled as these are takes two periods
abbrev flight : List ℕ → Flight
flight name = flight_with name 0 1 0 (Linear 1 2)

-- from the origin it goes to the sector, and from there to the destination, which takes two periods
from_origin : (stop next : Stop) → stop.node ≡ 0 → IsStep (legs_with 2) stop next
    → (next.node ≡ 1) × (stop.time ≤ next.time)
from_origin stop next at (zero, leg, within, is, between) =
    let to = ap (λ (l : Leg). l.to) is in
    (omega (arith, to, between.to), omega (arith, between.least))
from_origin stop next at (suc zero, leg, within, is, between) =
    let from = ap (λ (l : Leg). l.from) is in
    absurd (omega (arith, at, from, between.from))
from_origin stop next at (suc (suc k), leg, within, is, between) = absurd (omega (arith, within))

from_sector : (stop next : Stop) → stop.node ≡ 1 → IsStep (legs_with 2) stop next
    → (next.node ≡ 2) × (stop.time + 2 ≤ next.time)
from_sector stop next at (zero, leg, within, is, between) =
    let from = ap (λ (l : Leg). l.from) is in
    absurd (omega (arith, at, from, between.from))
from_sector stop next at (suc zero, leg, within, is, between) =
    let to = ap (λ (l : Leg). l.to) is in
    let takes = ap (λ (l : Leg). l.least) is in
    (omega (arith, to, between.to), omega (arith, takes, between.least))
from_sector stop next at (suc (suc k), leg, within, is, between) = absurd (omega (arith, within))

no_further : (stop next : Stop) → stop.node ≡ 2 → IsStep (legs_with 2) stop next → ⊥
no_further stop next at (zero, leg, within, is, between) =
    let from = ap (λ (l : Leg). l.from) is in omega (arith, at, from, between.from)
no_further stop next at (suc zero, leg, within, is, between) =
    let from = ap (λ (l : Leg). l.from) is in omega (arith, at, from, between.from)
no_further stop next at (suc (suc k), leg, within, is, between) = omega (arith, within)

-- so each of its trips has three stops
abbrev three : ℕ → ℕ → ℕ → List Stop
three departs enters arrives = stop_at 0 departs ∷ stop_at 1 enters ∷ stop_at 2 arrives ∷ []

record IsThrough (stops : List Stop) (departs enters arrives : ℕ) : Type 0 where
  is : stops ≡ three departs enters arrives
  long : departs + 2 ≤ arrives

the_stop : (stop : Stop) (node : ℕ) → stop.node ≡ node → stop ≡ stop_at node stop.time
the_stop stop node at = ap₂ stop_at at refl

at_end : (name : List ℕ) (stop : Stop) (rest : List Stop) → stop.node ≡ 2
    → IsOnward 8 (flight name) stop rest → rest ≡ []
at_end name stop [] at onward = refl
at_end name stop (next ∷ rest) at onward = absurd (no_further stop next at onward.0)

is_through : (name : List ℕ) (stops : List Stop) → IsTrip 8 (flight name) stops
    → (departs : ℕ) × (enters : ℕ) × (arrives : ℕ) × IsThrough stops departs enters arrives
is_through name [] trip = absurd trip
is_through name (a ∷ []) trip = absurd (omega (arith, trip.0, trip.2))
is_through name (a ∷ b ∷ []) trip =
    let first = from_origin a b trip.0 trip.2.0 in
    absurd (omega (arith, first.0, trip.2.2))
is_through name (a ∷ b ∷ c ∷ rest) trip =
    let first = from_origin a b trip.0 trip.2.0 in
    let second = from_sector b c first.0 trip.2.2.0 in (
      a.time,
      b.time,
      c.time,
      record {
        is = ap₂ (λ s trip. s ∷ trip) (the_stop a 0 trip.0)
            (ap₂ (λ s trip. s ∷ trip) (the_stop b 1 first.0)
            (ap₂ (λ s trip. s ∷ trip) (the_stop c 2 second.0)
            (at_end name c rest second.0 trip.2.2.2)));
        long = omega (arith, first.1, second.1);
      },
    )

-- a trip costs as much as the price of the first departure, or departs late, which costs 1024
departs_dear : (first d : ℕ) → first ≤ 1024
    → first ≤ price_in (table_with first).departures 0 d + 1024 * d
departs_dear first zero low = omega arith
departs_dear first (suc d) low = omega (arith, low)

priced_more : (first d p s a : ℕ) (cost : ℤ) → pos d ≤ℤ cost → first ≤ p + 1024 * d
    → pos first ≤ℤ (pos 1024 *ℤ cost +ℤ (pos (p + s + 0 + a) -ℤ pos 0))
priced_more first d p s a (pos cost) late dear = omega (arith, ints, late, dear)
priced_more first d p s a (negsuc cost) late dear = absurd (omega (arith, ints, late))

late_costs : (name : List ℕ) (departs arrives : ℕ) → departs + 2 ≤ arrives
    → pos departs ≤ℤ times_cost [] (flight name) departs arrives
late_costs name departs arrives long = omega (arith, ints, long)

module _ (first : ℕ) (low : first ≤ 1024) (number : ℕ) (name : List ℕ)
    (is : slice_get two.flights number ≡ Some (flight name)) where
  abbrev cost_of : List Stop → ℤ
  cost_of = priced_cost_of 1024 (table_with first) two number (Some (flight name))

  through_costs : (d m a : ℕ) → d + 2 ≤ a → pos first ≤ℤ cost_of (three d m a)
  through_costs d m a long =
      priced_more first d (price_in (table_with first).departures 0 d)
      (stays_price (table_with first) (flight name) (stop_at 0 d)
      (stop_at 1 m ∷ stop_at 2 a ∷ [])) (price_in (table_with first).arrivals 1 a)
      (times_cost [] (flight name) d a) (late_costs name d a long) (departs_dear first d low)

  trip_costs : (stops : List Stop) → IsTrip 8 (flight name) stops → pos first ≤ℤ cost_of stops
  trip_costs stops trip =
      let (d, m, a, through) = is_through name stops trip in
      subst (λ stops. pos first ≤ℤ cost_of stops) (sym through.is)
      (through_costs d m a through.long)

  same_flight : (f : Flight) → slice_get two.flights number ≡ Some f → f ≡ flight name
  same_flight f here = cc

  trip_in : (stops : List Stop) → IsTripIn two all_open number stops → IsTrip 8 (flight name) stops
  trip_in stops inside =
      subst (λ (f : Flight). IsTrip 8 f stops) (same_flight inside.flight inside.there) inside.trip

  abbrev priced : List Stop → ℤ
  priced = priced_cost 1024 (table_with first) two number

  in_box_costs : (stops : List Stop) → IsTripIn two all_open number stops
      → pos first ≤ℤ priced stops
  in_box_costs stops inside =
      subst (λ (f : Option Flight). pos first ≤ℤ priced_cost_of 1024 (table_with first) two number
      f stops) (sym is) (trip_costs stops (trip_in stops inside))

  -- a flight on time is in the box, and pays the price
  on_time : IsTripIn two all_open number (trip_at 0 2)
  on_time = trip_on_time number name is

  on_time_costs : cost_of (trip_at 0 2) ≡ pos first
  on_time_costs = omega (arith, ints)

  on_time_priced : priced (trip_at 0 2) ≡ pos first
  on_time_priced =
      subst (λ (f : Option Flight). priced_cost_of 1024 (table_with first) two number f
      (trip_at 0 2) ≡ pos first) (sym is) on_time_costs

  least_is : IsLeastAt (IsTripIn two all_open number) priced (pos first)
  least_is =
      record { reached = (trip_at 0 2, on_time, on_time_priced); below = in_box_costs }

-- the trip on time is no later than any
goes_on : (node from time : ℕ) (rest others : List Stop) → from ≤ time → IsNoLater rest others
    → IsNoLater (stop_at node from ∷ rest) (stop_at node time ∷ others)
goes_on node from time rest others late more = by (cases_lt from time)
  where
    by : (from < time) ⊎ (time ≤ from)
        → IsNoLater (stop_at node from ∷ rest) (stop_at node time ∷ others)
    by (inl before) = inl (inr (refl, before))
    by (inr no_later) = inr (ap (stop_at node) (omega (arith, late, no_later)), more)

on_time_first : (d m a : ℕ) → d + 2 ≤ a → IsNoLater (trip_at 0 2) (three d m a)
on_time_first d m a long =
    goes_on 0 0 d (stop_at 1 0 ∷ stop_at 2 2 ∷ []) (stop_at 1 m ∷ stop_at 2 a ∷ []) (omega arith)
    (goes_on 1 0 m (stop_at 2 2 ∷ []) (stop_at 2 a ∷ []) (omega arith)
    (goes_on 2 2 a [] [] (omega (arith, long)) (tt {0})))

module _ (first : ℕ) (low : first ≤ 1024) (number : ℕ) (name : List ℕ)
    (is : slice_get two.flights number ≡ Some (flight name)) where
  is_first : (stops : List Stop) → IsTripIn two all_open number stops
      → IsNoLater (trip_at 0 2) stops
  is_first stops inside =
      let (d, m, a, through) = is_through name stops
      (trip_in first low number name is stops inside) in
      subst (IsNoLater (trip_at 0 2)) (sym through.is) (on_time_first d m a through.long)

  on_time_least : IsLeastTrip two all_open (table_with first) number (trip_at 0 2)
  on_time_least = record {
    inside = on_time first low number name is;
    least = λ stops inside.
        subst (λ cost. cost ≤ℤ priced first low number name is stops)
        (sym (on_time_priced first low number name is))
        (in_box_costs first low number name is stops inside);
    first = λ stops inside equal. is_first stops inside;
  }

-- Both flights leave on time, whatever the first departures pay.
abbrev on_time_plan : List (List Stop)
on_time_plan = plan_with (trip_at 0 2)

both_least : (first : ℕ) → first ≤ 1024
    → AreLeastTrips two all_open (table_with first) on_time_plan
both_least first low = record { whole = refl; each = each }
  where
    same : (a trip : List Stop) → Some a ≡ Some trip → a ≡ trip
    same a trip is = cc

    each : (number : ℕ) (trip : List Stop) → slice_get on_time_plan number ≡ Some trip
        → IsLeastTrip two all_open (table_with first) number trip
    each zero trip is =
        subst (IsLeastTrip two all_open (table_with first) 0) (same (trip_at 0 2) trip is)
        (on_time_least first low 0 there.name refl)
    each (suc zero) trip is =
        subst (IsLeastTrip two all_open (table_with first) 1) (same (trip_at 0 2) trip is)
        (on_time_least first low 1 beside.name refl)
    each (suc (suc k)) trip is = absurd cc

-- two facts of numbers, tested at each of them
below : (n k : ℕ) (test : ℕ → Bool) → all_below n test ≡ true → k < n → test k ≡ true
below zero k test all less = absurd (omega (arith, less))
below (suc n) zero test all less = (and_parts (test 0) _ all).0
below (suc n) (suc k) test all less =
    below n k (λ k. test (suc k)) (and_parts (test 0) _ all).1 (omega (arith, less))

same_numbers : (a b : ℕ) → nat_eq a b ≡ true → a ≡ b
same_numbers a b test = grind (arith, nat_tests)

-- One departure too many, at 1024 for each.
abbrev is_moved : PriceKind → ℕ → ℕ → Bool
is_moved kind k t =
    nat_eq (price_at (table_with 1024) (key_in kind k t))
    (moved_price two (traffic_of two on_time_plan) 1024 (key_in kind k t)
    (price_at (table_with 0) (key_in kind k t)))

kind_moved : (kind : PriceKind)
    → all_below (row_count two kind) (λ k. all_below 8 (is_moved kind k)) ≡ true → (k t : ℕ)
    → k < row_count two kind → t < 8 → price_at (table_with 1024) (key_in kind k t)
    ≡ moved_price two (traffic_of two on_time_plan) 1024 (key_in kind k t)
    (price_at (table_with 0) (key_in kind k t))
kind_moved kind all k t within in_day =
    same_numbers (price_at (table_with 1024) (key_in kind k t))
    (moved_price two (traffic_of two on_time_plan) 1024 (key_in kind k t)
    (price_at (table_with 0) (key_in kind k t)))
    (below 8 t (is_moved kind k)
    (below (row_count two kind) k (λ k. all_below 8 (is_moved kind k)) all within) in_day)

all_moved : (kind : PriceKind)
    → all_below (row_count two kind) (λ k. all_below 8 (is_moved kind k)) ≡ true
all_moved (Capacity cap.Dep) = refl
all_moved (Capacity cap.Arr) = refl
all_moved (Capacity cap.Sector) = refl
all_moved Connected = refl

moved_by_plan : IsMovedBy two on_time_plan 1024 (table_with 0) (table_with 1024)
moved_by_plan = record {
  size = are_prices 1024;
  each = λ k within. kind_moved k.kind (all_moved k.kind) k.row k.period within.0 within.1;
}

zeros_free : (n k : ℕ) → slice_index (replicate n 0) k ≡ 0
zeros_free zero k = refl
zeros_free (suc n) zero = refl
zeros_free (suc n) (suc k) = zeros_free n k

kind_free : (kind : PriceKind) (k t : ℕ) → price_in (block_of kind (table_with 0)) k t ≡ 0
kind_free (Capacity cap.Dep) k t = zeros_free 24 (k * 8 + t)
kind_free (Capacity cap.Arr) k t = zeros_free 24 (k * 8 + t)
kind_free (Capacity cap.Sector) k t = zeros_free 24 (k * 8 + t)
kind_free Connected k t = zeros_free 0 (k * 8 + t)

free : AreFree (table_with 0)
free k = kind_free k.kind k.row k.period

no_round : IsRoundTable two all_open 0 (table_with 0)
no_round = (are_prices 0, free)

round_is : IsRoundStep two all_open 1 (table_with 0) (table_with 1024)
round_is = inl (
  on_time_plan,
  record { least = both_least 0 (omega arith); moved = moved_by_plan },
)

one_round : IsRoundTable two all_open 1 (table_with 1024)
one_round = (table_with 0, no_round, round_is)

-- What the prices tell: what both flights pay, less what the capacity would.
value_is : (first : ℕ) → first ≤ 1024
    → IsPricedValue two all_open 1024 (table_with first)
    (pos (first + first) -ℤ pos (limit_price two (table_with first)))
value_is first low = record {
  sum = pos (first + first);
  least = (
    pos first,
    pos first,
    (pos 0, pos first, refl, least_is first low 0 there.name refl, omega (arith, ints)),
    least_is first low 1 beside.name refl,
    omega (arith, ints),
  );
  less = refl;
}

rounded : (least : ℕ) → IsRoundedUp (pos (1024 * least)) 1024 (pos least)
rounded least = record {
  reached = omega (arith, ints);
  below = by;
}
  where
    by : (c : ℤ) → pos (1024 * least) ≤ℤ (c *ℤ pos 1024) → pos least ≤ℤ c
    by (pos c) le = omega (arith, ints, le)
    by (negsuc c) le = absurd (omega (arith, ints, le))

first_bound : IsRoundBound two all_open 0 (AtLeast (pos 0))
first_bound = (
  table_with 0,
  no_round,
  (pos 0, value_is 0 (omega arith), rounded 0),
)

second_bound : IsRoundBound two all_open 1 (AtLeast (pos 1))
second_bound = (
  table_with 1024,
  one_round,
  (pos 1024, value_is 1024 (omega arith), rounded 1),
)
