-- Prices worked out on the day of two flights of which one may leave in a period: where a departure
-- in the first period pays 1, the value is what the best plan costs.
use Rattle.std.proofs.Common.{◌≡◌, ℕ, zero, suc, ◌+◌, ◌*◌, ◌<◌, ◌≤◌, false, List, [], ◌∷◌, replicate, get_or, slice_get, Option, Some, ℤ, pos, neg_ℤ, ◌+ℤ◌, ◌-ℤ◌, ◌*ℤ◌, ◌≤ℤ◌, refl, sym, ap, subst, arith}
use Rattle.std.proofs.Math.IntN.{zero-*ℤ}
use Rattle.std.proofs.lemmas.Bool.{false≢true}
use Rattle.std.proofs.lemmas.Int.{ints}
use Rattle.exact_sums.specs.Leasts.{IsLeastAt}
use Rattle.exact_sums.proofs.ProductFacts.{times-more}
use Rattle.exact_sums.proofs.ShortLists.{all_three}
use Rattle.flow_types.specs.declared.flight.Cost.TheVariants.{Linear}
use Rattle.flow_types.specs.declared.flight.Flight.{Flight}
use Rattle.flow_types.specs.declared.flight.Leg.{Leg}
use Rattle.flow_types.specs.declared.parts.Parts.{Parts}
use Rattle.flow_types.specs.declared.plan.Stop.{Stop}
use Rattle.flow_types.specs.Costs.{plan_cost, times_cost}
use Rattle.flow_types.specs.Trips.{IsOnward, IsTrip, arrival_from}
use Rattle.flight_routes.specs.Inside.{IsTripIn}
use Rattle.flight_routes.specs.Prices.{ArePricesOf, Block, PriceTable, price_in, priced_cost, priced_cost_of, stays_price}
use Rattle.time_windows.specs.Boxes.{Box, IsInWindow}
use Rattle.worked_days.specs.Days.{beside, flight_with, legs_with, plan_with, there, there_and_back, trip_at, two_flights}
use Rattle.worked_days.proofs.WorkedDay.{trip_is, two_flights-valid}
use Rattle.priced_plans.specs.Values.{BoundsPlans, IsPricedValue, limit_price, loads_price, plan_price, turns_price}
use Rattle.priced_plans.proofs.ValueFacts.{value-below}

abbrev two : Parts
two = two_flights 1 9 9

abbrev no_prices : ℕ → Block
no_prices rows = record { rows = rows; periods = 8; prices = replicate (rows * 8) 0 }

-- the first period's departures from the first airport pay 1
abbrev table : PriceTable
table = record {
  departures = record { rows = 3; periods = 8; prices = 1 ∷ replicate 23 0 };
  arrivals = no_prices 3;
  inside = no_prices 3;
  turns = no_prices 0;
}

are_prices : ArePricesOf two table
are_prices = record {
  departures = record { wide = refl; long = refl };
  arrivals = record { wide = refl; long = refl };
  inside = record { wide = refl; long = refl };
  turns = record { wide = refl; long = refl };
}

-- one departure is all that there is room for
limit_is : limit_price two table ≡ 1
limit_is = refl

-- a plan that keeps the capacity pays no more; one that breaks it does
kept_pays : plan_price table two 0 two.flights (plan_with (trip_at 1 3)) ≡ pos 1
kept_pays = refl

broken_pays : plan_price table two 0 two.flights (plan_with (trip_at 0 2)) ≡ pos 2
broken_pays = refl

-- as its departures do
kept_loads : loads_price table two (plan_with (trip_at 1 3)) ≡ 1
kept_loads = refl

broken_loads : loads_price table two (plan_with (trip_at 0 2)) ≡ 2
broken_loads = refl

-- every period is open at every node
abbrev all_open : Box
all_open flight node = record { window = Some (record { lo = 0; hi = 7 }); must = false }

-- a flight scheduled as these are takes two periods
abbrev flight : List ℕ → Flight
flight name = flight_with name 0 1 0 (Linear 1 2)

record IsLong (stop : Stop) (rest : List Stop) : Type 0 where
  any : stop.time ≤ arrival_from stop rest
  two : stop.node < 2 → stop.time + 2 ≤ arrival_from stop rest

step_long : (stop next : Stop) (rest : List Stop) (k : ℕ) (leg : Leg) → k < 2
    → get_or (legs_with 2) k leg ≡ leg → leg.from ≡ stop.node → leg.to ≡ next.node
    → stop.time + leg.least ≤ next.time → IsLong next rest → IsLong stop (next ∷ rest)
step_long stop next rest zero leg within is from to least more =
    let leads = ap (λ (l : Leg). l.to) is in
    let two = more.two (omega (arith, leads, to)) in
    record {
      any = omega (arith, more.any, least);
      two = λ first. omega (arith, two, least);
    }
step_long stop next rest (suc zero) leg within is from to least more =
    let takes = ap (λ (l : Leg). l.least) is in
    record {
      any = omega (arith, more.any, least);
      two = λ first. omega (arith, more.any, least, takes);
    }
step_long stop next rest (suc (suc k)) leg within is from to least more =
    absurd (omega (arith, within))

onward_long : (name : List ℕ) (stop : Stop) (rest : List Stop)
    → IsOnward 8 (flight name) stop rest → IsLong stop rest
onward_long name stop [] onward =
    record { any = omega arith; two = λ first. absurd (omega (arith, onward, first)) }
onward_long name stop (next ∷ rest) onward =
    let step = onward.0 in
    step_long stop next rest step.0 step.1 step.2 step.3 step.4.from step.4.to step.4.least
    (onward_long name next rest onward.2)

-- a trip costs 1 at least: it pays 1, or departs late
departs_dear : (t : ℕ) → 1 ≤ price_in table.departures 0 t + t
departs_dear zero = omega arith
departs_dear (suc t) = omega arith

late_costs : (departs arrives : ℕ) → departs + 2 ≤ arrives
    → pos departs ≤ℤ times_cost [] (flight []) departs arrives
late_costs departs arrives long = omega (arith, ints, long)

priced_more : (cost : ℤ) (p s a t : ℕ) → pos t ≤ℤ cost → 1 ≤ p + t
    → pos 1 ≤ℤ (pos 1 *ℤ cost +ℤ (pos (p + s + 0 + a) -ℤ pos 0))
priced_more cost p s a t late dear =
    omega (arith, ints, times-more 0 cost, zero-*ℤ cost, late, dear)

costs_one : (name : List ℕ) (number : ℕ) (stops : List Stop) → IsTrip 8 (flight name) stops
    → pos 1 ≤ℤ priced_cost_of 1 table two number (Some (flight name)) stops
costs_one name number [] trip = absurd trip
costs_one name number (stop ∷ rest) trip =
    let long = (onward_long name stop rest trip.2).two (omega (arith, trip.0)) in
    priced_more (times_cost [] (flight name) stop.time (arrival_from stop rest))
    (price_in table.departures 0 stop.time) (stays_price table (flight name) stop rest)
    (price_in table.arrivals 1 (arrival_from stop rest)) stop.time
    (late_costs stop.time (arrival_from stop rest) long) (departs_dear stop.time)

-- a flight on time is in the box
pub on_time : (number : ℕ) (name : List ℕ) → slice_get two.flights number ≡ Some (flight name)
    → IsTripIn two all_open number (trip_at 0 2)
on_time number name is = record {
  flight = flight name;
  there = is;
  trip = trip_is name 0 1 0 (Linear 1 2) 0 2 (omega arith) (omega arith) (omega arith)
      (omega arith) (omega arith);
  inside = record {
    windows = all_three
        (λ (stop : Stop). IsInWindow (all_open number stop.node).window stop.time) _ _ _
        (omega arith, omega arith) (omega arith, omega arith) (omega arith, omega arith);
    musts = λ node must. absurd (false≢true must);
  };
}

least_is : (number : ℕ) (name : List ℕ) → slice_get two.flights number ≡ Some (flight name)
    → priced_cost 1 table two number (trip_at 0 2) ≡ pos 1
    → IsLeastAt (IsTripIn two all_open number) (priced_cost 1 table two number) (pos 1)
least_is number name is cost = record {
  reached = (trip_at 0 2, on_time number name is, cost);
  below = λ stops inside.
      subst (λ (f : Option Flight). pos 1 ≤ℤ priced_cost_of 1 table two number f stops) (sym is)
      (costs_one name number stops (subst (λ (f : Flight). IsTrip 8 f stops)
      (same inside.flight inside.there) inside.trip));
} where
  same : (f : Flight) → slice_get two.flights number ≡ Some f → f ≡ flight name
  same f here = cc

-- 1 for each flight, less 1 for the capacity
value_is : IsPricedValue two all_open 1 table (pos 1)
value_is = record {
  sum = pos 2;
  least = (
    pos 1,
    pos 1,
    (pos 0, pos 1, refl, least_is 0 there.name refl refl, refl),
    least_is 1 beside.name refl refl,
    refl,
  );
  less = refl;
}

-- so no plan that keeps every rule costs less than 1, and one costs that
bound_is : BoundsPlans two all_open 1 (pos 1)
bound_is = λ plan kept.
    value-below two all_open 1 table (pos 1) plan
    (two_flights-valid 1 9 9 (omega arith) (omega arith) (omega arith)) value_is kept.feasible
    kept.inside

best_costs : plan_cost two.tables two.flights (plan_with (trip_at 1 3)) ≡ pos 1
best_costs = refl

-- A flight and its aircraft's flight back: the aircraft arrives in period 2, and is ready in period
-- 4. A price in period 3 is paid where the second flight departs then, which breaks the turnaround.
abbrev pair : Parts
pair = there_and_back 9 2

abbrev turn_table : PriceTable
turn_table = record {
  departures = no_prices 3;
  arrivals = no_prices 3;
  inside = no_prices 3;
  turns = record { rows = 1; periods = 8; prices = 0 ∷ 0 ∷ 0 ∷ 1 ∷ replicate 4 0 };
}

early_pays : plan_price turn_table pair 0 pair.flights (plan_with (trip_at 3 5)) ≡ pos 1
early_pays = refl

early_turns : turns_price turn_table 8 (plan_with (trip_at 3 5)) 0 pair.connections ≡ pos 1
early_turns = refl

ready_pays : plan_price turn_table pair 0 pair.flights (plan_with (trip_at 4 6)) ≡ pos 0
ready_pays = refl

-- it is paid back where the aircraft is ready at once, and the second flight departs later
soon_is_paid : plan_price turn_table (there_and_back 9 0) 0 pair.flights (plan_with (trip_at 4 6))
    ≡ neg_ℤ (pos 1)
soon_is_paid = refl
