-- How large the costs of a valid scenario can be.
use Rattle.std.proofs.Common.{◌≡◌, ℕ, suc, ◌+◌, ◌-◌, ◌*◌, ◌==◌, ◌<◌, ◌≤◌, min, Bool, true, false, List, [], ◌∷◌, Option, Some, None, length, get_or, slice_get, IsTrue, All, ℤ, pos, neg_ℤ, ◌≤ℤ◌, if◌then◌else◌, subst, refl, sym, ◌⊎◌, inl, inr, arith}
use Rattle.std.proofs.Math.Nat.{mul-le-mul_right}
use Rattle.std.proofs.lemmas.Bool.{cases_lt}
use Rattle.std.proofs.lemmas.Bool.Decides.{nat_tests}
use Rattle.std.proofs.lemmas.Int.{ints}
use Rattle.std.proofs.lemmas.List.{get_or_past}
use Rattle.std.proofs.lemmas.Option.{slice_get_read}
use Rattle.exact_sums.proofs.ItemFacts.{All-item}
use Rattle.flow_types.specs.declared.flight.Cost.{Cost}
use Rattle.flow_types.specs.declared.flight.Cost.TheVariants.{Linear, Tables}
use Rattle.flow_types.specs.declared.flight.CostTable.{CostTable}
use Rattle.flow_types.specs.declared.flight.Flight.{Flight}
use Rattle.flow_types.specs.declared.parts.Parts.{Parts}
use Rattle.flow_types.specs.declared.plan.Stop.{Stop}
use Rattle.flow_types.specs.Costs.{credit_at, credit_of, plan_cost, total_at, total_of, trip_cost, value_at}
use Rattle.flow_types.specs.Feasible.{AreTrips}
use Rattle.flow_types.specs.Limits.{most_delay_cost, most_period_cost, most_periods, most_value}
use Rattle.flow_types.specs.Trips.{IsOnward, IsTrip, IsWithinHours, arrival_from, latest_of}
use Rattle.flow_types.specs.Valid.{IsFlight, IsScenario, IsTable, IsValue, is_cost}

-- no further than this from zero, either way
pub record IsWithin (limit : ℕ) (v : ℤ) : Type 0 where
  pub low : neg_ℤ (pos limit) ≤ℤ v
  pub high : v ≤ℤ pos limit

-- a value of a table, wherever it is read
value_within : (values : List ℤ) (d : ℕ) → All IsValue values → (d < length values)
    ⊎ (length values ≤ d) → IsValue (get_or values d (pos 0))
value_within values d all (inl within) = all d (pos 0) within
value_within values d all (inr past) =
    subst IsValue (sym (get_or_past values d (pos 0) past)) (record {
      low = omega (arith, ints);
      high = omega (arith, ints);
    })

table_within : (tables : List CostTable) (n d : ℕ) (table : Option CostTable) → All IsTable tables
    → slice_get tables n ≡ table → IsValue (value_at table d)
table_within tables n d None all here =
    record { low = omega (arith, ints); high = omega (arith, ints) }
table_within tables n d (Some table) all here =
    value_within table.values d (All-item IsTable tables n table all here).values
    (cases_lt d (length table.values))

-- a cost of so much delay
product_within : (a d most : ℕ) → a ≤ most_period_cost → most_period_cost * d ≤ most
    → a * d ≤ most
product_within a d most small few =
    let more : a * d ≤ most_period_cost * d = mul-le-mul_right d small in
    omega (arith, more, few)

pub total_within : (tables : List CostTable) (mg md d most : ℕ) (cost : Cost) → All IsTable tables
    → IsTrue (is_cost tables mg md cost) → most_value ≤ most → most_period_cost * d ≤ most
    → IsWithin most (total_of tables cost d)
total_within tables mg md d most (Linear on_ground airborne) all is value few =
    let all_airborne = product_within airborne d most (grind (arith, nat_tests)) few in
    record { low = omega (arith, ints); high = omega (arith, ints) }
total_within tables mg md d most (Tables total credit) all is value few =
    let v = table_within tables total d (slice_get tables total) all refl in
    record { low = omega (arith, ints, v.low); high = omega (arith, ints, v.high) }

pub credit_within : (tables : List CostTable) (mg md d most : ℕ) (cost : Cost) → All IsTable tables
    → IsTrue (is_cost tables mg md cost) → most_value ≤ most → most_period_cost * d ≤ most
    → IsWithin most (credit_of tables cost d)
credit_within tables mg md d most (Linear on_ground airborne) all is value few =
    let all_airborne = product_within airborne d most (grind (arith, nat_tests)) few in
    let all_on_ground = product_within on_ground d most (grind (arith, nat_tests)) few in
    record { low = omega (arith, ints); high = omega (arith, ints) }
credit_within tables mg md d most (Tables total credit) all is value few =
    let v = table_within tables credit d (slice_get tables credit) all refl in
    record { low = omega (arith, ints, v.low); high = omega (arith, ints, v.high) }

-- how large the costs of a flight of a valid scenario are
pub total_at-within : (parts : Parts) (n d : ℕ) (flight : Option Flight) → IsScenario parts
    → slice_get parts.flights n ≡ flight → d < 65536
    → IsWithin 100000000000 (total_at parts.tables flight d)
total_at-within parts n d None valid here few =
    record { low = omega (arith, ints); high = omega (arith, ints) }
total_at-within parts n d (Some flight) valid here few =
    total_within parts.tables flight.mg flight.md d most_delay_cost flight.cost valid.tables.each
    (All-item (IsFlight parts.day.periods parts.places parts.tables) parts.flights n flight
    valid.flights.each here).cost (omega arith) (omega (arith, few))

pub credit_at-within : (parts : Parts) (n d : ℕ) (flight : Option Flight) → IsScenario parts
    → slice_get parts.flights n ≡ flight → d < 65536
    → IsWithin 100000000000 (credit_at parts.tables flight d)
credit_at-within parts n d None valid here few =
    record { low = omega (arith, ints); high = omega (arith, ints) }
credit_at-within parts n d (Some flight) valid here few =
    credit_within parts.tables flight.mg flight.md d most_delay_cost flight.cost valid.tables.each
    (All-item (IsFlight parts.day.periods parts.places parts.tables) parts.flights n flight
    valid.flights.each here).cost (omega arith) (omega (arith, few))

-- a total and a credit that were read of the flight at a position
pub total_read : (parts : Parts) (n d : ℕ) (flight : Flight) (total : ℤ) → IsScenario parts
    → n < length parts.flights → flight ≡ get_or parts.flights n flight
    → d < 65536 → total ≡ total_of parts.tables flight.cost d → IsWithin 100000000000 total
total_read parts n d flight total valid within is few value =
    let most = total_at-within parts n d (Some flight) valid
    (slice_get_read parts.flights (length parts.flights) n flight refl within is) few in
    record {
      low = omega (arith, ints, most.low, value);
      high = omega (arith, ints, most.high, value);
    }

pub credit_read : (parts : Parts) (n d : ℕ) (flight : Flight) (credit : ℤ) → IsScenario parts
    → n < length parts.flights → flight ≡ get_or parts.flights n flight
    → d < 65536 → credit ≡ credit_of parts.tables flight.cost d → IsWithin 100000000000 credit
credit_read parts n d flight credit valid within is few value =
    let most = credit_at-within parts n d (Some flight) valid
    (slice_get_read parts.flights (length parts.flights) n flight refl within is) few in
    record {
      low = omega (arith, ints, most.low, value);
      high = omega (arith, ints, most.high, value);
    }

-- Trips are within the day, so that a plan of them costs at most 2,000 times 2,000,000,000.

if_to : (b : Bool) (x y most : ℕ) → x ≤ most → y ≤ most → (if b then x else y) ≤ most
if_to true x y most first second = first
if_to false x y most first second = second

pub latest_to : (periods : ℕ) (flight : Flight) (node : ℕ)
    → latest_of periods flight node ≤ periods - 1
latest_to periods flight node =
    if_to (node == 0) (min (flight.sd + flight.mg) (periods - 1)) _ (periods - 1) (omega arith)
    (if_to (node + 1 == length flight.nodes) (min (flight.sa + flight.md) (periods - 1))
    (periods - 1) (periods - 1) (omega arith) (omega arith))

arrival_to : (periods : ℕ) (flight : Flight) (stop : Stop) (rest : List Stop)
    → IsWithinHours periods flight stop → IsOnward periods flight stop rest
    → arrival_from stop rest ≤ periods - 1
arrival_to periods flight stop [] within onward =
    let late = within.late in
    omega (arith, late, latest_to periods flight stop.node)
arrival_to periods flight stop (next ∷ rest) within onward =
    arrival_to periods flight next rest onward.1 onward.2

trip_within : (tables : List CostTable) (periods : ℕ) (flight : Flight) (trip : List Stop)
    → All IsTable tables → IsTrue (is_cost tables flight.mg flight.md flight.cost)
    → periods ≤ most_periods → IsTrip periods flight trip
    → IsWithin 2000000000 (trip_cost tables flight trip)
trip_within tables periods flight [] all is few trip = absurd trip
trip_within tables periods flight (stop ∷ rest) all is few (first, within, onward) =
    let late = within.late in
    let departs = latest_to periods flight stop.node in
    let arrives = arrival_to periods flight stop rest within onward in
    let total = total_within tables flight.mg flight.md (arrival_from stop rest - flight.sa)
    most_value flight.cost all is (omega arith) (omega (arith, arrives, few)) in
    let credit = credit_within tables flight.mg flight.md (stop.time - flight.sd) most_value
    flight.cost all is (omega arith) (omega (arith, late, departs, few)) in
    record {
      low = omega (arith, ints, total.low, credit.high);
      high = omega (arith, ints, total.high, credit.low);
    }

trips_within : (tables : List CostTable) (periods : ℕ) (flights : List Flight)
    (plan : List (List Stop)) → All IsTable tables → periods ≤ most_periods
    → ((k : ℕ) (flight : Flight) → slice_get flights k ≡ Some flight
    → IsTrue (is_cost tables flight.mg flight.md flight.cost))
    → AreTrips periods flights plan
    → IsWithin (length flights * 2000000000) (plan_cost tables flights plan)
trips_within tables periods [] [] all few costs trips =
    record { low = omega (arith, ints); high = omega (arith, ints) }
trips_within tables periods [] (trip ∷ plan) all few costs trips = absurd trips
trips_within tables periods (flight ∷ flights) [] all few costs trips = absurd trips
trips_within tables periods (flight ∷ flights) (trip ∷ plan) all few costs trips =
    let here = trip_within tables periods flight trip all (costs 0 flight refl) few trips.0 in
    let more = trips_within tables periods flights plan all few (λ k. costs (suc k)) trips.1 in
    record {
      low = omega (arith, ints, here.low, more.low);
      high = omega (arith, ints, here.high, more.high);
    }

pub plan_within : (parts : Parts) (plan : List (List Stop)) → IsScenario parts
    → AreTrips parts.day.periods parts.flights plan
    → IsWithin 10000000000000 (plan_cost parts.tables parts.flights plan)
plan_within parts plan valid trips =
    let each = trips_within parts.tables parts.day.periods parts.flights plan valid.tables.each
    valid.day.periods_to (λ k flight here.
    (All-item (IsFlight parts.day.periods parts.places parts.tables) parts.flights k flight
    valid.flights.each here).cost) trips in
    let few = valid.flights.few in
    record {
      low = omega (arith, ints, few, each.low);
      high = omega (arith, ints, few, each.high);
    }
