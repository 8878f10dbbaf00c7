-- How far from 0 the numbers of the cost row are: delays are of a day, so they are much nearer than
-- those of any delay that can be told.
use Rattle.std.proofs.Common.{◌≡◌, ◌⊎◌, ℕ, ◌+◌, ◌*◌, ◌^◌, ◌<◌, ◌≤◌, List, [], ◌∷◌, All, IsTrue, length, get_or, Option, None, Some, slice_get, ℤ, pos, inl, inr, refl, sym, subst, arith}
use Rattle.std.proofs.Math.Nat.{mul-le-mul}
use Rattle.std.proofs.lemmas.Bool.{cases_lt}
use Rattle.std.proofs.lemmas.Bool.Decides.{nat_tests}
use Rattle.std.proofs.lemmas.Int.{ints}
use Rattle.std.proofs.lemmas.List.{get_or_past}
use Rattle.std.proofs.lemmas.List.Elements.{All-head, All-tail}
use Rattle.exact_sums.proofs.ItemFacts.{All-item}
use Rattle.flow_types.specs.declared.flight.Cost.{Cost}
use Rattle.flow_types.specs.declared.flight.Cost.TheVariants.{Linear, Tables}
use Rattle.flow_types.specs.declared.flight.CostTable.{CostTable}
use Rattle.flow_types.specs.declared.flight.Flight.{Flight}
use Rattle.flow_types.specs.declared.parts.Parts.{Parts}
use Rattle.flow_types.specs.Costs.{credit_of, total_of, value_at}
use Rattle.flow_types.specs.Valid.{IsFlight, IsScenario, IsTable, IsValue, is_cost}
use Rattle.bytime_model.specs.CostRow.{constants, cost_row, flight_constant, late_step_at, most_late, most_wait, wait_step_at}
use Rattle.exact_sums.specs.Near.{IsNear}

-- a value of a table, wherever it is read
value_near : (values : List ℤ) (d : ℕ) → All IsValue values
    → (d < length values) ⊎ (length values ≤ d) → IsValue (get_or values d (pos 0))
value_near values d all (inl within) = all d (pos 0) within
value_near values d all (inr past) =
    subst IsValue (sym (get_or_past values d (pos 0) past)) (record {
      low = omega (arith, ints);
      high = omega (arith, ints);
    })

table_near : (tables : List CostTable) (n d : ℕ) (table : Option CostTable) → All IsTable tables
    → slice_get tables n ≡ table → IsValue (value_at table d)
table_near tables n d None all here =
    record { low = omega (arith, ints); high = omega (arith, ints) }
table_near tables n d (Some table) all here =
    value_near table.values d (All-item IsTable tables n table all here).values
    (cases_lt d (length table.values))

-- what so many periods cost
product_near : (a d : ℕ) → a ≤ 1000000 → d ≤ 512 → a * d ≤ 1000000000
product_near a d small few =
    let most : a * d ≤ 1000000 * 512 = mul-le-mul small few in
    omega (arith, most)

total_near : (tables : List CostTable) (mg md d : ℕ) (cost : Cost) → All IsTable tables
    → IsTrue (is_cost tables mg md cost) → d ≤ 512 → IsValue (total_of tables cost d)
total_near tables mg md d (Linear on_ground airborne) all is few =
    let most = product_near airborne d (grind (arith, nat_tests)) few in
    record { low = omega (arith, ints); high = omega (arith, ints) }
total_near tables mg md d (Tables total credit) all is few =
    table_near tables total d (slice_get tables total) all refl

credit_near : (tables : List CostTable) (mg md d : ℕ) (cost : Cost) → All IsTable tables
    → IsTrue (is_cost tables mg md cost) → d ≤ 512 → IsValue (credit_of tables cost d)
credit_near tables mg md d (Linear on_ground airborne) all is few =
    let most = product_near airborne d (grind (arith, nat_tests)) few in
    let least = product_near on_ground d (grind (arith, nat_tests)) few in
    record { low = omega (arith, ints); high = omega (arith, ints) }
credit_near tables mg md d (Tables total credit) all is few =
    table_near tables credit d (slice_get tables credit) all refl

module _ (parts : Parts) (valid : IsScenario parts) where
  abbrev Is : Flight → Type 0
  Is = IsFlight parts.day.periods parts.places parts.tables

  -- the steps
  pub late_near : (number delay : ℕ) (found : Option Flight)
      → slice_get parts.flights number ≡ found → delay + 1 ≤ 512
      → IsNear 2000000000 (late_step_at parts.tables found delay)
  late_near number delay None is few =
      record { low = omega (arith, ints); high = omega (arith, ints) }
  late_near number delay (Some flight) is few =
      let ok = All-item Is parts.flights number flight valid.flights.each is in
      let now = total_near parts.tables flight.mg flight.md delay flight.cost
      valid.tables.each ok.cost (omega (arith, few)) in
      let next = total_near parts.tables flight.mg flight.md (delay + 1) flight.cost
      valid.tables.each ok.cost few in
      record {
        low = omega (arith, ints, now.low, next.high);
        high = omega (arith, ints, now.high, next.low);
      }

  pub wait_near : (number delay : ℕ) (found : Option Flight)
      → slice_get parts.flights number ≡ found → delay + 1 ≤ 512
      → IsNear 2000000000 (wait_step_at parts.tables found delay)
  wait_near number delay None is few =
      record { low = omega (arith, ints); high = omega (arith, ints) }
  wait_near number delay (Some flight) is few =
      let ok = All-item Is parts.flights number flight valid.flights.each is in
      let now = credit_near parts.tables flight.mg flight.md delay flight.cost
      valid.tables.each ok.cost (omega (arith, few)) in
      let next = credit_near parts.tables flight.mg flight.md (delay + 1) flight.cost
      valid.tables.each ok.cost few in
      record {
        low = omega (arith, ints, now.high, next.low);
        high = omega (arith, ints, now.low, next.high);
      }

  -- the constant
  flight_near : (flight : Flight) → Is flight
      → IsNear 2000000000 (flight_constant parts.tables parts.day.periods flight)
  flight_near flight ok =
      let periods = parts.day.periods in
      let short = valid.day.periods_to in
      let total = total_near parts.tables flight.mg flight.md (most_late periods flight)
      flight.cost valid.tables.each ok.cost (omega (arith, short)) in
      let credit = credit_near parts.tables flight.mg flight.md (most_wait periods flight)
      flight.cost valid.tables.each ok.cost (omega (arith, short)) in
      record {
        low = omega (arith, ints, total.low, credit.high);
        high = omega (arith, ints, total.high, credit.low);
      }

  constants_near : (flights : List Flight) → All Is flights
      → IsNear (2000000000 * length flights) (constants parts.tables parts.day.periods flights)
  constants_near [] all = record { low = omega (arith, ints); high = omega (arith, ints) }
  constants_near (flight ∷ flights) all =
      let one = flight_near flight (All-head Is flight flights all) in
      let rest = constants_near flights (All-tail Is flight flights all) in
      record {
        low = omega (arith, ints, one.low, rest.low);
        high = omega (arith, ints, one.high, rest.high);
      }

  pub constant_near : IsNear (2 ^ 42) (cost_row parts).constant
  constant_near =
      let all = constants_near parts.flights valid.flights.each in
      let few = valid.flights.few in
      record {
        low = omega (arith, ints, all.low, few);
        high = omega (arith, ints, all.high, few);
      }
