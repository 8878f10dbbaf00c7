-- How large the factors and limits of the rows are, and how long a row is: for crates that add rows
-- up.
use Rattle.std.proofs.Common.{◌≡◌, ◌⊎◌, ℕ, zero, suc, ◌+◌, ◌-◌, ◌*◌, ◌^◌, ◌<◌, ◌≤◌, ◌==◌, Bool, true, false, nat_le, List, [], ◌∷◌, length, slice_get, slice_index, Option, None, Some, All, if◌then◌else◌, ℤ, pos, inl, inr, refl, subst, arith}
use Rattle.std.proofs.lemmas.Bool.{cases_lt}
use Rattle.std.proofs.lemmas.Int.{ints}
use Rattle.std.proofs.lemmas.List.{get_or_past, length-append}
use Rattle.std.proofs.lemmas.List.Elements.{All-append, All-cons, All-nil}
use Rattle.std.specs.List.{flat_map, range_with_len}
use Rattle.std.specs.Ordering.{int_eq}
use Rattle.exact_sums.proofs.ItemFacts.{All-item}
use Rattle.flow_types.specs.declared.flight.Connection.{Connection}
use Rattle.flow_types.specs.declared.flight.Flight.{Flight}
use Rattle.flow_types.specs.declared.parts.Parts.{Parts}
use Rattle.flow_types.specs.declared.place.CapKind.{CapKind}
use Rattle.flow_types.specs.declared.place.CapKind.TheVariants as kind
use Rattle.flow_types.specs.declared.place.Place.{Place}
use Rattle.flow_types.specs.Capacities.{caps_of}
use Rattle.flow_types.specs.Limits.{most_capacity}
use Rattle.flow_types.specs.Valid.{IsPlace, IsScenario}
use Rattle.flow_types.proofs.CostFacts.{credit_at-within, total_at-within}
use Rattle.time_windows.proofs.RootFacts.{flight_in}
use Rattle.bytime_model.specs.declared.variables.Term.{Term}
use Rattle.bytime_model.specs.declared.variables.Var.{Var}
use Rattle.bytime_model.specs.declared.variables.Var.TheVariants.{By, Inside}
use Rattle.bytime_model.specs.CostRow.{cost_row, flight_terms, late_step, late_step_at, late_terms, most_late, most_wait, unless_zero, wait_step, wait_step_at, wait_terms}
use Rattle.exact_sums.specs.Near.{IsNear}
use Rattle.bytime_model.specs.Rows.{back_term, back_terms, by_before, connect_terms, enters_in, last_node, minus_one, most_terms, node_from, of_connection, of_flight, on_term, on_terms, one, stay_terms, stay_terms_at, term_of, use_terms}
use Rattle.bytime_model.specs.Values.{is_plain}
use Rattle.bytime_model.proofs.CostFacts.{constants_near}
use Rattle.bytime_model.proofs.FillFacts.{before_few, use_few}
use Rattle.exact_sums.specs.Lists.{flat_map_from}

-- the factor is 1 or -1
abbrev pub IsUnit : Term → Type 0
IsUnit term = (term.factor ≡ one) ⊎ (term.factor ≡ minus_one)

-- what holds of each part holds of all
module _ (P : Term → Type 0) where
  pub all_flat : {X : Type 0} (part : X → List Term) (xs : List X) → ((x : X) → All P (part x))
      → All P (flat_map part xs)
  all_flat part [] each = All-nil P
  all_flat part (x ∷ xs) each =
      All-append P (part x) (flat_map part xs) (each x) (all_flat part xs each)

  pub all_over : (part : ℕ → Flight → List Term) (k : ℕ) (flights : List Flight)
      → ((i : ℕ) (flight : Flight) → All P (part i flight)) → All P (flat_map_from part k flights)
  all_over part k [] each = All-nil P
  all_over part k (flight ∷ flights) each =
      All-append P (part k flight) (flat_map_from part (k + 1) flights) (each k flight)
      (all_over part (k + 1) flights each)

  pub all_if : (b : Bool) (xs : List Term) → All P xs → All P (if b then xs else [])
  all_if true xs all = all
  all_if false xs all = All-nil P

  pub all_of : (terms : Flight → List Term) (flight : Option Flight)
      → ((f : Flight) → All P (terms f)) → All P (of_flight terms flight)
  all_of terms None each = All-nil P
  all_of terms (Some flight) each = each flight

pub with_one : (variable : Var) (terms : List Term) → All IsUnit terms
    → All IsUnit (term_of one variable ∷ terms)
with_one variable terms all = All-cons IsUnit (term_of one variable) terms (inl refl) all

pub minus : (variable : Var) → All IsUnit (term_of minus_one variable ∷ [])
minus variable = All-cons IsUnit (term_of minus_one variable) [] (inr refl) (All-nil IsUnit)

before_units : (flight node time wait : ℕ)
    → All IsUnit (by_before minus_one flight node time wait)
before_units flight node time wait =
    all_if IsUnit (nat_le wait time) (term_of minus_one (By flight node (time - wait)) ∷ [])
    (minus (By flight node (time - wait)))

entry_units : (flight node time : ℕ) → All IsUnit (enters_in flight node time)
entry_units flight node time =
    with_one (By flight node time) (by_before minus_one flight node time 1)
    (before_units flight node time 1)

pub on_units : (number : ℕ) (flight : Flight) (node time : ℕ)
    → All IsUnit (on_terms number flight node time)
on_units number flight node time =
    all_flat IsUnit (on_term number node time) flight.legs
    (λ leg. all_if IsUnit (leg.from == node) (term_of minus_one (By number leg.to time) ∷ [])
    (minus (By number leg.to time)))

pub back_units : (number : ℕ) (flight : Flight) (node time : ℕ)
    → All IsUnit (back_terms number flight node time)
back_units number flight node time =
    all_flat IsUnit (back_term number node time) flight.legs
    (λ leg. all_if IsUnit (leg.to == node) (by_before minus_one number leg.from time leg.least)
    (before_units number leg.from time leg.least))

stay_units : (number : ℕ) (flight : Flight) (time node : ℕ)
    → All IsUnit (stay_terms number flight time node)
stay_units number flight time node = by (is_plain flight node)
  where
    by : (b : Bool) → All IsUnit (if b then term_of one (By number node time)
        ∷ on_terms number flight node time else term_of one (Inside number node time) ∷ [])
    by true = with_one (By number node time) (on_terms number flight node time)
        (on_units number flight node time)
    by false = with_one (Inside number node time) [] (All-nil IsUnit)

stay_at_units : (number : ℕ) (flight : Flight) (time : ℕ) (node : Option ℕ)
    → All IsUnit (stay_terms_at number flight time node)
stay_at_units number flight time None = All-nil IsUnit
stay_at_units number flight time (Some node) = stay_units number flight time node

use_units : (kind : CapKind) (place time number : ℕ) (flight : Flight)
    → All IsUnit (use_terms kind place time number flight)
use_units kind.Dep place time number flight =
    all_if IsUnit (flight.from == place) (enters_in number 0 time) (entry_units number 0 time)
use_units kind.Arr place time number flight =
    all_if IsUnit (flight.to == place) (enters_in number (length flight.nodes - 1) time)
    (entry_units number (length flight.nodes - 1) time)
use_units kind.Sector place time number flight =
    stay_at_units number flight time (node_from place 0 flight.nodes)

pub capacity_units : (parts : Parts) (kind : CapKind) (place time : ℕ)
    → All IsUnit (flat_map_from (use_terms kind place time) 0 parts.flights)
capacity_units parts kind place time =
    all_over IsUnit (use_terms kind place time) 0 parts.flights
    (λ i flight. use_units kind place time i flight)

pub connect_units : (flights : List Flight) (time : ℕ) (connection : Option Connection)
    → All IsUnit (of_connection (λ c. connect_terms flights c time) connection)
connect_units flights time None = All-nil IsUnit
connect_units flights time (Some c) =
    with_one (By c.second 0 time)
    (by_before minus_one c.first (last_node (slice_get flights c.first)) time c.turnaround)
    (before_units c.first (last_node (slice_get flights c.first)) time c.turnaround)

-- a capacity, wherever it is read
cap_small : (caps : List ℕ) (period : ℕ) → All (λ c. c ≤ most_capacity) caps
    → slice_index caps period ≤ most_capacity
cap_small caps period all = by (cases_lt period (length caps))
  where
    by : (period < length caps) ⊎ (length caps ≤ period) → slice_index caps period ≤ most_capacity
    by (inl within) = all period 0 within
    by (inr past) = omega (arith, get_or_past caps period 0 past)

pub caps_small : (kind : CapKind) (parts : Parts) (place period : ℕ) (found : Option Place)
    → IsScenario parts → slice_get parts.places place ≡ found
    → slice_index (caps_of kind found) period ≤ most_capacity
caps_small kind parts place period None valid is = omega arith
caps_small kind.Dep parts place period (Some found) valid is =
    cap_small found.first period
    (All-item (IsPlace parts.day.periods) parts.places place found valid.places.each is).first
caps_small kind.Arr parts place period (Some found) valid is =
    cap_small found.second period
    (All-item (IsPlace parts.day.periods) parts.places place found valid.places.each is).second
caps_small kind.Sector parts place period (Some found) valid is =
    cap_small found.first period
    (All-item (IsPlace parts.day.periods) parts.places place found valid.places.each is).first

-- two terms a flight
over_few : (kind : CapKind) (place time k : ℕ) (flights : List Flight)
    → length (flat_map_from (use_terms kind place time) k flights) ≤ 2 * length flights
over_few kind place time k [] = omega arith
over_few kind place time k (flight ∷ flights) =
    omega (
      arith,
      length-append (use_terms kind place time k flight)
          (flat_map_from (use_terms kind place time) (k + 1) flights),
      use_few kind place time k flight,
      over_few kind place time (k + 1) flights,
    )

pub capacity_few : (parts : Parts) (kind : CapKind) (place time : ℕ) → IsScenario parts
    → length (flat_map_from (use_terms kind place time) 0 parts.flights) ≤ most_terms
capacity_few parts kind place time valid =
    omega (arith, over_few kind place time 0 parts.flights, valid.flights.few)

-- a term a leg, and two more
pub of_few : (parts : Parts) (f : ℕ) (terms : Flight → List Term) (found : Option Flight)
    → IsScenario parts → slice_get parts.flights f ≡ found
    → ((flight : Flight) → length (terms flight) ≤ length flight.legs + 2)
    → length (of_flight terms found) ≤ most_terms
of_few parts f terms None valid is few = omega arith
of_few parts f terms (Some flight) valid is few =
    omega (arith, few flight, (flight_in parts f flight valid is).route.legs_to_limit)

pub connect_few : (flights : List Flight) (time : ℕ) (connection : Option Connection)
    → length (of_connection (λ c. connect_terms flights c time) connection) ≤ most_terms
connect_few flights time None = omega arith
connect_few flights time (Some c) =
    omega (
      arith,
      before_few c.first (last_node (slice_get flights c.first)) time c.turnaround,
    )

-- how far from 0 a step of the cost row may be
pub late_step_near : (parts : Parts) (number delay : ℕ) (found : Option Flight)
    → IsScenario parts → slice_get parts.flights number ≡ found → delay + 1 < 65536
    → IsNear 200000000000 (late_step_at parts.tables found delay)
late_step_near parts number delay None valid is few =
    record { low = omega (arith, ints); high = omega (arith, ints) }
late_step_near parts number delay (Some flight) valid is few =
    let now = total_at-within parts number delay (Some flight) valid is (omega (arith, few)) in
    let next = total_at-within parts number (delay + 1) (Some flight) valid is few in
    record {
      low = omega (arith, ints, now.low, next.high);
      high = omega (arith, ints, now.high, next.low);
    }

pub wait_step_near : (parts : Parts) (number delay : ℕ) (found : Option Flight)
    → IsScenario parts → slice_get parts.flights number ≡ found → delay + 1 < 65536
    → IsNear 200000000000 (wait_step_at parts.tables found delay)
wait_step_near parts number delay None valid is few =
    record { low = omega (arith, ints); high = omega (arith, ints) }
wait_step_near parts number delay (Some flight) valid is few =
    let now = credit_at-within parts number delay (Some flight) valid is (omega (arith, few)) in
    let next = credit_at-within parts number (delay + 1) (Some flight) valid is few in
    record {
      low = omega (arith, ints, now.high, next.low);
      high = omega (arith, ints, now.low, next.high);
    }

-- a factor of the cost row
abbrev pub IsSmallTerm : Term → Type 0
IsSmallTerm term = IsNear 200000000000 term.factor

unless_near : (factor : ℤ) (variable : Var) → IsNear 200000000000 factor
    → All IsSmallTerm (unless_zero factor variable)
unless_near factor variable near = by (int_eq factor (pos 0))
  where
    by : (b : Bool) → All IsSmallTerm (if b then [] else term_of factor variable ∷ [])
    by true = All-nil IsSmallTerm
    by false = All-cons IsSmallTerm (term_of factor variable) [] near (All-nil IsSmallTerm)

steps_near : (step : ℕ → ℤ) (variable : ℕ → Var) (from count : ℕ)
    → ((delay : ℕ) → delay < from + count → IsNear 200000000000 (step delay))
    → All IsSmallTerm (flat_map (λ delay. unless_zero (step delay) (variable delay))
    (range_with_len from count))
steps_near step variable from zero each = All-nil IsSmallTerm
steps_near step variable from (suc count) each =
    All-append IsSmallTerm (unless_zero (step from) (variable from))
    (flat_map (λ delay. unless_zero (step delay) (variable delay))
    (range_with_len (from + 1) count))
    (unless_near (step from) (variable from) (each from (omega arith)))
    (steps_near step variable (from + 1) count
    (λ delay below. each delay (omega (arith, below))))

flight_near : (parts : Parts) (number : ℕ) (flight : Flight) → IsScenario parts
    → slice_get parts.flights number ≡ Some flight
    → All IsSmallTerm (flight_terms parts.tables parts.day.periods number flight)
flight_near parts number flight valid is =
    let periods = parts.day.periods in
    let short = valid.day.periods_to in
    All-append IsSmallTerm (late_terms parts.tables periods number flight)
    (wait_terms parts.tables periods number flight)
    (steps_near (late_step parts.tables flight)
    (λ delay. By number (length flight.nodes - 1) (flight.sa + delay)) 0 (most_late periods flight)
    (λ delay below. late_step_near parts number delay (Some flight) valid is
    (omega (arith, below, short))))
    (steps_near (wait_step parts.tables flight) (λ delay. By number 0 (flight.sd + delay)) 0
    (most_wait periods flight)
    (λ delay below. wait_step_near parts number delay (Some flight) valid is
    (omega (arith, below, short))))

flights_near : (parts : Parts) (k : ℕ) (flights : List Flight) → IsScenario parts
    → ((i : ℕ) (flight : Flight) → slice_get flights i ≡ Some flight
    → slice_get parts.flights (k + i) ≡ Some flight)
    → All IsSmallTerm (flat_map_from (flight_terms parts.tables parts.day.periods) k flights)
flights_near parts k [] valid there = All-nil IsSmallTerm
flights_near parts k (flight ∷ flights) valid there =
    let part = flight_terms parts.tables parts.day.periods in
    let first : k + 0 ≡ k = omega arith in
    All-append IsSmallTerm (part k flight) (flat_map_from part (k + 1) flights)
    (flight_near parts k flight valid
    (subst (λ n. slice_get parts.flights n ≡ Some flight) first (there 0 flight refl)))
    (flights_near parts (k + 1) flights valid
    (λ i f is. subst (λ n. slice_get parts.flights n ≡ Some f) (omega arith) (there (suc i) f is)))

-- no factor of the cost row is far from 0
pub cost_terms_near : (parts : Parts) → IsScenario parts → All IsSmallTerm (cost_row parts).terms
cost_terms_near parts valid =
    flights_near parts 0 parts.flights valid
    (λ i flight is. subst (λ n. slice_get parts.flights n ≡ Some flight) (omega arith) is)

-- nor is its constant
pub constant_small : (parts : Parts) → IsScenario parts
    → IsNear (2 ^ 60) (cost_row parts).constant
constant_small parts valid =
    let all = constants_near parts parts.flights valid valid.flights.each in
    let few = valid.flights.few in
    record {
      low = omega (arith, ints, all.low, few);
      high = omega (arith, ints, all.high, few);
    }
