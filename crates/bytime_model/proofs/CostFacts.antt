-- The cost row's value at a plan is the plan's cost.
use Rattle.std.proofs.Common.{◌≡◌, All, ℕ, zero, suc, ◌+◌, ◌-◌, ◌<◌, ◌≤◌, ◌==◌, Bool, true, false, min, max, List, [], ◌∷◌, ◌++◌, length, slice_get, Option, Some, ◌*◌, ◌^◌, get_or, take, if◌then◌else◌, ℤ, pos, neg_ℤ, ◌+ℤ◌, ◌-ℤ◌, ◌*ℤ◌, refl, sym, ◌∙◌, ap, ap₂, subst, arith, inl, inr}
use Rattle.std.proofs.lemmas.Bool.{cases_lt, eq-eqb, ne_eqb}
use Rattle.std.proofs.lemmas.Bool.Decides.{Decides-int_eq}
use Rattle.std.proofs.lemmas.Int.{ints}
use Rattle.std.proofs.lemmas.List.{length-take}
use Rattle.std.proofs.lemmas.List.Elements.{All-head, All-tail, All-take}
use Rattle.std.specs.List.{flat_map, range_with_len}
use Rattle.std.specs.Ordering.{int_eq}
use Rattle.flow_types.specs.declared.flight.CostTable.{CostTable}
use Rattle.flow_types.specs.declared.flight.Flight.{Flight}
use Rattle.flow_types.specs.declared.parts.Parts.{Parts}
use Rattle.flow_types.specs.declared.plan.Stop.{Stop}
use Rattle.flow_types.specs.Costs.{credit_of, plan_cost, times_cost, total_of, trip_cost}
use Rattle.flow_types.specs.Feasible.{AreTrips}
use Rattle.flow_types.specs.Trips.{IsOnward, IsTrip, IsWithinHours, arrival_from}
use Rattle.flow_types.specs.Limits.{most_delay_cost}
use Rattle.flow_types.specs.Valid.{IsFlight, IsScenario}
use Rattle.flow_types.proofs.CostFacts.{credit_within, total_within}
use Rattle.bytime_model.specs.declared.variables.Term.{Term}
use Rattle.bytime_model.specs.declared.variables.Var.{Var}
use Rattle.bytime_model.specs.declared.variables.Var.TheVariants.{By}
use Rattle.bytime_model.specs.CostRow.{constants, cost_row, flight_constant, flight_terms, late_step, late_terms, most_late, most_wait, priced_value, steps, unless_zero, wait_step, wait_terms}
use Rattle.exact_sums.specs.Near.{IsNear}
use Rattle.bytime_model.specs.Rows.{term_of}
use Rattle.bytime_model.specs.Values.{form_value, value_at}
use Rattle.bytime_model.proofs.FormFacts.{form-append}
use Rattle.bytime_model.proofs.EntryFacts.{by_few}
use Rattle.bytime_model.proofs.ValidFacts.{flown}
use Rattle.bytime_model.proofs.UseFacts.{IsFlown, arrived_by, by_value, departed, departed_by, not_arrived_by}
use Rattle.exact_sums.specs.Lists.{flat_map_from}
use Rattle.exact_sums.proofs.LoopFacts.{next_number}
use Rattle.exact_sums.proofs.SumFacts.{next_total}

module _ (value : Var → ℕ) where
  -- a term of 0 is worth nothing
  pub unless-zero : (factor : ℤ) (variable : Var)
      → form_value value (unless_zero factor variable) ≡ factor *ℤ pos (value variable)
  unless-zero factor variable = by (int_eq factor (pos 0)) refl
    where
      by : (b : Bool) → int_eq factor (pos 0) ≡ b
          → form_value value (if b then [] else term_of factor variable ∷ [])
          ≡ factor *ℤ pos (value variable)
      by true is =
          let none : factor ≡ pos 0 = (Decides-int_eq factor (pos 0)).0 is in
          let nothing : pos 0 *ℤ pos (value variable) ≡ pos 0 = omega (arith, ints) in
          sym nothing ∙ ap (λ f. f *ℤ pos (value variable)) (sym none)
      by false not = omega (arith, ints)

  not_yet : (factor : ℤ) (variable : Var) → value variable ≡ 0
      → form_value value (unless_zero factor variable) ≡ pos 0
  not_yet factor variable none =
      let nothing : factor *ℤ pos 0 ≡ pos 0 = omega (arith, ints) in
      unless-zero factor variable ∙ ap (λ n. factor *ℤ pos n) none ∙ nothing

  by_then : (factor : ℤ) (variable : Var) → value variable ≡ 1
      → form_value value (unless_zero factor variable) ≡ factor
  by_then factor variable one =
      let same : factor *ℤ pos 1 ≡ factor = omega (arith, ints) in
      unless-zero factor variable ∙ ap (λ n. factor *ℤ pos n) one ∙ same

  -- Of what is done from so many periods on, all that is worth less later falls away.
  steps-from : (worth step : ℕ → ℤ) → ((d : ℕ) → step d ≡ worth d -ℤ worth (d + 1))
      → (variable : ℕ → Var) (from count done : ℕ) → done ≤ from + count
      → ((d : ℕ) → d < from + count → d < done → value (variable d) ≡ 0)
      → ((d : ℕ) → d < from + count → done ≤ d → value (variable d) ≡ 1)
      → form_value value (flat_map (λ d. unless_zero (step d) (variable d))
      (range_with_len from count)) ≡ worth (max from done) -ℤ worth (from + count)
  steps-from worth step falls variable from zero done within before after =
      let same : worth (max from done) ≡ worth (from + 0) = ap worth (omega (arith, within)) in
      omega (arith, ints, same)
  steps-from worth step falls variable from (suc count) done within before after =
      let factor = step from in
      let fall = falls from in
      let rest = steps-from worth step falls variable (from + 1) count done (omega (arith, within))
      (λ d below early. before d (omega (arith, below)) early)
      (λ d below late. after d (omega (arith, below)) late) in
      let end : worth (from + 1 + count) ≡ worth (from + suc count) = ap worth (omega arith) in
      let both = form-append value (unless_zero factor (variable from))
      (flat_map (λ d. unless_zero (step d) (variable d)) (range_with_len (from + 1) count)) in
      elim (cases_lt from done)
      as (λ _. form_value value (unless_zero factor (variable from)
      ++ flat_map (λ d. unless_zero (step d) (variable d)) (range_with_len (from + 1) count))
      ≡ worth (max from done) -ℤ worth (from + suc count)) [
        | inl early ↦
            let here = not_yet factor (variable from) (before from (omega arith) early) in
            let start : worth (max (from + 1) done) ≡ worth (max from done) =
            ap worth (omega (arith, early)) in
            omega (arith, ints, both, here, rest, end, start)
        | inr late ↦
            let here = by_then factor (variable from) (after from (omega arith) late) in
            let start : worth (max (from + 1) done) ≡ worth (from + 1) =
            ap worth (omega (arith, late)) in
            let now : worth (max from done) ≡ worth from = ap worth (omega (arith, late)) in
            omega (arith, ints, both, here, rest, end, start, now, fall)
      ]

  pub steps-value : (worth step : ℕ → ℤ) → ((d : ℕ) → step d ≡ worth d -ℤ worth (d + 1))
      → (variable : ℕ → Var) (count done : ℕ) → done ≤ count
      → ((d : ℕ) → d < count → d < done → value (variable d) ≡ 0)
      → ((d : ℕ) → d < count → done ≤ d → value (variable d) ≡ 1)
      → form_value value (steps step variable count) ≡ worth done -ℤ worth count
  steps-value worth step falls variable count done within before after =
      let start : worth (max 0 done) ≡ worth done = ap worth (omega arith) in
      let end : worth (0 + count) ≡ worth count = ap worth (omega arith) in
      let all = steps-from worth step falls variable 0 count done (omega (arith, within))
      (λ d below. before d (omega (arith, below))) (λ d below. after d (omega (arith, below))) in
      all ∙ ap₂ (λ a b. a -ℤ b) start end

-- The flight's terms and constant are worth what its trip costs.
module _ (tables : List CostTable) (flights : List Flight) (plan : List (List Stop))
    (periods f : ℕ) (flight : Flight) (trip : List Stop)
    (is : IsFlown flights plan periods f flight trip) where
  abbrev value_in : Var → ℕ
  value_in = value_at flights plan

  -- the hours of its departure and its arrival
  departs_within : (stop : Stop) (rest : List Stop) → IsTrip periods flight (stop ∷ rest)
      → (flight.sd ≤ stop.time) × (stop.time ≤ min (flight.sd + flight.mg) (periods - 1))
  departs_within stop rest valid =
      let early = valid.1.early in
      let late = valid.1.late in
      let at = valid.0 in
      (rw at at early, rw at at late)

  -- what its departure and arrival are worth
  departure_value : (stop : Stop) (rest : List Stop) → stop ∷ rest ≡ trip
      → form_value value_in (wait_terms tables periods f flight)
      ≡ credit_of tables flight.cost (most_wait periods flight)
      -ℤ credit_of tables flight.cost (stop.time - flight.sd)
  departure_value stop rest same =
      let valid : IsTrip periods flight (stop ∷ rest) =
      subst (IsTrip periods flight) (sym same) is.valid in
      let hours = departs_within stop rest valid in
      let steps-worth = steps-value value_in (λ d. neg_ℤ (credit_of tables flight.cost d))
      (wait_step tables flight) (λ d. omega (arith, ints)) (λ d. By f 0 (flight.sd + d))
      (most_wait periods flight) (stop.time - flight.sd)
      (omega (arith, hours.0, hours.1))
      (λ d below early. by_value flights plan periods f flight trip is 0 (flight.sd + d)
      ∙ departed flights plan periods f flight trip is (flight.sd + d) stop rest same
      (omega (arith, early)))
      (λ d below late. by_value flights plan periods f flight trip is 0 (flight.sd + d)
      ∙ departed_by flights plan periods f flight trip is (flight.sd + d) stop rest same
      (omega (arith, late, hours.0))) in
      omega (arith, ints, steps-worth)

  arrives_within : (stop : Stop) (rest : List Stop) → IsWithinHours periods flight stop
      → IsOnward periods flight stop rest
      → (flight.sa ≤ arrival_from stop rest)
      × (arrival_from stop rest ≤ min (flight.sa + flight.md) (periods - 1))
  arrives_within stop [] hours onward =
      let some = is.some in
      let other : (stop.node == 0) ≡ false =
      ne_eqb stop.node 0 (λ zero. omega (arith, zero, onward, some)) in
      let last : (stop.node + 1 == length flight.nodes) ≡ true =
      eq-eqb (stop.node + 1) (length flight.nodes) onward in
      let early = hours.early in
      let late = hours.late in
      (rw (other, last) at early, rw (other, last) at late)
  arrives_within stop (next ∷ rest) hours onward =
      arrives_within next rest onward.1 onward.2

  arrival_value : (stop : Stop) (rest : List Stop) → stop ∷ rest ≡ trip
      → form_value value_in (late_terms tables periods f flight)
      ≡ total_of tables flight.cost (arrival_from stop rest - flight.sa)
      -ℤ total_of tables flight.cost (most_late periods flight)
  arrival_value stop rest same =
      let valid : IsTrip periods flight (stop ∷ rest) =
      subst (IsTrip periods flight) (sym same) is.valid in
      let hours = arrives_within stop rest valid.1 valid.2 in
      let last = length flight.nodes - 1 in
      steps-value value_in (total_of tables flight.cost) (late_step tables flight) (λ d. refl)
      (λ d. By f last (flight.sa + d)) (most_late periods flight)
      (arrival_from stop rest - flight.sa)
      (omega (arith, hours.0, hours.1))
      (λ d below early. by_value flights plan periods f flight trip is last (flight.sa + d)
      ∙ not_arrived_by flights plan periods f flight trip is (flight.sa + d) stop rest same
      (omega (arith, early)))
      (λ d below late. by_value flights plan periods f flight trip is last (flight.sa + d)
      ∙ omega (
        arith,
        by_few last (flight.sa + d) trip,
        arrived_by flights plan periods f flight trip is (flight.sa + d) stop rest same
            (omega (arith, late, hours.0)),
      ))

  flight_cost : (stops : List Stop) → stops ≡ trip
      → flight_constant tables periods flight
      +ℤ form_value value_in (flight_terms tables periods f flight)
      ≡ trip_cost tables flight trip
  flight_cost [] same = absurd (subst (IsTrip periods flight) (sym same) is.valid)
  flight_cost (stop ∷ rest) same =
      let both = form-append value_in (late_terms tables periods f flight)
      (wait_terms tables periods f flight) in
      let worth : flight_constant tables periods flight
      +ℤ form_value value_in (flight_terms tables periods f flight)
      ≡ times_cost tables flight stop.time (arrival_from stop rest) =
      omega (arith, ints, both, arrival_value stop rest same, departure_value stop rest same) in
      worth ∙ ap (trip_cost tables flight) same

  pub flight_priced : flight_constant tables periods flight
      +ℤ form_value value_in (flight_terms tables periods f flight)
      ≡ trip_cost tables flight trip
  flight_priced = flight_cost trip refl

-- and those of all flights what the plan costs
pub all_priced : (value : Var → ℕ) (tables : List CostTable) (periods k : ℕ)
    (flights : List Flight) (plan : List (List Stop)) → AreTrips periods flights plan
    → ((i : ℕ) (flight : Flight) (trip : List Stop) → slice_get flights i ≡ Some flight
    → slice_get plan i ≡ Some trip
    → flight_constant tables periods flight
    +ℤ form_value value (flight_terms tables periods (k + i) flight)
    ≡ trip_cost tables flight trip)
    → constants tables periods flights
    +ℤ form_value value (flat_map_from (flight_terms tables periods) k flights)
    ≡ plan_cost tables flights plan
all_priced value tables periods k [] plan trips each = omega (arith, ints)
all_priced value tables periods k (flight ∷ flights) [] trips each = absurd trips
all_priced value tables periods k (flight ∷ flights) (trip ∷ plan) trips each =
    let part = flight_terms tables periods in
    let here = each 0 flight trip refl refl in
    let same : form_value value (part (k + 0) flight) ≡ form_value value (part k flight) =
    ap (λ n. form_value value (part n flight)) (omega arith) in
    let rest = all_priced value tables periods (k + 1) flights plan trips.1
    (λ i fl tr is too. subst (λ n. flight_constant tables periods fl
    +ℤ form_value value (part n fl) ≡ trip_cost tables fl tr) (omega arith)
    (each (suc i) fl tr is too)) in
    omega (
      arith,
      ints,
      form-append value (part k flight) (flat_map_from part (k + 1) flights),
      same,
      here,
      rest,
    )

pub plan_priced : (parts : Parts) (plan : List (List Stop)) → IsScenario parts
    → AreTrips parts.day.periods parts.flights plan
    → priced_value (value_at parts.flights plan) (cost_row parts)
    ≡ plan_cost parts.tables parts.flights plan
plan_priced parts plan scenario trips =
    all_priced (value_at parts.flights plan) parts.tables parts.day.periods 0 parts.flights plan
    trips (λ i flight trip found is.
    let own = flown parts plan scenario trips i flight found in
    let same : own.0 ≡ trip = some_same own.1.flown is in
    let number : i ≡ 0 + i = omega arith in
    subst (λ n. flight_constant parts.tables parts.day.periods flight
    +ℤ form_value (value_at parts.flights plan)
    (flight_terms parts.tables parts.day.periods n flight)
    ≡ trip_cost parts.tables flight trip) number
    (flight_priced parts.tables parts.flights plan parts.day.periods i flight own.0 own.1
    ∙ ap (trip_cost parts.tables flight) same))
  where
    some_same : {A : Type 0} {o : Option A} {a b : A} → o ≡ Some a → o ≡ Some b → a ≡ b
    some_same p q = cc

-- one step more
pub steps_suc : (step : ℕ → ℤ) (variable : ℕ → Var) (count : ℕ)
    → steps step variable (count + 1)
    ≡ steps step variable count ++ unless_zero (step count) (variable count)
steps_suc step variable count =
    let part : ℕ → List Term = λ d. unless_zero (step d) (variable d) in
    let next : count + 1 ≡ suc count = omega arith in
    let at : 0 + count ≡ count = omega arith in
    ap (λ n. flat_map part (range_with_len 0 n)) next ∙ next_number part 0 count
    ∙ ap (λ n. steps step variable count ++ part n) at

-- how far from 0 a flight's constant may be
flight_constant_near : (parts : Parts) (flight : Flight) → IsScenario parts
    → IsFlight parts.day.periods parts.places parts.tables flight
    → IsNear 200000000000 (flight_constant parts.tables parts.day.periods flight)
flight_constant_near parts flight valid ok =
    let periods = parts.day.periods in
    let short = valid.day.periods_to in
    let total = total_within parts.tables flight.mg flight.md (most_late periods flight)
    most_delay_cost flight.cost valid.tables.each ok.cost (omega arith) (omega (arith, short)) in
    let credit = credit_within parts.tables flight.mg flight.md (most_wait periods flight)
    most_delay_cost flight.cost valid.tables.each ok.cost (omega arith) (omega (arith, short)) in
    record {
      low = omega (arith, ints, total.low, credit.high);
      high = omega (arith, ints, total.high, credit.low);
    }

pub constants_near : (parts : Parts) (flights : List Flight) → IsScenario parts
    → All (IsFlight parts.day.periods parts.places parts.tables) flights
    → IsNear (200000000000 * length flights)
    (constants parts.tables parts.day.periods flights)
constants_near parts [] valid all =
    record { low = omega (arith, ints); high = omega (arith, ints) }
constants_near parts (flight ∷ flights) valid all =
    let ok = IsFlight parts.day.periods parts.places parts.tables in
    let one = flight_constant_near parts flight valid (All-head ok flight flights all) in
    let rest = constants_near parts flights valid (All-tail ok flight flights all) in
    record {
      low = omega (arith, ints, one.low, rest.low);
      high = omega (arith, ints, one.high, rest.high);
    }

-- the constants of the flights so far
pub constant_more : (parts : Parts) (number : ℕ) (flight : Flight)
    → number < length parts.flights → flight ≡ get_or parts.flights number flight
    → constants parts.tables parts.day.periods (take (number + 1) parts.flights)
    ≡ constants parts.tables parts.day.periods (take number parts.flights)
    +ℤ flight_constant parts.tables parts.day.periods flight
constant_more parts number flight below is =
    let sum = constants parts.tables parts.day.periods in
    next_total (flight_constant parts.tables parts.day.periods) parts.flights number flight below
    ∙ ap (λ f. sum (take number parts.flights)
    +ℤ flight_constant parts.tables parts.day.periods f) (sym is)

pub constant_near : (parts : Parts) (number : ℕ) → IsScenario parts
    → IsNear (2 ^ 60)
    (constants parts.tables parts.day.periods (take number parts.flights))
constant_near parts number valid =
    let few = valid.flights.few in
    let taken = length-take number parts.flights in
    let near = constants_near parts (take number parts.flights) valid
    (All-take (IsFlight parts.day.periods parts.places parts.tables) number parts.flights
    valid.flights.each) in
    record {
      low = omega (arith, ints, near.low, few, taken);
      high = omega (arith, ints, near.high, few, taken);
    }
