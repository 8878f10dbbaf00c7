-- The value of prices is no more than what a feasible plan in the box costs, and neither is the bound
-- that they tell.
use Rattle.std.proofs.Common.{◌≡◌, ℕ, zero, suc, ◌+◌, ◌<◌, ◌≤◌, List, [], ◌∷◌, get_or, length, slice_get, Some, ℤ, pos, ◌+ℤ◌, ◌*ℤ◌, ◌≤ℤ◌, sym, ap, ◌∙◌, subst, arith}
use Rattle.std.specs.List.{range_with_len}
use Rattle.std.proofs.Math.IntN.{*ℤ-zero, *ℤ_comm, zero-*ℤ}
use Rattle.std.proofs.lemmas.Int.{ints}
use Rattle.std.proofs.lemmas.Option.{get_or_from_slice_get}
use Rattle.exact_sums.specs.Sums.{total}
use Rattle.exact_sums.proofs.ProductFacts.{times-more}
use Rattle.exact_sums.proofs.RangeFacts.{total_next}
use Rattle.flow_types.specs.declared.bound.Bound.{Bound}
use Rattle.flow_types.specs.declared.bound.Bound.TheVariants.{AtLeast, NoPlan}
use Rattle.flow_types.specs.declared.flight.Flight.{Flight}
use Rattle.flow_types.specs.declared.parts.Parts.{Parts}
use Rattle.flow_types.specs.declared.plan.Stop.{Stop}
use Rattle.flow_types.specs.Costs.{plan_cost, trip_cost}
use Rattle.flow_types.specs.Feasible.{AreTrips, IsFeasible}
use Rattle.flow_types.specs.Valid.{IsScenario}
use Rattle.plan_rules.proofs.TripFacts.{AreTrips-length}
use Rattle.flight_routes.specs.Inside.{IsTripIn}
use Rattle.flight_routes.specs.Prices.{PriceTable, priced_cost, priced_cost_of}
use Rattle.flight_routes.proofs.InsideFacts.{trip_inside}
use Rattle.time_windows.specs.Boxes.{Box, IsInBox}
use Rattle.time_windows.specs.Plans.{IsBoundIn}
use Rattle.priced_plans.specs.PricedBound.{IsPricedBound}
use Rattle.priced_plans.specs.Values.{IsPricedSum, IsPricedValue, plan_price}
use Rattle.priced_plans.proofs.PayFacts.{feasible-pays}

times-plus : (w : ℕ) (a b : ℤ) → pos w *ℤ (a +ℤ b) ≡ pos w *ℤ a +ℤ pos w *ℤ b
times-plus zero a b = omega (arith, ints, zero-*ℤ (a +ℤ b), zero-*ℤ a, zero-*ℤ b)
times-plus (suc w) a b =
    omega (arith, ints, times-more w (a +ℤ b), times-more w a, times-more w b, times-plus w a b)

module _ (parts : Parts) (box : Box) (plan : List (List Stop))
    (trips : AreTrips parts.day.periods parts.flights plan) (inside : IsInBox box plan) where
  module _ (weight : ℕ) (table : PriceTable) where
    -- the least costs are no more than those of the plan
    sum-below : (n : ℕ) → n ≤ length parts.flights → (sum : ℤ)
        → IsPricedSum parts box weight table n sum
        → sum ≤ℤ total (λ k. priced_cost weight table parts k (get_or plan k []))
        (range_with_len 0 n)
    sum-below zero upto sum is = omega (arith, ints, is)
    sum-below (suc n) upto sum is =
        let cost = λ (k : ℕ). priced_cost weight table parts k (get_or plan k []) in
        let before = sum-below n (omega (arith, upto)) is.0 is.2 in
        let trip = trip_inside parts box plan trips inside n (omega (arith, upto)) in
        let at : get_or plan n [] ≡ trip.0 = get_or_from_slice_get plan n trip.0 [] trip.1 in
        let least = is.3.below trip.0 trip.2 in
        let here : is.1 ≤ℤ cost n =
        subst (λ t. is.1 ≤ℤ priced_cost weight table parts n t) (sym at) least in
        let next : suc n ≡ n + 1 = omega arith in
        let more = ap (λ m. total cost (range_with_len 0 m)) next ∙ total_next cost n in
        omega (arith, ints, before, here, more, is.4)

-- the priced costs of a plan are the weight times its cost, and what it pays
priced_is : (parts : Parts) (weight : ℕ) (table : PriceTable) (cost : ℕ → ℤ) (from : ℕ)
    (flights : List Flight) (plan : List (List Stop)) → length plan ≡ length flights
    → ((k : ℕ) → cost (from + k)
    ≡ priced_cost_of weight table parts (from + k) (slice_get flights k) (get_or plan k []))
    → total cost (range_with_len from (length flights))
    ≡ pos weight *ℤ plan_cost parts.tables flights plan
    +ℤ plan_price table parts from flights plan
priced_is parts weight table cost from [] plan long each =
    omega (arith, ints, *ℤ-zero (pos weight))
priced_is parts weight table cost from (flight ∷ flights) [] long each =
    absurd (omega (arith, long))
priced_is parts weight table cost from (flight ∷ flights) (trip ∷ plan) long each =
    let here = ap cost (first from) ∙ each 0
    ∙ ap (λ n. priced_cost_of weight table parts n (Some flight) trip) (sym (first from)) in
    let later = priced_is parts weight table cost (from + 1) flights plan (omega (arith, long))
    (λ k. ap cost (next from k) ∙ each (suc k)
    ∙ ap (λ n. priced_cost_of weight table parts n (slice_get flights k) (get_or plan k []))
    (sym (next from k))) in
    let shared = times-plus weight (trip_cost parts.tables flight trip)
    (plan_cost parts.tables flights plan) in
    omega (arith, ints, here, later, shared)
  where
    first : (n : ℕ) → n ≡ n + 0
    first n = omega arith

    next : (n k : ℕ) → n + 1 + k ≡ n + suc k
    next n k = omega arith

-- a feasible plan in the box costs no less than the value
pub value-below : (parts : Parts) (box : Box) (weight : ℕ) (table : PriceTable) (value : ℤ)
    (plan : List (List Stop)) → IsScenario parts → IsPricedValue parts box weight table value
    → IsFeasible parts plan → IsInBox box plan
    → value ≤ℤ (pos weight *ℤ plan_cost parts.tables parts.flights plan)
value-below parts box weight table value plan valid is feasible inside =
    let below = sum-below parts box plan feasible.trips inside weight table
    (length parts.flights) (omega arith) is.sum is.least in
    let same = priced_is parts weight table
    (λ k. priced_cost weight table parts k (get_or plan k [])) 0 parts.flights plan
    (AreTrips-length parts.day.periods parts.flights plan feasible.trips)
    (λ k. trade k (0 + k) (front k)) in
    let pays = feasible-pays parts table plan valid feasible in
    omega (arith, ints, below, same, pays, is.less)
  where
    front : (k : ℕ) → k ≡ 0 + k
    front k = omega arith

    trade : (k n : ℕ) → k ≡ n
        → priced_cost weight table parts n (get_or plan n [])
        ≡ priced_cost_of weight table parts n (slice_get parts.flights k) (get_or plan k [])
    trade k n same =
        ap (λ (m : ℕ). priced_cost_of weight table parts n (slice_get parts.flights m)
        (get_or plan m [])) (sym same)

-- no plan is in a box in which a flight has no trip
pub none-inside : (parts : Parts) (box : Box) (number : ℕ) (plan : List (List Stop))
    → number < length parts.flights
    → ((stops : List Stop) → IsTripIn parts box number stops → ⊥) → IsFeasible parts plan
    → IsInBox box plan → ⊥
none-inside parts box number plan within none feasible inside =
    let trip = trip_inside parts box plan feasible.trips inside number within in
    none trip.0 trip.2

-- a bound that prices tell is one of the feasible plans
pub bound-below : (parts : Parts) (box : Box) (weight : ℕ) (table : PriceTable) (bound : Bound)
    → IsScenario parts → IsPricedBound parts box weight table bound
    → IsBoundIn parts box bound
bound-below parts box weight table NoPlan valid is = λ plan kept.
    none-inside parts box is.number plan is.within is.none kept.feasible kept.inside
bound-below parts box weight table (AtLeast least) valid is = λ plan kept.
    let below = value-below parts box weight table is.0 plan valid is.1 kept.feasible kept.inside
    in
    let cost = plan_cost parts.tables parts.flights plan in
    is.2.below cost (subst (λ z. is.0 ≤ℤ z) (*ℤ_comm (pos weight) cost) below)
