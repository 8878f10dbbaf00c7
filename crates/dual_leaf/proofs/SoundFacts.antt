-- Weak duality: no plan in the box that keeps every rule costs less than a leaf says.
use Rattle.std.proofs.Common.{◌≡◌, ℕ, suc, ◌≤◌, true, List, [], ◌∷◌, Option, None, Some, slice_get, IfOk, Result, Ok, Err, ℤ, pos, ◌*ℤ◌, ◌≤ℤ◌, Bool, false, if◌then◌else◌, refl, sym, ap, ◌∙◌, subst, arith}
use Rattle.std.proofs.lemmas.Int.{ints}
use Rattle.std.proofs.Math.IntN.{*ℤ_comm, zero-*ℤ}
use Rattle.flow_types.specs.declared.bound.Bound.{Bound}
use Rattle.flow_types.specs.declared.bound.Bound.TheVariants.{AtLeast, NoPlan}
use Rattle.flow_types.specs.declared.flight.Flight.{Flight}
use Rattle.flow_types.specs.declared.parts.Parts.{Parts}
use Rattle.flow_types.specs.declared.plan.Stop.{Stop}
use Rattle.flow_types.specs.Costs.{plan_cost}
use Rattle.flow_types.specs.Counts.{stays_at}
use Rattle.flow_types.specs.Feasible.{IsFeasible}
use Rattle.flow_types.specs.Trips.{place_at}
use Rattle.flow_types.specs.Valid.{IsScenario}
use Rattle.time_windows.specs.Boxes.{Box, IsBoxOf, IsInBox}
use Rattle.bytime_model.specs.declared.variables.Var.{Var}
use Rattle.bytime_model.specs.declared.variables.Var.TheVariants.{By, Inside}
use Rattle.bytime_model.specs.Values.{by_at, has_inside, inside_at, value_at}
use Rattle.bytime_model.proofs.CostFacts.{plan_priced}
use Rattle.bytime_model.proofs.EntryFacts.{by_few}
use Rattle.bytime_model.proofs.LeftFacts.{agrees}
use Rattle.bytime_model.proofs.ValidFacts.{flown}
use Rattle.bytime_model.specs.declared.multiplier.Multiplier.{Multiplier}
use Rattle.plan_rules.proofs.CountFacts.{stays_at-once}
use Rattle.cut_rows.specs.declared.names.CutName.{CutName}
use Rattle.cut_rows.specs.Pools.{row_with}
use Rattle.cut_rows.proofs.PoolRows.{kept_with}
use Rattle.dual_sums.specs.Dual.{AreKnown, IsChoice, IsDualValue, dual_at, excess, excesses}
use Rattle.time_windows.specs.Tight.{IsLive}
use Rattle.dual_leaf.specs.Leaf.{IsDualBound, IsAnswerOf}
use Rattle.time_windows.specs.Plans.{IsBoundIn}
use Rattle.dual_leaf.specs.declared.fault.LeafFault.{LeafFault}
use Rattle.dual_sums.proofs.TimesFacts.{times-down}

module _ (parts : Parts) (scenario : IsScenario parts) (box : Box) (made : IsBoxOf parts box)
    (plan : List (List Stop)) (feasible : IsFeasible parts plan) (inside : IsInBox box plan) where
  abbrev value : Var → ℕ
  value = value_at parts.flights plan

  by_bit : (n t : ℕ) (found : Option (List Stop)) → by_at n t found ≤ 1
  by_bit n t None = omega arith
  by_bit n t (Some trip) = by_few n t trip

  inside_bit : (f n t : ℕ) (flight : Option Flight) → slice_get parts.flights f ≡ flight
      → inside_at n t flight (slice_get plan f) ≤ 1
  inside_bit f n t None none = omega arith
  inside_bit f n t (Some flight) found =
      let own = flown parts plan scenario feasible.trips f flight found in
      subst (λ trip. inside_at n t (Some flight) trip ≤ 1) (sym own.1.flown)
      (by (has_inside (Some flight) n) own.0
      (stays_at-once parts.day.periods (place_at flight n) t flight own.0 own.1.valid))
    where
      by : (b : Bool) (trip : List Stop) → stays_at (place_at flight n) t flight trip ≤ 1
          → (if b then stays_at (place_at flight n) t flight trip else 0) ≤ 1
      by true trip once = once
      by false trip once = omega arith

  bits : (variable : Var) → value variable ≤ 1
  bits (By f n t) = by_bit n t (slice_get plan f)
  bits (Inside f n t) = inside_bit f n t (slice_get parts.flights f) refl

  -- the values of the variables at the plan are as the box leaves them
  plan_is : IsChoice parts.flights box value
  plan_is = record {
    bits = bits;
    agree = agrees parts plan scenario feasible.trips box made inside;
  }

  excess_down : (pool : List CutName) (rows : List Multiplier) → AreKnown parts pool rows
      → excesses parts pool rows value ≤ℤ pos 0
  excess_down pool [] known = omega (arith, ints)
  excess_down pool (m ∷ rows) known =
      let kept = kept_with parts pool plan m.row scenario feasible (known 0 m refl) in
      let here = times-down m.value (excess value (row_with parts pool m.row)) (omega (
        arith,
        ints,
        kept,
      )) in
      let rest = excess_down pool rows (λ k other is. known (suc k) other is) in
      omega (arith, ints, here, rest)

  dual_le : (pool : List CutName) (weight : ℕ) (rows : List Multiplier) → AreKnown parts pool rows
      → dual_at parts pool weight rows value
      ≤ℤ (pos weight *ℤ plan_cost parts.tables parts.flights plan)
  dual_le pool weight rows known =
      let cost = ap (λ n. pos weight *ℤ n) (plan_priced parts plan scenario feasible.trips) in
      let down = excess_down pool rows known in
      omega (arith, ints, cost, down)

pub dual_sound : (parts : Parts) (pool : List CutName) (box : Box) (weight : ℕ)
    (rows : List Multiplier) (bound : Bound) → IsScenario parts → IsBoxOf parts box
    → IsDualBound parts pool box weight rows (Ok bound)
    → IsBoundIn parts box bound
dual_sound parts pool box weight rows NoPlan scenario made is = λ plan kept.
    let le = is.least.below (value_at parts.flights plan)
    (plan_is parts scenario box made plan kept.feasible kept.inside) in
    let cost = dual_le parts scenario box made plan kept.feasible kept.inside pool weight rows
    is.known in
    let zero_of = ap (λ w. pos w *ℤ plan_cost parts.tables parts.flights plan) is.answered.0
    ∙ zero-*ℤ (plan_cost parts.tables parts.flights plan) in
    absurd (omega (arith, ints, le, cost, zero_of, is.answered.1))
dual_sound parts pool box weight rows (AtLeast least) scenario made is = λ plan kept.
    let le = is.least.below (value_at parts.flights plan)
    (plan_is parts scenario box made plan kept.feasible kept.inside) in
    let cost = dual_le parts scenario box made plan kept.feasible kept.inside pool weight rows
    is.known in
    let turned = *ℤ_comm (pos weight) (plan_cost parts.tables parts.flights plan) in
    is.answered.1.below (plan_cost parts.tables parts.flights plan)
    (omega (arith, ints, le, cost, turned))

pub if_sound : (parts : Parts) (pool : List CutName) (box : Box) (weight : ℕ)
    (rows : List Multiplier) (answer : Result Bound LeafFault) → IsScenario parts
    → IsBoxOf parts box → IsLive box
    → AreKnown parts pool rows → (value : ℤ) → IsDualValue parts pool box weight rows value
    → IsAnswerOf weight value answer → IfOk answer (IsBoundIn parts box)
if_sound parts pool box weight rows (Ok bound) scenario made live known value least answered =
    dual_sound parts pool box weight rows bound scenario made
    (record { live = live; known = known; value = value; least = least; answered = answered })
if_sound parts pool box weight rows (Err fault) scenario made live known value least answered = tt
