-- A leaf's bound is one: no plan in the box that keeps every rule costs less.
use Rattle.std.proofs.Common.{◌≡◌, ℕ, List, length, Ok, inl, inr, sym, ◌∙◌, ap, subst, arith}
use Rattle.std.proofs.lemmas.Int.{ints}
use Rattle.std.proofs.lemmas.List.{take_all}
use Rattle.flow_types.specs.declared.bound.Bound.{Bound}
use Rattle.flow_types.specs.declared.bound.Bound.TheVariants.{AtLeast, NoPlan}
use Rattle.flow_types.specs.declared.parts.Parts.{Parts}
use Rattle.flow_types.specs.declared.plan.Stop.{Stop}
use Rattle.flow_types.specs.Costs.{plan_cost}
use Rattle.flow_types.specs.Feasible.{IsFeasible}
use Rattle.flow_types.specs.Valid.{IsScenario}
use Rattle.plan_rules.proofs.TripFacts.{AreTrips-length}
use Rattle.time_windows.specs.Boxes.{Box, IsBoxOf, IsClosedMust, IsInBox}
use Rattle.branch_tree.specs.declared.leaf.Leaf.{Leaf}
use Rattle.branch_tree.specs.declared.leaf.Leaf.TheVariants.{Dual, Empty, Lag, Unit as UnitLeaf}
use Rattle.bytime_model.specs.declared.multiplier.Multiplier.{Multiplier}
use Rattle.cut_rows.specs.declared.names.CutName.{CutName}
use Rattle.dual_leaf.specs.Leaf.{IsCostIn, IsDualAnswer, IsLagAnswer, IsLeafBound, IsUnitBox}
use Rattle.time_windows.specs.Plans.{IsBoundIn}
use Rattle.dual_leaf.proofs.LagFacts.{table-sound}
use Rattle.dual_leaf.proofs.OptionFacts.{no_plan_by}
use Rattle.dual_leaf.proofs.SoundFacts.{dual_sound}
use Rattle.dual_leaf.proofs.UnitBoxFacts.{one_trip}
use Rattle.dual_leaf.proofs.UnitSumFacts.{same_first, trip_in}

-- two plans in a unit box are one
pub same_plan : (parts : Parts) (box : Box) (plan other : List (List Stop)) → IsScenario parts
    → IsUnitBox box → IsFeasible parts plan → IsInBox box plan → IsFeasible parts other
    → IsInBox box other → other ≡ plan
same_plan parts box plan other valid unit feasible inside other_feasible other_inside =
    let long = AreTrips-length parts.day.periods parts.flights plan feasible.trips in
    let other_long = AreTrips-length parts.day.periods parts.flights other other_feasible.trips in
    sym (take_all (length plan) other (omega (arith, long, other_long)))
    ∙ same_first plan other (omega (arith, long, other_long)) (λ k x y is at.
    one_trip parts box k x y valid unit (trip_in parts box plan feasible inside k x is)
    (trip_in parts box other other_feasible other_inside k y at))

unit_sound : (parts : Parts) (box : Box) (bound : Bound) → IsScenario parts → IsUnitBox box
    → IsCostIn parts box bound → IsBoundIn parts box bound
unit_sound parts box NoPlan valid unit cost = cost
unit_sound parts box (AtLeast least) valid unit (plan, kept, is) =
    λ other other_kept.
    let same = ap (plan_cost parts.tables parts.flights)
    (same_plan parts box plan other valid unit kept.feasible kept.inside other_kept.feasible
    other_kept.inside) in
    omega (arith, ints, same, is)

empty_sound : (parts : Parts) (box : Box) (bound : Bound) → IsBoxOf parts box → bound ≡ NoPlan
    → (f n : ℕ) → IsClosedMust (box f n) → IsBoundIn parts box bound
empty_sound parts box bound made is f n closed =
    subst (IsBoundIn parts box) (sym is) (no_plan_by parts box f n made closed)

dual_bound : (parts : Parts) (pool : List CutName) (box : Box) (weight : ℕ)
    (rows : List Multiplier) (bound : Bound) → IsScenario parts → IsBoxOf parts box
    → IsDualAnswer parts pool box weight rows (Ok bound)
    → IsBoundIn parts box bound
dual_bound parts pool box weight rows bound valid made (inl is) =
    dual_sound parts pool box weight rows bound valid made is
dual_bound parts pool box weight rows bound valid made (inr fault) = absurd fault

lag_bound : (parts : Parts) (box : Box) (weight : ℕ) (rows : List Multiplier) (bound : Bound)
    → IsScenario parts → IsLagAnswer parts box weight rows (Ok bound) → IsBoundIn parts box bound
lag_bound parts box weight rows bound valid (inl is) =
    table-sound parts box weight is.table (Ok bound) valid is.answered
lag_bound parts box weight rows bound valid (inr fault) = absurd fault

pub leaf_bounds : (parts : Parts) (pool : List CutName) (box : Box) (leaf : Leaf) (bound : Bound)
    → IsScenario parts → IsBoxOf parts box → IsLeafBound parts pool box leaf (Ok bound)
    → IsBoundIn parts box bound
leaf_bounds parts pool box Empty bound valid made (is, (f, n, closed)) =
    empty_sound parts box bound made is f n closed
leaf_bounds parts pool box UnitLeaf bound valid made (unit, cost) =
    unit_sound parts box bound valid unit cost
leaf_bounds parts pool box (Dual weight rows) bound valid made is =
    dual_bound parts pool box weight rows bound valid made is
leaf_bounds parts pool box (Lag weight rows) bound valid made is =
    lag_bound parts box weight rows bound valid is
