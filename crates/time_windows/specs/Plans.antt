-- The plans of a box, and the bounds over them.
use Rattle.std.specs.Prelude.{List}
use Rattle.flow_types.specs.declared.bound.Bound.{Bound}
use Rattle.flow_types.specs.declared.bound.Bound.TheVariants.{NoPlan}
use Rattle.flow_types.specs.declared.parts.Parts.{Parts}
use Rattle.flow_types.specs.declared.plan.Stop.{Stop}
use Rattle.flow_types.specs.Bounds.{IsLowerBound}
use Rattle.flow_types.specs.Feasible.{AreTrips, IsFeasible}
use Rattle.time_windows.specs.Boxes.{Box, IsInBox}

-- a plan that keeps every rule and is in the box
pub record IsPlanIn (parts : Parts) (box : Box) (plan : List (List Stop)) : Type 0 where
  pub feasible : IsFeasible parts plan
  pub inside : IsInBox box plan

-- no plan in the box that keeps every rule costs less; there is none below NoPlan
abbrev pub IsBoundIn : Parts → Box → Bound → Type 0
IsBoundIn parts box bound = IsLowerBound parts (IsPlanIn parts box) bound

abbrev pub HasNoPlan : Parts → Box → Type 0
HasNoPlan parts box = IsBoundIn parts box NoPlan

-- one trip for each flight, each in the box, whether or not they keep the rules together
pub record AreTripsIn (parts : Parts) (box : Box) (plan : List (List Stop)) : Type 0 where
  pub trips : AreTrips parts.day.periods parts.flights plan
  pub inside : IsInBox box plan
