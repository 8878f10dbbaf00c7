-- What a plan is that takes the place of another one.
use Rattle.std.specs.Prelude.{List}
use Rattle.std.specs.Int.Signed.{◌<ℤ◌}
use Rattle.flow_types.specs.declared.parts.Parts.{Parts}
use Rattle.flow_types.specs.declared.plan.Stop.{Stop}
use Rattle.flow_types.specs.Costs.{plan_cost}
use Rattle.flow_types.specs.Feasible.{IsFeasible}
use Rattle.plan_rules.specs.declared.judging.Verdict.{Verdict}
use Rattle.plan_rules.specs.declared.judging.Verdict.TheVariants.{Breaks, Keeps}
use Rattle.time_windows.specs.Boxes.{Box, IsInBox}

-- It keeps every rule and is in the box; and where the other one keeps every rule too, it costs
-- less.
pub record IsCheaper (parts : Parts) (box : Box) (start plan : List (List Stop)) : Type 0 where
  pub feasible : IsFeasible parts plan
  pub inside : IsInBox box plan
  pub cheaper : IsFeasible parts start
      → plan_cost parts.tables parts.flights plan <ℤ plan_cost parts.tables parts.flights start

-- the second verdict is of a plan that keeps every rule, and where the first is too, of a cheaper
-- one
abbrev pub IsLess : Verdict → Verdict → Type 0
IsLess before (Breaks broken) = ⊥
IsLess (Breaks broken) (Keeps now) = Unit {0}
IsLess (Keeps cost) (Keeps now) = now <ℤ cost
