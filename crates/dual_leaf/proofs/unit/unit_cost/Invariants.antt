use Rattle.flow_types.specs.Scenario.{parts_of}
use Rattle.flight_routes.specs.Work.{IsWorkFor}
use Rattle.plan_rules.specs.Loads.{IsMadeFor}
use Rattle.time_windows.specs.Held.{box_of}
use Rattle.dual_leaf.specs.UnitSums.{IsSoFar}
use Rattle.dual_leaf.proofs.unit.unit_cost.Given as goal

abbrev pub invariant-loop-number : goal.invariant-loop-number
invariant-loop-number l =
    IsSoFar (parts_of l.fn.s) (box_of l.fn.boxes) l.number l.loads l.sum
    × IsMadeFor (parts_of l.fn.s) l.loads × IsWorkFor (parts_of l.fn.s) l.work
