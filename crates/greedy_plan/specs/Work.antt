-- The room for greedy plans.
use Rattle.flow_types.specs.declared.parts.Parts.{Parts}
use Rattle.flight_routes.specs.Work.{IsWorkFor, Worked}
use Rattle.plan_rules.specs.Tally.{Tally}
use Rattle.plan_rules.specs.Loads.{IsMadeFor as AreLoadsFor}

pub record PlanRoom : Type 0 where
  pub work : Worked
  pub loads : Tally

-- for the scenario
pub record IsPlanRoomFor (parts : Parts) (room : PlanRoom) : Type 0 where
  pub work : IsWorkFor parts room.work
  pub loads : AreLoadsFor parts room.loads
