-- The room of the search for cheaper plans.
use Rattle.std.specs.Prelude.{◌≡◌, ℕ, length}
use Rattle.flow_types.specs.declared.parts.Parts.{Parts}
use Rattle.flight_routes.specs.Work.{IsWorkFor, Worked}
use Rattle.plan_rules.specs.Tally.{Tally}
use Rattle.plan_rules.specs.Loads.{IsMadeFor as AreLoadsFor}

-- with so many flights in the plan that it works on
pub record SearchRoom : Type 0 where
  pub work : Worked
  pub loads : Tally
  pub flights : ℕ

-- for the scenario
pub record IsSearchRoomFor (parts : Parts) (room : SearchRoom) : Type 0 where
  pub work : IsWorkFor parts room.work
  pub loads : AreLoadsFor parts room.loads

-- and there is a choice for each flight
pub record IsFilledFor (parts : Parts) (room : SearchRoom) : Type 0 where
  pub made : IsSearchRoomFor parts room
  pub flights : room.flights ≡ length parts.flights
