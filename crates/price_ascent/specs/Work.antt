-- What the room of climbs is seen as.
use Rattle.std.specs.Prelude.{ℕ, ◌^◌, Bool, false, List, Option, None, Some, ℤ, pos, int_lt, ◌≤ℤ◌}
use Rattle.flow_types.specs.declared.parts.Parts.{Parts}
use Rattle.flight_routes.specs.Prices.{PriceTable}
use Rattle.flight_routes.specs.Work.{IsWorkFor, Worked}
use Rattle.plan_rules.specs.Tally.{Tally}
use Rattle.plan_rules.specs.Loads.{IsMadeFor}
use Rattle.priced_plans.specs.Values.{IsPricedValue}
use Rattle.time_windows.specs.Boxes.{Box}
use Rattle.price_ascent.specs.declared.slopes.Slope.{Slope}
use Rattle.price_ascent.specs.Slopes.{AreSlopesFor, IsGood}

-- how much costs weigh beside prices
abbrev pub climb_weight : ℕ
climb_weight = 2 ^ 20

-- the prices of the last step, the best ones and those of a plan, the room for trips and their
-- counts, and the prices that may rise
pub record AscentRoom : Type 0 where
  pub prices : PriceTable
  pub best : PriceTable
  pub planned : PriceTable
  pub work : Worked
  pub loads : Tally
  pub slopes : List Slope

-- made for the scenario
pub record IsAscentRoomFor (parts : Parts) (room : AscentRoom) : Type 0 where
  pub prices : IsGood parts room.prices
  pub best : IsGood parts room.best
  pub planned : IsGood parts room.planned
  pub work : IsWorkFor parts room.work
  pub loads : IsMadeFor parts room.loads
  pub slopes : AreSlopesFor parts room.slopes

-- there is a value above 0
abbrev pub is_positive : Option ℤ → Bool
is_positive None = false
is_positive (Some value) = int_lt (pos 0) value

-- the value of the prices at weight 0 is above 0, so that no plan is in the box
pub record HasNone (parts : Parts) (box : Box) (table : PriceTable) : Type 0 where
  pub value : ℤ
  pub priced : IsPricedValue parts box 0 table value
  pub above : pos 1 ≤ℤ value
