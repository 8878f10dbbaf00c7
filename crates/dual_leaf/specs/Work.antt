-- The room for the bounds of leaves.
use Rattle.std.specs.Prelude.{◌≡◌, length}
use Rattle.flow_types.specs.declared.parts.Parts.{Parts}
use Rattle.flight_routes.specs.Prices.{ArePricesOf, PriceTable}
use Rattle.flight_routes.specs.Work.{IsWorkFor, Worked}
use Rattle.plan_rules.specs.Tally.{Tally}
use Rattle.plan_rules.specs.Loads.{IsMadeFor as AreLoadsFor}
use Rattle.cut_rows.specs.declared.table.Table.{Table}
use Rattle.cut_rows.specs.Table.{IsTableFor}
use Rattle.dual_sums.specs.Sums.{Summed}

pub record Room : Type 0 where
  pub table : Table
  pub sums : Summed
  pub work : Worked
  pub prices : PriceTable
  pub loads : Tally

-- for the scenario
pub record IsRoomFor (parts : Parts) (room : Room) : Type 0 where
  pub table : IsTableFor parts room.table
  pub positions : length room.sums.factors ≡ room.table.columns.count
  pub work : IsWorkFor parts room.work
  pub prices : ArePricesOf parts room.prices
  pub loads : AreLoadsFor parts room.loads
