-- What is looked up of a scenario again and again.
use Rattle.std.specs.Prelude.{◌≡◌}
use Rattle.flow_types.specs.declared.parts.Parts.{Parts}
use Rattle.cut_rows.specs.declared.table.Table.{Table}
use Rattle.bytime_model.specs.Columns.{AreColumnsOf, AreTaken}
use Rattle.bytime_model.specs.CostRow.{cost_row}
use Rattle.bytime_model.specs.Visits.{AreVisitsOf}
use Rattle.cut_rows.specs.Routes.{AreRoutesOf}

-- a position for each variable, the visits to each place, the distances of each flight, and the
-- cost row
pub record IsTableFor (parts : Parts) (table : Table) : Type 0 where
  pub columns : AreColumnsOf parts table.columns
  pub taken : AreTaken parts table.columns
  pub visits : AreVisitsOf parts table.visits
  pub routes : AreRoutesOf parts table.routes
  pub cost : table.cost ≡ cost_row parts
