use Rattle.std.proofs.Common.{◌≡◌, take}
use Rattle.flow_types.specs.Scenario.{parts_of}
use Rattle.bytime_model.specs.CostRow.{constants}
use Rattle.bytime_model.proofs.cost_row.constant_of.Given as goal

abbrev pub invariant-loop-number : goal.invariant-loop-number
invariant-loop-number l =
    l.sum ≡ constants (parts_of l.s).tables (parts_of l.s).day.periods
    (take l.number (parts_of l.s).flights)
