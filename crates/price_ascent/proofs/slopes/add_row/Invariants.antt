use Rattle.flow_types.specs.Scenario.{parts_of}
use Rattle.price_ascent.specs.Slopes.{AreSlopesFor}
use Rattle.price_ascent.proofs.slopes.add_row.Given as goal

abbrev pub invariant-loop-period : goal.invariant-loop-period
invariant-loop-period l = AreSlopesFor (parts_of l.s) l.slopes.items
