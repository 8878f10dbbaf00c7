use Rattle.flow_types.specs.Scenario.{parts_of}
use Rattle.price_ascent.specs.Slopes.{AreSlopesFor}
use Rattle.price_ascent.proofs.slopes.add_kind.Given as goal

abbrev pub invariant-loop-row : goal.invariant-loop-row
invariant-loop-row l = AreSlopesFor (parts_of l.s) l.slopes.items
