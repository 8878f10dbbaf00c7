use Rattle.flow_types.specs.Scenario.{parts_of}
use Rattle.price_ascent.specs.Slopes.{AreSlopesFor}
use Rattle.price_ascent.proofs.slopes.excess_by_slopes.Given as goal

abbrev pub invariant-loop-at : goal.invariant-loop-at
invariant-loop-at l = AreSlopesFor (parts_of l.s) l.slopes
