use Rattle.flow_types.specs.Scenario.{parts_of}
use Rattle.price_ascent.specs.Slopes.{AreSlopesFor}
use Rattle.price_ascent.proofs.slopes.all_slopes.Given as goal

abbrev pub invariant-loop-kind : goal.invariant-loop-kind
invariant-loop-kind l = AreSlopesFor (parts_of l.s) l.slopes.items
