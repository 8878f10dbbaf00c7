use Rattle.std.proofs.Common.{◌≡◌, drop}
use Rattle.flow_types.specs.Routes.{next_of}
use Rattle.flow_types.proofs.lookup.next_of.Given as goal

abbrev pub invariant-loop-leg : goal.invariant-loop-leg
invariant-loop-leg l = next_of (drop l.leg-index l.legs) l.node ≡ next_of l.legs l.node
