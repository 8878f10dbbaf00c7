use Rattle.std.proofs.Common.{◌≡◌, drop}
use Rattle.flow_types.specs.Routes.{starts_in_order}
use Rattle.flow_types.proofs.route.starts_in_order.Given as goal

abbrev pub invariant-loop-leg : goal.invariant-loop-leg
invariant-loop-leg l = starts_in_order l.next (drop l.leg-index l.legs) ≡ starts_in_order 1 l.legs
