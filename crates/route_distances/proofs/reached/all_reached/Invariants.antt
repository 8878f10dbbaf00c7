use Rattle.route_distances.specs.Ways.{AreAllReached}
use Rattle.route_distances.proofs.reached.all_reached.Given as goal

-- the marks of the nodes so far
abbrev pub invariant-loop-from : goal.invariant-loop-from
invariant-loop-from l = AreAllReached l.legs l.nodes l.from l.reached
