use Rattle.route_distances.specs.Ways.{AreReached}
use Rattle.route_distances.proofs.reached.reached_from.Given as goal

-- the marks of the nodes so far
abbrev pub invariant-loop-node : goal.invariant-loop-node
invariant-loop-node l = AreReached l.legs l.from l.node l.marks
