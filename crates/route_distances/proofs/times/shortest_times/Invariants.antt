use Rattle.route_distances.specs.Ways.{AreShortest}
use Rattle.route_distances.proofs.times.shortest_times.Given as goal

-- the times of the nodes so far
abbrev pub invariant-loop-node : goal.invariant-loop-node
invariant-loop-node l = AreShortest l.legs l.node l.times
