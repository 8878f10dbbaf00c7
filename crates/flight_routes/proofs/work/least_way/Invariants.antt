use Rattle.std.proofs.Common.{◌≡◌, ◌≤◌, ◌-◌, length, vec_capacity}
use Rattle.flow_types.specs.Limits.{most_nodes}
use Rattle.flight_routes.proofs.work.least_way.Given as goal

-- the room is kept, and the width grows
abbrev pub invariant-loop-width : goal.invariant-loop-width
invariant-loop-width l =
    record {
      room : most_nodes ≤ vec_capacity l.stops;
      cut : length l.cut ≡ most_nodes;
      some : 1 ≤ l.width;
      few : l.width ≤ 1024;
    }

abbrev pub decreases-loop-width : goal.decreases-loop-width
decreases-loop-width l = 2048 - l.width
