use Rattle.std.proofs.Common.{◌≡◌, ◌+◌, ◌-◌, ◌≤◌, ℕ, length}
use Rattle.std.specs.List.{Contains}
use Rattle.flow_types.specs.declared.flight.Leg.{Leg}
use Rattle.flow_types.specs.Limits.{most_periods}
use Rattle.flight_routes.specs.Early.{ahead_in}
use Rattle.flight_routes.proofs.distances.distances_of.Given as goal

-- the nodes from this one on
abbrev pub invariant-loop-node : goal.invariant-loop-node
invariant-loop-node l =
    record {
      legs : (leg : Leg) → Contains l.flight.legs leg → l.node ≤ leg.from
          → ahead_in l.distances leg.from ≤ leg.least + ahead_in l.distances leg.to;
      last : ahead_in l.distances (length l.flight.nodes - 1) ≡ 0;
      few : (n : ℕ) → ahead_in l.distances n ≤ most_periods;
    }
