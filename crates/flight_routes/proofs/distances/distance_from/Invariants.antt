use Rattle.std.proofs.Common.{◌≡◌, ◌+◌, ◌<◌, ◌≤◌, ℕ, slice_index_or}
use Rattle.flow_types.specs.declared.flight.Leg.{Leg}
use Rattle.flow_types.specs.Limits.{most_periods}
use Rattle.flight_routes.specs.Early.{ahead_in}
use Rattle.flight_routes.proofs.distances.distance_from.Given as goal

-- no more than by the legs so far
abbrev pub invariant-loop-at : goal.invariant-loop-at
invariant-loop-at l =
    record {
      legs : (k : ℕ) (leg : Leg) → k < l.at → slice_index_or l.legs k leg ≡ leg
          → leg.from ≡ l.node → l.least ≤ leg.least + ahead_in l.distances leg.to;
      few : l.least ≤ most_periods;
    }
