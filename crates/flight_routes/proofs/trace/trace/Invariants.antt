use Rattle.std.proofs.Common.{◌+◌, ◌-◌, ◌<◌, ◌≤◌, ◌++◌, List, IsSome, length, vec_capacity, vec_len}
use Rattle.exact_sums.specs.Leasts.{IsFirstLeast}
use Rattle.flow_types.specs.declared.plan.Stop.{Stop}
use Rattle.flow_types.specs.Limits.{most_nodes}
use Rattle.time_windows.specs.Boxes.{IsInWindow}
use Rattle.flight_routes.specs.Entries.{cell_at}
use Rattle.flight_routes.specs.RateLists.{rates_of}
use Rattle.flight_routes.specs.Rates.{IsWay, IsWayOn, way_cost, whole_cost}
use Rattle.flight_routes.specs.Ready.{row_of}
use Rattle.flight_routes.specs.TripOrder.{IsNoLater}
use Rattle.flight_routes.proofs.trace.trace.Given as goal

-- the first of the least ways on from here completes the stops so far to that of all
abbrev pub invariant-loop-stop : goal.invariant-loop-stop
invariant-loop-stop l =
    record {
      goes_on : (rest : List Stop)
          → IsFirstLeast (IsWayOn l.ways.flight.now (row_of l.ways.accesses.now)
          (rates_of l.ways.rates.now) l.stop)
          (way_cost (rates_of l.ways.rates.now) l.stop) IsNoLater rest
          → IsFirstLeast (IsWay l.ways.flight.now (row_of l.ways.accesses.now)
          (rates_of l.ways.rates.now))
          (whole_cost (rates_of l.ways.rates.now)) IsNoLater (l.stops.items ++ rest);
      inside : l.stop.node < length l.ways.flight.now.nodes;
      window : IsInWindow (row_of l.ways.accesses.now l.stop.node).window l.stop.time;
      reaches : IsSome (cell_at l.cells l.stop.node l.stop.time);
      few : vec_len l.stops ≤ l.stop.node + 1;
      room : most_nodes ≤ vec_capacity l.stops;
    }

abbrev pub decreases-loop-stop : goal.decreases-loop-stop
decreases-loop-stop l = length l.ways.flight.now.nodes - l.stop.node
