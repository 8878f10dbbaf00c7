use Rattle.std.proofs.Common.{◌≤◌, ◌+◌}
use Rattle.flow_types.specs.Scenario.{parts_of}
use Rattle.flight_routes.specs.Filling.{OnlyClear}
use Rattle.flight_routes.proofs.FillFacts.{TellsFull}
use Rattle.flight_routes.proofs.fit_rates.set_full.Given as goal

abbrev pub invariant-loop-time : goal.invariant-loop-time
invariant-loop-time l =
    (l.time ≤ l.span.hi + 1)
    × TellsFull (parts_of l.s) l.loads l.place l.node l.span l.time l.first l.table
    × OnlyClear l.node l.fn.table l.table

abbrev pub decreases-loop-time : goal.decreases-loop-time
decreases-loop-time l = l.time
