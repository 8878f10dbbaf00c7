use Rattle.flight_routes.specs.RateLists.{rates_of}
use Rattle.flight_routes.specs.Ready.{row_of}
use Rattle.flight_routes.specs.Ways.{AreCells}
use Rattle.flight_routes.proofs.fill.fill_nodes.Given as goal

-- the cells from this node on
abbrev pub invariant-loop-node : goal.invariant-loop-node
invariant-loop-node l =
    AreCells l.ways.flight.now (row_of l.ways.accesses.now) (rates_of l.ways.rates.now) l.node
    l.cells
