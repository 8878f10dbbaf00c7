use Rattle.flight_routes.specs.RateLists.{rates_of}
use Rattle.flight_routes.specs.Ready.{row_of}
use Rattle.flight_routes.proofs.FirstFacts.{start_exists}
use Rattle.flight_routes.proofs.trace.start_stop.Goals as goal

pub unreachable-requires-in-None : goal.unreachable-requires-in-None
unreachable-requires-in-None c =
    let found = start_exists c.args.ways.flight.now (row_of c.args.ways.accesses.now)
    (rates_of c.args.ways.rates.now) c.args.ways.rates.now.span c.args.ways.ready c.args.cells.now
    c.requires.cells c.args.least c.requires.some c.requires.least in
    c.in-None.ensures found.0 found.1
