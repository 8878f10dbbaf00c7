use Rattle.flight_routes.specs.RateLists.{rates_of}
use Rattle.flight_routes.specs.Ready.{row_of}
use Rattle.flight_routes.proofs.WayFacts.{starts_are}
use Rattle.flight_routes.proofs.starts.least_cost.Goals as goal

pub returns-in-Some : goal.returns-in-Some
returns-in-Some c =
    starts_are c.args.ways.flight.now (row_of c.args.ways.accesses.now)
    (rates_of c.args.ways.rates.now)
    c.args.ways.ready.network c.args.cells.now c.requires.cells c.least_start.result
    c.least_start.ensures
