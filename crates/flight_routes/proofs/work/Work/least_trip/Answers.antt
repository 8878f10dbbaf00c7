use Rattle.std.proofs.Common.{◌<◌, subst, sym}
use Rattle.time_windows.specs.declared.access.Window.{Window}
use Rattle.time_windows.specs.Subproblems.{box_in, parts_in}
use Rattle.flight_routes.specs.RateLists.{rates_of}
use Rattle.flight_routes.specs.Ready.{AreRising, row_of}
use Rattle.flight_routes.proofs.WorkFacts.{IsRead, is_read, price_ready, price_rising, priced_first, priced_least, read_windows}
use Rattle.flight_routes.proofs.work.Work.least_trip.Goals as goal
use Rattle.flight_routes.proofs.work.Work.least_trip.Goals.{After-index-flights-flight}

pub set_price_rates-requires-clause-windows : goal.set_price_rates-requires-clause-windows
set_price_rates-requires-clause-windows c =
    (read_windows c.take_row-span.ensures c.begin.ensures.span c.self.inside.accesses.items
    c.deref-row.ensures.value c.self.invariant.2).1

pub set_price_rates-requires-clause-day : goal.set_price_rates-requires-clause-day
set_price_rates-requires-clause-day c =
    subst (λ (span : Window). span.hi < (parts_in c.args.problem).day.periods)
    (sym c.begin.ensures.span) c.take_row-span.ensures.day

-- what the box says of the flight's nodes, as it was read
read_row : (c : goal.After-index-flights-flight)
    → IsRead (parts_in c.args.problem) (box_in c.args.problem) c.args.flight
    c.index-flights-flight.result c.begin.new.self.span (row_of c.deref-row.result.now)
read_row c =
    is_read c.take_row-span.ensures c.begin.ensures.span c.self.inside.accesses.items
    c.deref-row.ensures.value c.self.invariant.2 c.args.problem.s.now.valid
    c.args.problem.made.inside c.requires.flight
    (rw c.flights.ensures at c.index-flights-flight.is)

pub invariant_of-ways-clause-ready : goal.invariant_of-ways-clause-ready
invariant_of-ways-clause-ready c =
    let is = read_row (goal.at.invariant_of-ways-clause-ready c).After-index-flights-flight in
    price_ready is c.set_price_rates.new.table c.set_price_rates.ensures.span
    c.set_price_rates.ensures.table

pub least_way-requires-clause-rising : goal.least_way-requires-clause-rising
least_way-requires-clause-rising c =
    let is = read_row (goal.at.least_way-requires-clause-rising c).After-index-flights-flight in
    subst (λ (span : Window). AreRising c.index-flights-flight.result span
    (rates_of c.set_price_rates.new.table)) (sym c.set_price_rates.ensures.span)
    (price_rising (c.set_price_rates.ensures.rates c.index-flights-flight.result is.own.here)
    is.day)

pub returns-clause-least : goal.returns-clause-least
returns-clause-least c =
    let is = read_row (goal.at.returns-clause-least c).After-index-flights-flight in
    rw c.get.ensures
    (priced_least is.own is.windows
    (c.set_price_rates.ensures.rates c.index-flights-flight.result is.own.here)
    c.least_way.result c.least_way.ensures.least)

pub returns-clause-first : goal.returns-clause-first
returns-clause-first c =
    let is = read_row (goal.at.returns-clause-first c).After-index-flights-flight in
    rw c.get.ensures
    (priced_first is.own is.windows
    (c.set_price_rates.ensures.rates c.index-flights-flight.result is.own.here)
    c.least_way.result c.least_way.new.stops.items c.least_way.ensures.first)
