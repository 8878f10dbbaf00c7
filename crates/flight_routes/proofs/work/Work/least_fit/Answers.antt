use Rattle.std.proofs.Common.{◌<◌, subst, sym}
use Rattle.time_windows.specs.declared.access.Window.{Window}
use Rattle.time_windows.specs.Subproblems.{box_in, parts_in}
use Rattle.flight_routes.specs.Ready.{row_of}
use Rattle.flight_routes.proofs.WorkFacts.{IsRead, fit_first, fit_least, fit_ready, fit_rising, is_read, read_windows, trip_there}
use Rattle.flight_routes.proofs.work.Work.least_fit.Goals as goal
use Rattle.flight_routes.proofs.work.Work.least_fit.Goals.{After-index-flights-flight}

pub set_fit_rates-requires-clause-windows : goal.set_fit_rates-requires-clause-windows
set_fit_rates-requires-clause-windows c =
    (read_windows c.take_row-span.ensures c.begin.ensures.span c.self.inside.accesses.items
    c.deref-row.ensures.value c.self.invariant.2).1

pub set_fit_rates-requires-clause-day : goal.set_fit_rates-requires-clause-day
set_fit_rates-requires-clause-day c =
    subst (λ (span : Window). span.hi < (parts_in c.args.problem).day.periods)
    (sym c.begin.ensures.span) c.take_row-span.ensures.day

-- what the box says of the flight's nodes, as it was read
read_row : (c : goal.After-index-flights-flight)
    → IsRead (parts_in c.args.problem) (box_in c.args.problem) c.args.flight
    c.index-flights-flight.result c.begin.new.self.span (row_of c.deref-row.result.now)
read_row c =
    is_read c.take_row-span.ensures c.begin.ensures.span c.self.inside.accesses.items
    c.deref-row.ensures.value c.self.invariant.2 c.args.problem.s.now.valid
    c.args.problem.made.inside c.requires.flight
    (rw c.flights.ensures at c.index-flights-flight.is)

pub invariant_of-ways-clause-ready : goal.invariant_of-ways-clause-ready
invariant_of-ways-clause-ready c =
    let is = read_row (goal.at.invariant_of-ways-clause-ready c).After-index-flights-flight in
    fit_ready is c.set_fit_rates.new.table c.set_fit_rates.ensures.span
    (c.set_fit_rates.ensures.clear c.index-flights-flight.result is.own.here)
    c.set_fit_rates.ensures.table

pub least_way-requires-clause-rising : goal.least_way-requires-clause-rising
least_way-requires-clause-rising c =
    fit_rising c.index-flights-flight.result c.set_fit_rates.new.table.span
    c.set_fit_rates.new.table c.set_fit_rates.ensures.table

pub returns-clause-least : goal.returns-clause-least
returns-clause-least c = λ trips are.
    let is = read_row (goal.at.returns-clause-least c).After-index-flights-flight in
    rw c.get.ensures
    (fit_least is.own (trip_there are c.requires.flight) is.windows
    (c.set_fit_rates.ensures.rates trips c.index-flights-flight.result are is.own.here)
    c.least_way.result c.least_way.ensures.least)

pub returns-clause-first : goal.returns-clause-first
returns-clause-first c = λ trips are.
    let is = read_row (goal.at.returns-clause-first c).After-index-flights-flight in
    rw c.get.ensures
    (fit_first is.own (trip_there are c.requires.flight) is.windows
    (c.set_fit_rates.ensures.rates trips c.index-flights-flight.result are is.own.here)
    c.least_way.result c.least_way.new.stops.items c.least_way.ensures.first)
