use Rattle.std.proofs.Common.{◌<◌, ◌∙◌, List, refl, subst, sym}
use Rattle.flow_types.specs.declared.plan.Stop.{Stop}
use Rattle.plan_rules.specs.Loads.{AreLoads}
use Rattle.time_windows.specs.declared.access.Window.{Window}
use Rattle.time_windows.specs.Subproblems.{box_in, parts_in}
use Rattle.flight_routes.specs.FitRates.{AreFitRates}
use Rattle.flight_routes.specs.PricedFitRates.{ArePricedFitRates}
use Rattle.flight_routes.specs.RateLists.{rates_of}
use Rattle.flight_routes.specs.Rates.{AreClear}
use Rattle.flight_routes.specs.Ready.{AreRising, row_of}
use Rattle.flight_routes.specs.TripRates.{AreTripRates}
use Rattle.flight_routes.proofs.WorkFacts.{IsRead, fit_table_back, is_read, price_rising, price_table_back, priced_fit_clear, priced_fit_first, priced_fit_least, priced_fit_rates, priced_fit_rising, priced_fit_small, read_windows, ready, trip_there}
use Rattle.flight_routes.proofs.work.Work.least_priced_fit.Goals as goal
use Rattle.flight_routes.proofs.work.Work.least_priced_fit.Goals.{After-exchange_clear}

pub set_price_rates-requires-clause-windows : goal.set_price_rates-requires-clause-windows
set_price_rates-requires-clause-windows c =
    (read_windows c.take_row-span.ensures c.begin.ensures.span c.self.inside.accesses.items
    c.deref-row.ensures.value c.self.invariant.2).1

pub set_price_rates-requires-clause-day : goal.set_price_rates-requires-clause-day
set_price_rates-requires-clause-day c =
    subst (λ (span : Window). span.hi < (parts_in c.args.problem).day.periods)
    (sym c.begin.ensures.span) c.take_row-span.ensures.day

pub set_fit_rates-requires-clause-windows : goal.set_fit_rates-requires-clause-windows
set_fit_rates-requires-clause-windows c =
    (read_windows c.take_row-span.ensures c.begin-2.ensures.span c.self.inside.accesses.items
    c.deref-row.ensures.value c.self.invariant.2).1

pub set_fit_rates-requires-clause-day : goal.set_fit_rates-requires-clause-day
set_fit_rates-requires-clause-day c =
    subst (λ (span : Window). span.hi < (parts_in c.args.problem).day.periods)
    (sym c.begin-2.ensures.span) c.take_row-span.ensures.day

pub close_end_in-requires-clause-windows : goal.close_end_in-requires-clause-windows
close_end_in-requires-clause-windows c =
    (read_windows c.take_row-span.ensures (c.set_price_rates.ensures.span ∙ c.begin.ensures.span)
    c.self.inside.accesses.items c.deref-row.ensures.value c.self.invariant.2).1

pub close_end_in-requires-2-clause-windows : goal.close_end_in-requires-2-clause-windows
close_end_in-requires-2-clause-windows c =
    (read_windows c.take_row-span.ensures
    (c.close_end_in.ensures.only.span ∙ c.set_price_rates.ensures.span ∙ c.begin.ensures.span)
    c.self.inside.accesses.items c.deref-row.ensures.value c.self.invariant.2).1

-- what the box says of the flight's nodes, as it was read
read_row : (c : goal.After-exchange_clear)
    → IsRead (parts_in c.args.problem) (box_in c.args.problem) c.args.flight
    c.index-flights-flight.result c.take_row-span.result (row_of c.deref-row.result.now)
read_row c =
    is_read c.take_row-span.ensures refl c.self.inside.accesses.items
    c.deref-row.ensures.value c.self.invariant.2 c.args.problem.s.now.valid
    c.args.problem.made.inside c.requires.flight
    (rw c.flights.ensures at c.index-flights-flight.is)

-- the rates under prices
priced_rates : (c : goal.After-exchange_clear)
    → AreTripRates c.args.weight c.args.prices.now (parts_in c.args.problem) c.args.flight
    c.index-flights-flight.result (row_of c.deref-row.result.now) c.take_row-span.result
    (rates_of c.set_price_rates.new.table)
priced_rates c =
    subst (λ (span : Window). AreTripRates c.args.weight c.args.prices.now
    (parts_in c.args.problem) c.args.flight c.index-flights-flight.result
    (row_of c.deref-row.result.now) span (rates_of c.set_price_rates.new.table))
    c.begin.ensures.span
    (c.set_price_rates.ensures.rates c.index-flights-flight.result (read_row c).own.here)

-- the rates beside the loads
fitting_rates : (c : goal.After-exchange_clear) (trips : List (List Stop))
    → AreLoads (parts_in c.args.problem) trips c.args.loads.now
    → AreFitRates (parts_in c.args.problem) trips c.args.flight c.index-flights-flight.result
    (row_of c.deref-row.result.now) c.take_row-span.result (rates_of c.set_fit_rates.new.table)
fitting_rates c trips are =
    subst (λ (span : Window). AreFitRates (parts_in c.args.problem) trips
    c.args.flight c.index-flights-flight.result (row_of c.deref-row.result.now) span
    (rates_of c.set_fit_rates.new.table)) c.begin-2.ensures.span
    (c.set_fit_rates.ensures.rates trips c.index-flights-flight.result are (read_row c).own.here)

-- the rates under prices where trips fit
fitted_rates : (c : goal.After-exchange_clear)
    → ArePricedFitRates c.index-flights-flight.result (row_of c.deref-row.result.now)
    (rates_of c.set_fit_rates.new.table) (rates_of c.set_price_rates.new.table)
    (rates_of c.exchange_clear.new.self)
fitted_rates c =
    priced_fit_rates c.close_end_in.ensures.only c.close_end_in-2.ensures.only
    c.exchange_clear.ensures c.index-flights-flight.result (row_of c.deref-row.result.now)
    c.last_of-last.result c.last_of-last.ensures c.close_end_in.ensures.costs
    c.close_end_in-2.ensures.costs

pub invariant_of-ways-clause-ready : goal.invariant_of-ways-clause-ready
invariant_of-ways-clause-ready c =
    let is = read_row (goal.at.invariant_of-ways-clause-ready c).After-exchange_clear in
    ready is c.exchange_clear.new.self (c.exchange_clear.ensures.span
    ∙ c.close_end_in-2.ensures.only.span
    ∙ c.close_end_in.ensures.only.span ∙ c.set_price_rates.ensures.span ∙ c.begin.ensures.span)
    (priced_fit_clear c.close_end_in.ensures.only c.close_end_in-2.ensures.only
    c.exchange_clear.ensures
    c.index-flights-flight.result c.take_row-span.result
    (subst (λ (s : Window). AreClear c.index-flights-flight.result s
    (rates_of c.set_fit_rates.new.table)) c.begin-2.ensures.span
    (c.set_fit_rates.ensures.clear c.index-flights-flight.result is.own.here)))
    (priced_fit_small c.close_end_in.ensures.only c.close_end_in-2.ensures.only
    c.exchange_clear.ensures
    c.set_price_rates.ensures.table c.close_end_in.ensures.within c.close_end_in-2.ensures.within)

pub least_way-least-requires-clause-rising : goal.least_way-least-requires-clause-rising
least_way-least-requires-clause-rising c =
    let at = (goal.at.least_way-least-requires-clause-rising c).After-exchange_clear in
    subst (λ (s : Window). AreRising c.index-flights-flight.result s
    (rates_of c.exchange_clear.new.self)) (sym (c.exchange_clear.ensures.span
    ∙ c.close_end_in-2.ensures.only.span
    ∙ c.close_end_in.ensures.only.span ∙ c.set_price_rates.ensures.span ∙ c.begin.ensures.span))
    (priced_fit_rising c.close_end_in.ensures.only c.close_end_in-2.ensures.only
    c.exchange_clear.ensures c.index-flights-flight.result c.take_row-span.result
    (price_rising (priced_rates at) (read_row at).day))

pub returns-clause-least : goal.returns-clause-least
returns-clause-least c = λ trips are.
    let at = (goal.at.returns-clause-least c).After-exchange_clear in
    let is = read_row at in
    rw c.get.ensures
    (priced_fit_least is.own (trip_there are c.requires.flight) is.windows
    (fitting_rates at trips are) (priced_rates at) (fitted_rates at) c.least_way-least.result
    c.least_way-least.ensures.least)

pub returns-clause-first : goal.returns-clause-first
returns-clause-first c = λ trips are.
    let at = (goal.at.returns-clause-first c).After-exchange_clear in
    let is = read_row at in
    rw c.get.ensures
    (priced_fit_first is.own (trip_there are c.requires.flight) is.windows
    (fitting_rates at trips are) (priced_rates at) (fitted_rates at) c.least_way-least.result
    c.least_way-least.new.stops.items c.least_way-least.ensures.first)

pub invariant_of-self : goal.invariant_of-self
invariant_of-self c = (
  price_table_back c.close_end_in.ensures.only c.close_end_in-2.ensures.only
      c.exchange_clear.ensures c.exchange_clear-2.ensures c.set_price_rates.ensures.table
      c.close_end_in.ensures.within c.close_end_in-2.ensures.within,
  fit_table_back c.close_end_in.ensures.only c.close_end_in-2.ensures.only
      c.exchange_clear.ensures c.exchange_clear-2.ensures c.set_fit_rates.ensures.table,
  c.self.invariant.2,
  c.self.invariant.3,
  c.self.invariant.4,
  c.least_way-least.ensures.room,
)
