use Rattle.std.proofs.Common.{◌-◌, length, arith}
use Rattle.flight_routes.specs.Early.{ahead_in}
use Rattle.flight_routes.specs.RateLists.{rates_of}
use Rattle.flight_routes.specs.Ready.{row_of}
use Rattle.flight_routes.proofs.EarlyFacts.{cut_is_ready, early_first, early_least, ends_within}
use Rattle.flight_routes.proofs.early.early_way.Goals as goal

pub invariant_of-early_ways-clause-ready : goal.invariant_of-early_ways-clause-ready
invariant_of-early_ways-clause-ready c =
    cut_is_ready c.args.ways.flight.now (row_of c.args.ways.accesses.now) c.args.ways.rates.now.span
    (rates_of c.args.ways.rates.now) c.args.ways.ready (ahead_in c.args.distances.now)
    c.requires.ahead
    c.args.cap (row_of c.cut_row.new.cut) c.cut_row.ensures.row

pub later_cost_more-requires : goal.later_cost_more-requires
later_cost_more-requires c = record {
  later = λ stop rest way late.
      let within = ends_within c.args.ways.flight.now (row_of c.args.ways.accesses.now)
      c.args.ways.rates.now.span (rates_of c.args.ways.rates.now) c.args.ways.ready
      (ahead_in c.args.distances.now) c.requires.ahead (length c.args.ways.flight.now.nodes - 1)
      (omega (arith, c.args.ways.ready.network.nodes_from))
      c.requires.rising stop rest way in
      c.ways_bound-later.ensures stop rest way
      (omega (arith, late)) (omega (arith, within, c.args.ways.ready.day.few));
}

pub returns-clause-least : goal.returns-clause-least
returns-clause-least c = λ some.
    early_least c.args.ways.flight.now (row_of c.args.ways.accesses.now) c.args.ways.rates.now.span
    (rates_of c.args.ways.rates.now) c.args.ways.ready (ahead_in c.args.distances.now)
    c.requires.ahead
    c.args.cap (row_of c.cut_row.new.cut) c.cut_row.ensures.row c.least_way-least.result some
    (c.later_cost_more.ensures.more c.if-not-later_cost_more.false)
    c.least_way-least.ensures.least

pub returns-clause-first : goal.returns-clause-first
returns-clause-first c = λ some.
    early_first c.args.ways.flight.now (row_of c.args.ways.accesses.now) c.args.ways.rates.now.span
    (rates_of c.args.ways.rates.now) c.args.ways.ready (ahead_in c.args.distances.now)
    c.requires.ahead
    c.args.cap (row_of c.cut_row.new.cut) c.cut_row.ensures.row c.least_way-least.result some
    (c.later_cost_more.ensures.more c.if-not-later_cost_more.false)
    c.least_way-least.ensures.least c.trace.new.stops.items c.trace.ensures.first
