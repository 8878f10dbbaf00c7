use Rattle.std.proofs.Common.{◌∙◌, sym, arith}
use Rattle.flight_routes.specs.Early.{ahead_in}
use Rattle.flight_routes.specs.RateLists.{rates_of}
use Rattle.flight_routes.specs.Ready.{row_of}
use Rattle.flight_routes.proofs.EarlyFacts.{closed_last, ways_bounded}
use Rattle.flight_routes.proofs.MoveFacts.{window_last}
use Rattle.flight_routes.proofs.early.ways_bound.Goals as goal

pub ends_bound-requires-clause-leave : goal.ends_bound-requires-clause-leave
ends_bound-requires-clause-leave c =
    let last = window_last c.args.ways.rates.now.span (row_of c.args.ways.accesses.now) 0
    c.in-Some.leave c.args.ways.ready.windows (sym c.window_at.ensures ∙ c.in-Some.is) in
    omega (arith, last.1, c.args.ways.ready.day.few)

pub ends_bound-requires-clause-arrive : goal.ends_bound-requires-clause-arrive
ends_bound-requires-clause-arrive c =
    let last = window_last c.args.ways.rates.now.span (row_of c.args.ways.accesses.now)
    c.last_node-last.result
    c.in-Some-window_at.arrive c.args.ways.ready.windows
    (sym c.window_at-2.ensures ∙ c.in-Some-window_at.is) in
    omega (arith, last.1, c.args.ways.ready.day.few)

pub returns-in_default-window_at : goal.returns-in_default-window_at
returns-in_default-window_at c = λ stop rest way after before.
    absurd (closed_last c.args.ways.flight.now (row_of c.args.ways.accesses.now)
    c.args.ways.rates.now.span
    (rates_of c.args.ways.rates.now) c.args.ways.ready (ahead_in c.args.distances.now)
    c.requires.ahead
    c.last_node-last.result c.last_node-last.ensures c.requires.rising
    (sym c.window_at-2.ensures ∙ c.in_default-window_at.is) stop rest way)

pub returns : goal.returns
returns c =
    ways_bounded c.args.ways.flight.now (row_of c.args.ways.accesses.now) c.args.ways.rates.now.span
    (rates_of c.args.ways.rates.now) c.args.ways.ready (ahead_in c.args.distances.now)
    c.requires.ahead
    c.last_node-last.result c.last_node-last.ensures c.requires.rising c.in-Some.leave
    c.in-Some-window_at.arrive
    (record { lo = c.max.result; hi = c.min.result })
    (sym c.window_at.ensures ∙ c.in-Some.is)
    (sym c.window_at-2.ensures ∙ c.in-Some-window_at.is) c.args.lo c.args.hi
    (omega (arith, c.max.ensures)) (omega (arith, c.min.ensures)) c.ends_bound.result
    c.ends_bound.ensures
