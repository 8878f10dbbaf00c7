use Rattle.std.proofs.Common.{◌≡◌, ◌+◌, length, sym, subst, ap, arith}
use Rattle.flight_routes.specs.RateLists.{rates_of}
use Rattle.flight_routes.specs.Ready.{row_of}
use Rattle.flight_routes.specs.Ways.{IsCell}
use Rattle.flight_routes.proofs.MoveFacts.{window_last}
use Rattle.flight_routes.proofs.WayFacts.{arrives_is}
use Rattle.flight_routes.proofs.fill.fill_row.Goals as goal

pub arrive_row-requires-clause-end : goal.arrive_row-requires-clause-end
arrive_row-requires-clause-end c =
    let last = window_last c.args.ways.rates.now.span (row_of c.args.ways.accesses.now) c.args.node
    c.args.window c.args.ways.ready.windows c.requires.window in
    omega (arith, last.1, c.args.ways.ready.day.few)

pub returns-then-from-items : goal.returns-then-from-items
returns-then-from-items c = λ t from to.
    let last : c.args.node + 1 ≡ length c.args.ways.flight.now.nodes =
    omega (arith, ap length c.items.ensures) in
    subst (IsCell c.args.ways.flight.now (row_of c.args.ways.accesses.now)
    (rates_of c.args.ways.rates.now)
    c.args.node t) (sym (c.arrive_row.ensures t from to))
    (arrives_is c.args.ways.flight.now (row_of c.args.ways.accesses.now)
    (rates_of c.args.ways.rates.now)
    c.args.ways.ready.network c.args.node t last)
