use Rattle.std.proofs.Common.{Some, Option, sym, subst, arith}
use Rattle.time_windows.specs.declared.access.Window.{Window}
use Rattle.time_windows.specs.Boxes.{IsInWindow}
use Rattle.flight_routes.specs.RateLists.{rates_of}
use Rattle.flight_routes.specs.Ready.{row_of}
use Rattle.flight_routes.proofs.CellFacts.{starts_all, starts_next, starts_none}
use Rattle.flight_routes.proofs.MoveFacts.{window_last}
use Rattle.flight_routes.proofs.WayFacts.{cells_within}
use Rattle.flight_routes.proofs.starts.least_start.Goals as goal

pub overflow_add-time-end : goal.overflow_add-time-end
overflow_add-time-end c =
    let last = window_last c.args.ways.rates.now.span (row_of c.args.ways.accesses.now) 0
    c.args.window
    c.args.ways.ready.windows c.requires.window in
    omega (arith, last.1, c.args.ways.ready.day.few)

pub start_of-requires-clause-time : goal.start_of-requires-clause-time
start_of-requires-clause-time c =
    let last = window_last c.args.ways.rates.now.span (row_of c.args.ways.accesses.now) 0
    c.args.window
    c.args.ways.ready.windows c.requires.window in
    omega (arith, last.1, c.args.ways.ready.day.few)

pub start_of-requires-clause-cell : goal.start_of-requires-clause-cell
start_of-requires-clause-cell c =
    let within : IsInWindow (Some c.args.window) c.loop-time.time =
    (c.loop-time.auto.time, omega arith) in
    cells_within c.args.ways.flight.now (row_of c.args.ways.accesses.now)
    (rates_of c.args.ways.rates.now)
    c.args.ways.ready.network c.args.ways.ready.day.small 0 c.args.cells.now c.requires.cells 0
    c.loop-time.time (omega arith) (omega (arith, c.args.ways.ready.network.nodes_from))
    (subst (λ (w : Option Window). IsInWindow w c.loop-time.time) (sym c.requires.window) within)

pub loop-time-init : goal.loop-time-init
loop-time-init c =
    rw c.none-least.ensures
    (starts_none (row_of c.args.ways.accesses.now) (rates_of c.args.ways.rates.now) c.args.cells.now
    c.args.window c.requires.window)

pub loop-time-preserved : goal.loop-time-preserved
loop-time-preserved c =
    rw (c.lesser-least.ensures, c.start_of.ensures)
    (starts_next (row_of c.args.ways.accesses.now) (rates_of c.args.ways.rates.now) c.args.cells.now
    c.args.window c.requires.window c.loop-time.time c.loop-time.least c.loop-time.auto.time
    (omega arith) c.loop-time.invariant)

pub returns : goal.returns
returns c =
    starts_all (row_of c.args.ways.accesses.now) (rates_of c.args.ways.rates.now) c.args.cells.now
    c.args.window c.requires.window c.loop-time.time c.loop-time.least (omega arith)
    c.loop-time.invariant
