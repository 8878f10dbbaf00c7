use Rattle.std.proofs.Common.{◌≤◌, Option, sym, subst, ◌∙◌, arith}
use Rattle.time_windows.specs.declared.access.Window.{Window}
use Rattle.time_windows.specs.Boxes.{IsInWindow}
use Rattle.flight_routes.specs.RateLists.{rates_of}
use Rattle.flight_routes.specs.Ready.{row_of}
use Rattle.flight_routes.specs.Ways.{IsCell}
use Rattle.flight_routes.proofs.CellFacts.{cells_next}
use Rattle.flight_routes.proofs.MoveFacts.{window_last}
use Rattle.flight_routes.proofs.fill.fill_node.Goals as goal

pub store-requires-clause-end : goal.store-requires-clause-end
store-requires-clause-end c =
    let last = window_last c.args.ways.rates.now.span (row_of c.args.ways.accesses.now) c.args.node
    c.in-Some.window c.args.ways.ready.windows (sym c.window_at.ensures ∙ c.in-Some.is) in
    omega (arith, last.1, c.args.ways.ready.day.few)

pub returns-in-Some : goal.returns-in-Some
returns-in-Some c =
    let flight = c.args.ways.flight.now in
    let row = row_of c.args.ways.accesses.now in
    let rates = rates_of c.args.ways.rates.now in
    cells_next flight row rates c.args.node c.args.cells.now c.store.new.cells c.requires.cells
    (λ t within.
    let at : (c.in-Some.window.lo ≤ t) × (t ≤ c.in-Some.window.hi) =
    subst (λ (w : Option Window). IsInWindow w t) (sym c.window_at.ensures ∙ c.in-Some.is) within in
    subst (IsCell flight row rates c.args.node t) (sym (c.store.ensures.here t at.0 at.1))
    (c.fill_row.ensures t at.0 at.1))
    (λ n t within not. c.store.ensures.other n t
    (omega (arith, c.args.ways.ready.windows.within n t within, c.args.ways.ready.day.few)) not)
