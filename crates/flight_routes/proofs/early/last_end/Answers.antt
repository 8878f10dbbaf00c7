use Rattle.std.proofs.Common.{◌∙◌, sym, arith}
use Rattle.flight_routes.specs.Ready.{row_of}
use Rattle.flight_routes.proofs.MoveFacts.{window_last}
use Rattle.flight_routes.proofs.early.last_end.Goals as goal

pub returns-in-Some : goal.returns-in-Some
returns-in-Some c =
    let last = window_last c.args.ways.rates.now.span (row_of c.args.ways.accesses.now)
    c.last_node.result
    c.in-Some.window c.args.ways.ready.windows (sym c.window_at.ensures ∙ c.in-Some.is) in
    omega (arith, c.from.ensures, last.1, c.args.ways.ready.day.few)
