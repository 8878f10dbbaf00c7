use Rattle.std.proofs.Common.{◌∙◌, sym, arith}
use Rattle.flight_routes.specs.RateLists.{rates_of}
use Rattle.flight_routes.specs.Ready.{row_of}
use Rattle.flight_routes.proofs.FirstFacts.{first_some}
use Rattle.flight_routes.proofs.MoveFacts.{window_last}
use Rattle.flight_routes.proofs.trace.first_by.Goals as goal

pub first_entry-requires-clause-last : goal.first_entry-requires-clause-last
first_entry-requires-clause-last c =
    let last = window_last c.args.ways.rates.now.span (row_of c.args.ways.accesses.now)
    c.args.leg.to
    c.in-Some.next c.args.ways.ready.windows (sym c.window_at.ensures ∙ c.in-Some.is) in
    omega (arith, last.1, c.args.ways.ready.day.few)

pub returns-in-Some-first_entry : goal.returns-in-Some-first_entry
returns-in-Some-first_entry c =
    first_some c.args.leg (row_of c.args.ways.accesses.now) (rates_of c.args.ways.rates.now)
    c.args.cells.now
    c.args.stop c.args.value c.in-Some.next (sym c.window_at.ensures ∙ c.in-Some.is)
    c.if-leg-stop.false
    (c.requires.limit.free c.args.leg.to (omega (arith, c.if-leg-limit.false)))
    c.in-Some-first_entry.time c.in-Some-first_entry.ensures
