use Rattle.std.proofs.Common.{rules}
use Rattle.flow_types.specs.Scenario.{parts_of}
use Rattle.flight_routes.specs.Ready.{row_of}
use Rattle.flight_routes.proofs.FillFacts.{window_end}
use Rattle.flight_routes.proofs.price_rates.set_end_in.Goals as goal

pub set_end_rates-requires-clause-window : goal.set_end_rates-requires-clause-window
set_end_rates-requires-clause-window c =
    window_end c.args.table.now.span (parts_of c.args.priced.s.now).day.periods
    (row_of c.args.accesses.now)
    c.args.node c.in-Some.window c.requires.windows c.requires.day (search rules)
