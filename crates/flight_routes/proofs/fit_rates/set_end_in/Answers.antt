use Rattle.std.proofs.Common.{rules}
use Rattle.flow_types.specs.Scenario.{parts_of}
use Rattle.flight_routes.specs.Ready.{row_of}
use Rattle.flight_routes.proofs.FillFacts.{window_end}
use Rattle.flight_routes.proofs.fit_rates.set_end_in.Goals as goal

pub set_end-requires : goal.set_end-requires
set_end-requires c =
    window_end c.args.table.now.span (parts_of c.args.loaded.s.now).day.periods
    (row_of c.args.accesses.now)
    c.args.node c.in-Some.window c.requires.windows c.requires.day (search rules)
