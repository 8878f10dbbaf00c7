use Rattle.std.proofs.Common.{rules}
use Rattle.flow_types.specs.Limits.{most_periods}
use Rattle.flight_routes.specs.Ready.{row_of}
use Rattle.flight_routes.proofs.FillFacts.{window_end}
use Rattle.flight_routes.proofs.priced_fit_rates.close_end_in.Goals as goal

pub close_end-requires : goal.close_end-requires
close_end-requires c =
    window_end c.args.table.now.span most_periods (row_of c.args.accesses.now) c.args.node
    c.in-Some.window c.requires.windows c.requires.few (search rules)
