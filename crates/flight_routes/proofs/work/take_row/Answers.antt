use Rattle.std.proofs.Common.{ap, arith}
use Rattle.exact_sums.proofs.ItemFacts.{item_there}
use Rattle.flow_types.specs.declared.day.Day.{Day}
use Rattle.time_windows.specs.Subproblems.{box_in, parts_in}
use Rattle.flight_routes.specs.Ready.{row_of}
use Rattle.flight_routes.proofs.WorkFacts.{IsRowIn, day_windows}
use Rattle.flight_routes.proofs.work.take_row.Goals as goal

pub span_of-requires-clause-day : goal.span_of-requires-clause-day
span_of-requires-clause-day c = λ n t window.
    let parts = parts_in c.args.problem in
    let flight = item_there parts.flights c.args.flight c.requires.flight in
    let own : IsRowIn parts (box_in c.args.problem) c.args.flight flight.0
    (row_of c.copy_row.new.accesses) =
    record {
      valid = c.args.problem.s.now.valid;
      of = c.args.problem.made.inside;
      here = flight.1;
      same = c.copy_row.ensures.row;
    } in
    omega (
      arith,
      day_windows own n t window,
      ap (λ (day : Day). day.periods) c.day.ensures,
    )
