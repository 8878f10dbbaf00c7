use Rattle.std.proofs.Common.{subst, sym, arith}
use Rattle.flow_types.specs.Valid.{IsScenario}
use Rattle.worked_days.proofs.WorkedDay.{two_flights-valid}
use Rattle.worked_days.proofs.days.two_flights.Goals as goal

pub of_valid-requires : goal.of_valid-requires
of_valid-requires c =
    subst IsScenario (sym c.in_ok-parts.ensures)
    (two_flights-valid c.args.leave c.args.arrive c.args.inside (omega arith) (omega arith)
    (omega arith))
