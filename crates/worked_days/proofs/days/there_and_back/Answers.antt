use Rattle.std.proofs.Common.{subst, sym, arith}
use Rattle.flow_types.specs.Valid.{IsScenario}
use Rattle.worked_days.proofs.WorkedDay.{there_and_back-valid}
use Rattle.worked_days.proofs.days.there_and_back.Goals as goal

pub of_valid-requires : goal.of_valid-requires
of_valid-requires c =
    subst IsScenario (sym c.in_ok-parts.ensures)
    (there_and_back-valid c.args.leave c.args.turnaround (omega arith) (omega arith))
