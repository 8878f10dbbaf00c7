use Rattle.plan_rules.proofs.BrokenTrips.{leg_upward}
use Rattle.std.proofs.Common.{sym}
use Rattle.plan_rules.proofs.trips.check_step.Goals as goal

pub returns-clause-upward : goal.returns-clause-upward
returns-clause-upward c =
    leg_upward c.args.stop.node c.args.next.node c.in-Some.leg c.args.flight.now.legs c.requires
    (rw c.items.ensures at (sym c.in-Some.ensures))
