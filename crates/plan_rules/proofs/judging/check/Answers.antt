use Rattle.std.proofs.Common.{Option, subst}
use Rattle.flow_types.specs.Scenario.{parts_of}
use Rattle.plan_rules.specs.FirstBroken.{Names}
use Rattle.plan_rules.specs.declared.broken.Broken.{Broken}
use Rattle.plan_rules.proofs.BrokenPlans.{loads_break, plan_trips_from}
use Rattle.plan_rules.proofs.judging.check.Goals as goal

pub add_all-requires-clause-trips : goal.add_all-requires-clause-trips
add_all-requires-clause-trips c =
    rw c.items-2.ensures (plan_trips_from (parts_of c.args.s.now) c.args.plan.now
    (rw c.items.ensures at c.in_ok-check_trips.ensures))

pub returns-clause-broken : goal.returns-clause-broken
returns-clause-broken c =
    let parts = parts_of c.args.s.now in
    let plan = c.args.plan.now in
    let trips = plan_trips_from parts plan (rw c.items.ensures at c.in_ok-check_trips.ensures) in
    let are = rw c.items-2.ensures at c.add_all.ensures in
    subst (λ (rule : Option Broken). Names rule c.check_loads.result)
    (loads_break parts plan c.add_all.new.loads c.args.s.now.valid are trips) c.check_loads.ensures
