use Rattle.std.proofs.Common.{◌∙◌, ◌<◌, length, ap, add-one, arith}
use Rattle.std.proofs.lemmas.Int.{ints}
use Rattle.flow_types.specs.Costs.{plan_cost, trip_cost_at}
use Rattle.flow_types.specs.Scenario.{flight_at, parts_of}
use Rattle.plan_rules.proofs.CostFacts.{plan_cost-next, plan_cost-end}
use Rattle.plan_rules.proofs.TripFacts.{AreTrips-length}
use Rattle.plan_rules.proofs.costs.cost.Goals as goal

pub overflow_cast-at : goal.overflow_cast-at
overflow_cast-at c =
    let parts = parts_of c.args.s.now in
    let same = AreTrips-length parts.day.periods parts.flights c.args.plan.now c.requires in
    let long = ap length c.items-trips.ensures in
    omega (arith, c.args.s.now.valid.flights.few)

pub trip_cost-cost-requires : goal.trip_cost-cost-requires
trip_cost-cost-requires c =
    let parts = parts_of c.args.s.now in
    let same = AreTrips-length parts.day.periods parts.flights c.args.plan.now c.requires in
    let long = ap length c.items-trips.ensures in
    omega arith

pub overflow_add-cost : goal.overflow_add-cost
overflow_add-cost c =
    let parts = parts_of c.args.s.now in
    let same = AreTrips-length parts.day.periods parts.flights c.args.plan.now c.requires in
    let long = ap length c.items-trips.ensures in
    omega (arith, ints, c.args.s.now.valid.flights.few)

pub loop-at-preserved : goal.loop-at-preserved
loop-at-preserved c =
    let parts = parts_of c.args.s.now in
    let plan = c.items-trips.result.now in
    let at = c.loop-at.at in
    let trip = c.index-trips-at.result in
    let same = AreTrips-length parts.day.periods parts.flights c.args.plan.now c.requires in
    let long = ap length c.items-trips.ensures in
    let within : at < length parts.flights = omega arith in
    let next = rw (← add-one at)
    at (plan_cost-next parts.tables parts.flights plan at trip within (omega arith)) in
    let value = c.trip_cost-cost.ensures.value
    ∙ ap (trip_cost_at parts.tables (flight_at c.args.s.now at))
    (c.items.ensures ∙ c.index-trips-at.is) in
    let few = c.args.s.now.valid.flights.few in
    record {
      so_far = omega (arith, ints, next, value);
      low = omega (arith, ints);
      high = omega (arith, ints);
    }

pub returns : goal.returns
returns c =
    let parts = parts_of c.args.s.now in
    let same = AreTrips-length parts.day.periods parts.flights c.args.plan.now c.requires in
    let long = ap length c.items-trips.ensures in
    let end = plan_cost-end parts.tables parts.flights c.items-trips.result.now
    c.loop-at.at (omega arith) (omega arith) in
    let whole = ap (plan_cost parts.tables parts.flights) c.items-trips.ensures in
    omega (arith, ints, end, whole, c.loop-at.invariant.so_far)
