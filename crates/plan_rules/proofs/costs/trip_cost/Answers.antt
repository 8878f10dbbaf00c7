use Rattle.std.proofs.Common.{◌≡◌, Some, slice_get, refl, arith}
use Rattle.std.proofs.lemmas.Int.{ints}
use Rattle.std.proofs.lemmas.Option.{slice_get_read}
use Rattle.flow_types.specs.Scenario.{flight_at, parts_of}
use Rattle.plan_rules.proofs.CostFacts.{trip_cost_is}
use Rattle.plan_rules.proofs.costs.trip_cost.Goals as goal

pub returns-clause-value : goal.returns-clause-value
returns-clause-value c =
    let parts = parts_of c.args.s.now in
    let details = c.index-flights-flight.result in
    let here : slice_get parts.flights c.args.flight ≡ Some details =
    slice_get_read parts.flights _ c.args.flight details refl c.requires
    (rw c.flights.ensures at c.index-flights-flight.is) in
    let paid = rw c.saturating_sub.ensures at c.total-paid.ensures.value in
    let saved = rw c.saturating_sub-2.ensures at c.credit-saved.ensures.value in
    let is = trip_cost_is parts.tables
    (flight_at c.args.s.now c.args.flight) details c.args.stops.now c.in-Some.departure
    c.in-Some-arrival_of.arrival here
    c.in-Some.ensures c.in-Some-arrival_of.ensures in
    omega (arith, ints, paid, saved, is)
