use Rattle.std.proofs.Common.{◌≡◌, ◌∙◌, List, Some, length, slice_get, ap, refl, rules, sym}
use Rattle.std.proofs.lemmas.Option.{slice_get_read}
use Rattle.flow_types.specs.declared.flight.Flight.{Flight}
use Rattle.flow_types.specs.Scenario.{parts_of}
use Rattle.delay_report.proofs.DelayFacts.{flown_is, whole_cost}
use Rattle.delay_report.proofs.delays.flown_in.Goals as goal

pub returns-clause-flown : goal.returns-clause-flown
returns-clause-flown c =
    let parts = parts_of c.args.s.now in
    let here : slice_get parts.flights c.args.number ≡ Some c.in_ok-flight.flight.now =
    ap (λ (flights : List Flight). slice_get flights c.args.number) (sym c.flights.ensures)
    ∙ slice_get_read c.flights.result.now (length c.flights.result.now) c.args.number
    c.in_ok-flight.flight.now refl c.in_ok-flight.ensures.lookup.3.0
    c.in_ok-flight.ensures.lookup.1 in
    flown_is parts c.args.plan.now c.args.number c.in_ok-flight.flight.now
    c.stops_in-stops.result.now c.in_ok-departure.departure c.in_ok-arrival.arrival
    c.delay_between.result c.trip_cost.result _ here c.stops_in-stops.ensures
    c.in_ok-departure.ensures c.in_ok-arrival.ensures (search rules) c.trip_cost.ensures.value
    (whole_cost c.trip_cost.result c.trip_cost.ensures.low c.trip_cost.ensures.high)
