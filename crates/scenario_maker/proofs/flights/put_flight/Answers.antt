use Rattle.std.proofs.Common.{◌∷◌, map}
use Rattle.scenario_maker.specs.Writing.{cost_rows, flight_row, leg_row}
use Rattle.std.proofs.lemmas.Result.{on_ok_weaker}
use Rattle.scenario_maker.proofs.TextFacts.{both_rows, one_row}
use Rattle.scenario_maker.proofs.flights.put_flight.Goals as goal

pub returns : goal.returns
returns c =
    let places = c.args.places.now in
    let flight = c.args.flight.now in
    on_ok_weaker c.put_cost.result
    (λ put. both_rows (flight_row places flight ∷ map (leg_row places flight) flight.legs)
    (cost_rows c.args.tables.now flight.name flight.cost) c.args.out.now.items
    c.put_legs.new.out.items c.put_cost.new.out.items
    (one_row (flight_row places flight) (map (leg_row places flight) flight.legs)
    c.args.out.now.items c.put_schedule.new.out.items c.put_legs.new.out.items
    c.in_ok-put_schedule.ensures c.in_ok-put_legs.ensures) put) c.put_cost.ensures
