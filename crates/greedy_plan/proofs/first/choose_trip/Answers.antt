use Rattle.std.proofs.Common.{◌≡◌, ◌∙◌, ◌++◌, ◌∷◌, [], ap, subst, sym}
use Rattle.flow_types.specs.Costs.{trip_cost_at}
use Rattle.flow_types.specs.Scenario.{flight_at}
use Rattle.flight_routes.specs.Fits.{IsTripThatFits}
use Rattle.greedy_plan.specs.Greedy.{IsChosen, with_rest}
use Rattle.exact_sums.proofs.ItemFacts.{item_there}
use Rattle.time_windows.specs.Subproblems.{box_in, parts_in}
use Rattle.greedy_plan.proofs.FeasibleFacts.{none_of, one_more, some_of}
use Rattle.greedy_plan.proofs.first.choose_trip.Goals as goal

pub returns-then-is_none-clause-none : goal.returns-then-is_none-clause-none
returns-then-is_none-clause-none c = λ same.
    let parts = parts_in c.args.problem in
    let trips = with_rest parts.flights c.args.plan.now in
    none_of (IsTripThatFits parts (box_in c.args.problem) trips c.args.flight)
    (trip_cost_at parts.tables (flight_at c.args.problem.s.now c.args.flight)) c.least_fit.result
    c.is_none.result (c.least_fit.ensures.least trips c.requires.loads) c.is_none.ensures
    c.if-is_none.true

pub returns-clause-added : goal.returns-clause-added
returns-clause-added c = λ same.
    let parts = parts_in c.args.problem in
    let box = box_in c.args.problem in
    let trips = with_rest parts.flights c.args.plan.now in
    let flight = item_there parts.flights c.args.flight c.requires.flight in
    let chosen : IsChosen parts box c.args.plan.now c.args.flight c.least_fit.new.self.trip =
    some_of (c.least_fit.new.self.trip ≡ [])
    (IsChosen parts box c.args.plan.now c.args.flight c.least_fit.new.self.trip)
    c.least_fit.result c.is_none.result (c.least_fit.ensures.first trips c.requires.loads)
    c.is_none.ensures c.if-is_none.false in
    one_more parts box c.args.plan.now c.add-2.new.self c.args.loads.now c.add.new.self
    c.args.flight c.trip.result.now flight.0 flight.1 c.requires.next
    (c.in_ok-add.ensures.ok
    ∙ ap (λ trip. c.args.plan.now ++ trip ∷ [])
    (c.in_ok-from_stops.ensures ∙ c.trip-2.ensures ∙ sym c.trip.ensures))
    (subst (IsChosen parts box c.args.plan.now c.args.flight) (sym c.trip.ensures) chosen)
    c.requires.loads (c.add.ensures.trips trips c.requires.loads)
