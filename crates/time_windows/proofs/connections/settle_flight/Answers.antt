use Rattle.std.proofs.Common.{◌≡◌, All, subst, sym, ◌∙◌}
use Rattle.std.specs.List.{Contains}
use Rattle.flow_types.specs.Scenario.{parts_of}
use Rattle.time_windows.specs.declared.ends.End.TheVariants.{Arrival, Departure}
use Rattle.time_windows.specs.Narrowing.{IsDone}
use Rattle.time_windows.specs.Turns.{connection_at}
use Rattle.time_windows.proofs.ConnectionFacts.{all_done, step_then, turns_are, turns_done}
use Rattle.time_windows.proofs.connections.settle_flight.Goals as goal

pub settle_turns-requires-clause-turns : goal.settle_turns-requires-clause-turns
settle_turns-requires-clause-turns c =
    let connections = (parts_of c.args.network.s.now).connections in
    subst (All (λ turn. Contains connections (connection_at Departure c.args.flight turn)))
    (sym (c.of_flight-departures.ensures
    ∙ c.requires.turns.departures c.args.flight c.requires.flight))
    (turns_are Departure c.args.flight connections)

pub settle_turns-requires-2-clause-turns : goal.settle_turns-requires-2-clause-turns
settle_turns-requires-2-clause-turns c =
    let connections = (parts_of c.args.network.s.now).connections in
    subst (All (λ turn. Contains connections (connection_at Arrival c.args.flight turn)))
    (sym (c.of_flight-arrivals.ensures
    ∙ c.requires.turns.arrivals c.args.flight c.requires.flight))
    (turns_are Arrival c.args.flight connections)

pub returns-clause-step : goal.returns-clause-step
returns-clause-step c =
    step_then (parts_of c.args.network.s.now) c.args.accesses.now c.settle_turns.new.accesses
    c.settle_turns-2.new.accesses c.args.waiting.now c.settle_turns.new.waiting
    c.settle_turns-2.new.waiting c.settle_turns.ensures.step c.settle_turns-2.ensures.step

pub returns-clause-departures : goal.returns-clause-departures
returns-clause-departures c =
    let parts = parts_of c.args.network.s.now in
    all_done parts c.settle_turns.new.accesses c.settle_turns-2.new.accesses
    c.settle_turns.new.waiting c.settle_turns-2.new.waiting
    (λ connection. connection.second ≡ c.args.flight) parts.connections
    c.settle_turns-2.ensures.step
    (turns_done parts c.settle_turns.new.accesses c.settle_turns.new.waiting Departure
    c.args.flight
    (subst (All (λ turn. IsDone parts c.settle_turns.new.accesses
    c.settle_turns.new.waiting (connection_at Departure c.args.flight turn)))
    (c.of_flight-departures.ensures
    ∙ c.requires.turns.departures c.args.flight c.requires.flight) c.settle_turns.ensures.done))

pub returns-clause-arrivals : goal.returns-clause-arrivals
returns-clause-arrivals c =
    let parts = parts_of c.args.network.s.now in
    turns_done parts c.settle_turns-2.new.accesses c.settle_turns-2.new.waiting Arrival
    c.args.flight
    (subst (All (λ turn. IsDone parts c.settle_turns-2.new.accesses
    c.settle_turns-2.new.waiting (connection_at Arrival c.args.flight turn)))
    (c.of_flight-arrivals.ensures
    ∙ c.requires.turns.arrivals c.args.flight c.requires.flight) c.settle_turns-2.ensures.done)
