use Rattle.std.proofs.Common.{arith}
use Rattle.flow_types.specs.declared.flight.Flight.{Flight}
use Rattle.plan_text.proofs.NameFacts.{fresh}
use Rattle.plan_text.proofs.names.names_of_flights.Goals as goal

pub add-requires-clause-fresh : goal.add-requires-clause-fresh
add-requires-clause-fresh c =
    rw (c.items.ensures, c.loop-flight.invariant)
    (fresh (λ (flight : Flight). flight.name) c.args.flights.now c.loop-flight.flight-index
    c.flight-item.result c.requires.different (omega arith) c.flight-item.is)
