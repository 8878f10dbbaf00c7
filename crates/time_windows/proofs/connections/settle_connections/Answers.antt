use Rattle.flow_types.specs.Scenario.{parts_of}
use Rattle.time_windows.specs.Tight.{IsTight}
use Rattle.time_windows.proofs.ConnectionFacts.{none_waits, taken_done, taken_less, taken_there}
use Rattle.time_windows.proofs.NarrowFacts.{narrows_then}
use Rattle.time_windows.proofs.connections.settle_connections.Goals as goal

pub loop-flight-smaller : goal.loop-flight-smaller
loop-flight-smaller c =
    taken_less (parts_of c.args.network.s.now) c.loop-flight.accesses c.settle_flight.new.accesses
    c.loop-flight.waiting c.pop_first.new.self c.settle_flight.new.waiting
    c.in-Some.flight c.in-Some.ensures.taken c.settle_flight.ensures.step c.loop-flight.invariant.2

pub loop-flight-preserved : goal.loop-flight-preserved
loop-flight-preserved c =
    let parts = parts_of c.args.network.s.now in (
      narrows_then (IsTight parts) c.args.accesses.now c.loop-flight.accesses
          c.settle_flight.new.accesses c.loop-flight.invariant.0
          c.settle_flight.ensures.step.narrows,
      c.settle_flight.ensures.step.rows c.loop-flight.invariant.1,
      taken_there parts c.loop-flight.accesses c.settle_flight.new.accesses
          c.loop-flight.waiting c.pop_first.new.self
          c.settle_flight.new.waiting c.in-Some.flight c.in-Some.ensures.taken
          c.settle_flight.ensures.step c.loop-flight.invariant.2,
      taken_done parts c.loop-flight.accesses c.settle_flight.new.accesses
          c.loop-flight.waiting c.pop_first.new.self
          c.settle_flight.new.waiting c.in-Some.flight c.in-Some.ensures.taken
          c.settle_flight.ensures.step c.loop-flight.invariant.3
          c.settle_flight.ensures.departures c.settle_flight.ensures.arrivals,
    )

pub returns-clause-tight : goal.returns-clause-tight
returns-clause-tight c = record {
  rows = c.loop-flight.invariant.1;
  turns = none_waits (parts_of c.args.network.s.now) c.loop-flight.accesses c.loop-flight.waiting
      c.in_default.ensures.taken c.loop-flight.invariant.3;
}
