use Rattle.std.proofs.Common.{arith}
use Rattle.std.proofs.lemmas.Int.{ints}
use Rattle.flow_types.specs.Scenario.{parts_of}
use Rattle.flow_types.proofs.CostFacts.{total_read}
use Rattle.flow_types.proofs.scenario.Scenario.total.Goals as goal

pub returns-clause-low : goal.returns-clause-low
returns-clause-low c =
    let within = total_read
    (parts_of c.args.self.now) c.args.flight c.args.delay c.index-flights-flight.result _
    c.args.self.now.valid c.requires
    (rw c.flights.ensures at c.index-flights-flight.is) (omega arith)
    (rw c.tables.ensures at c.total_at.ensures) in
    omega (arith, ints, within.low)

pub returns-clause-high : goal.returns-clause-high
returns-clause-high c =
    let within = total_read
    (parts_of c.args.self.now) c.args.flight c.args.delay c.index-flights-flight.result _
    c.args.self.now.valid c.requires
    (rw c.flights.ensures at c.index-flights-flight.is) (omega arith)
    (rw c.tables.ensures at c.total_at.ensures) in
    omega (arith, ints, within.high)
