use Rattle.std.proofs.Common.{ap, arith, length}
use Rattle.std.proofs.lemmas.Int.{ints}
use Rattle.flow_types.specs.Scenario.{parts_of}
use Rattle.bytime_model.proofs.CostFacts.{constant_more, constant_near}
use Rattle.bytime_model.proofs.cost_row.constant_of.Goals as goal

pub plus-sum-requires-clause-sum : goal.plus-sum-requires-clause-sum
plus-sum-requires-clause-sum c =
    let near = constant_near (parts_of c.args.s.now) c.loop-number.number c.args.s.now.valid in
    record {
      low = omega (arith, ints, near.low, c.loop-number.invariant);
      high = omega (arith, ints, near.high, c.loop-number.invariant);
    }

pub loop-number-preserved : goal.loop-number-preserved
loop-number-preserved c =
    let more = constant_more (parts_of c.args.s.now) c.loop-number.number
    c.index-flights-number.result
    (omega (arith, c.loop-number-test.true, ap length c.flights-flights.ensures))
    (rw c.flights-flights.ensures at c.index-flights-number.is) in
    omega (
      arith,
      ints,
      more,
      c.flight_constant.ensures.constant,
      c.plus-sum.ensures,
      c.loop-number.invariant,
    )
