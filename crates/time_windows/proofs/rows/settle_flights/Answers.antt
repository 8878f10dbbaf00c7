use Rattle.std.proofs.Common.{length, ap, arith}
use Rattle.std.proofs.lemmas.Option.{slice_get_within}
use Rattle.flow_types.specs.Scenario.{parts_of}
use Rattle.time_windows.proofs.ConnectionFacts.{rows_more}
use Rattle.time_windows.proofs.rows.settle_flights.Goals as goal

pub loop-number-preserved : goal.loop-number-preserved
loop-number-preserved c =
    rows_more (parts_of c.args.s.now) c.args.accesses.now c.loop-number.accesses
    c.settle.new.accesses c.loop-number.number c.loop-number.invariant.0
    c.loop-number.invariant.1 c.settle.ensures

pub returns-clause-rows : goal.returns-clause-rows
returns-clause-rows c f flight is =
    let parts = parts_of c.args.s.now in
    c.loop-number.invariant.1 f flight
    (omega (
      arith,
      slice_get_within parts.flights f flight is,
      c.loop-number-test.false,
      ap length c.flights-number-end.ensures,
    )) is
