use Rattle.std.proofs.Common.{ap, arith}
use Rattle.flow_types.specs.declared.day.Day.{Day}
use Rattle.flow_types.specs.Scenario.{parts_of}
use Rattle.priced_plans.specs.Usage.{traffic_in}
use Rattle.lagrange_bound.specs.Rounds.{moved_price}
use Rattle.lagrange_bound.proofs.MoveFacts.{room_in_row, row_next}
use Rattle.lagrange_bound.proofs.moves.move_row.Goals as goal

pub move_price-requires-clause-room : goal.move_price-requires-clause-room
move_price-requires-clause-room c =
    let parts = parts_of c.args.s.now in
    let same = ap (λ (day : Day). day.periods) c.day-period-end.ensures in
    room_in_row parts (moved_price parts (traffic_in c.args.loads.now) c.args.step) c.args.kind
    c.args.row c.loop-period.period c.args.prices.now c.loop-period.prices c.requires.row
    (omega (arith, c.loop-period-test.true, same)) c.requires.room c.loop-period.invariant

pub loop-period-preserved : goal.loop-period-preserved
loop-period-preserved c =
    let parts = parts_of c.args.s.now in
    row_next parts (moved_price parts (traffic_in c.args.loads.now) c.args.step) c.args.kind
    c.args.row c.loop-period.period c.args.prices.now c.loop-period.prices
    c.move_price.new.prices c.loop-period.invariant c.move_price.ensures
