use Rattle.std.proofs.Common.{arith}
use Rattle.flow_types.specs.Scenario.{parts_of}
use Rattle.priced_plans.specs.Usage.{traffic_in}
use Rattle.lagrange_bound.specs.Rounds.{moved_price}
use Rattle.lagrange_bound.proofs.MoveFacts.{room_in_rows}
use Rattle.lagrange_bound.proofs.moves.move_rows.Goals as goal

pub move_row-requires-clause-room : goal.move_row-requires-clause-room
move_row-requires-clause-room c =
    let parts = parts_of c.args.s.now in
    room_in_rows parts (moved_price parts (traffic_in c.args.loads.now) c.args.step) c.args.kind
    c.loop-row.row c.args.prices.now c.loop-row.prices
    (omega (arith, c.loop-row-test.true, c.row_count-row-end.ensures)) c.requires.room
    c.loop-row.invariant
