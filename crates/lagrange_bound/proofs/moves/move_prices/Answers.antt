use Rattle.std.proofs.Common.{arith}
use Rattle.flow_types.specs.Scenario.{parts_of}
use Rattle.priced_plans.specs.Usage.{traffic_in}
use Rattle.priced_plans.proofs.KeyFacts.{kind_in}
use Rattle.lagrange_bound.specs.Rounds.{moved_price}
use Rattle.lagrange_bound.proofs.MoveFacts.{kind_next, kind_room}
use Rattle.lagrange_bound.proofs.moves.move_prices.Goals as goal

pub move_rows-requires-clause-room : goal.move_rows-requires-clause-room
move_rows-requires-clause-room c =
    let parts = parts_of c.args.s.now in
    kind_room parts (moved_price parts (traffic_in c.args.loads.now) c.args.step) c.loop-at.at _
    c.args.prices.now c.loop-at.prices
    (kind_in _ c.loop-at.at _ c.price_kinds-kinds.ensures (omega (arith, c.loop-at-test.true)))
    c.requires.room c.loop-at.invariant

pub loop-at-preserved : goal.loop-at-preserved
loop-at-preserved c =
    let parts = parts_of c.args.s.now in
    kind_next parts (moved_price parts (traffic_in c.args.loads.now) c.args.step) c.loop-at.at _
    c.args.prices.now c.loop-at.prices c.move_rows.new.prices
    (kind_in _ c.loop-at.at _ c.price_kinds-kinds.ensures (omega (arith, c.loop-at-test.true)))
    c.loop-at.invariant c.move_rows.ensures
