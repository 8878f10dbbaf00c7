use Rattle.std.proofs.Common.{◌<◌, ◌+◌, ◌-◌, ◌/◌, arith, length}
use Rattle.row_arena.proofs.PlaceFacts.{high_side, low_side}
use Rattle.row_arena.proofs.row.place_of.Goals as goal
use Rattle.row_arena.proofs.row.place_of.Goals.{then-row-low, else-row-low}

pub loop-count-preserved : goal.loop-count-preserved
loop-count-preserved c =
    let row = c.args.row.now in
    let low = c.loop-count.low in
    let count = c.loop-count.count in
    let some = c.loop-count-test.true in
    let within = c.loop-count.invariant.0 in
    let inside : low + count / 2 - 1 < length row = omega (arith, some, within) in
    elim c.if-row-low.branch [
      | then-row-low w ↦ rw w.low-is (
        omega (arith, within),
        (λ k d below. low_side row c.requires (low + count / 2 - 1) _ c.args.column inside
            w.if-row-low.true k d (omega (arith, below, some))),
        (λ k d above. c.loop-count.invariant.2 k d (omega (arith, above))),
      )
      | else-row-low w ↦ rw w.low-is (
        omega (arith, within),
        c.loop-count.invariant.1,
        (λ k d above. high_side row c.requires (low + count / 2 - 1) _ c.args.column inside
            w.if-row-low.false k d (omega (arith, above, some))),
      )
    ]
