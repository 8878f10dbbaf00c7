use Rattle.std.proofs.Common.{◌≡◌, ◌∙◌, ◌^◌, to_z, of_z, w64, rules, arith}
use Rattle.std.proofs.lemmas.Int.{ints}
use Rattle.exact_sums.proofs.SumFacts.{next_sum}
use Rattle.presolve.proofs.TotalFacts.{above_part, above_small, next_room, size_part}
use Rattle.presolve.proofs.flips.greatest.Goals as goal

pub plus-total-requires : goal.plus-total-requires
plus-total-requires c =
    let room = next_room above_part size_part above_small c.args.entries.now
    c.loop-entry.entry-index _ _ c.above.result (2 ^ 62)
    c.loop-entry.invariant c.above.ensures c.loop-entry-test.true c.requires in
    omega (arith, ints, room)

pub loop-entry-preserved : goal.loop-entry-preserved
loop-entry-preserved c =
    let same : to_z w64 (of_z w64 c.above.result) ≡ c.above.result = search rules in
    let step = next_sum above_part c.args.entries.now c.loop-entry.entry-index _ _
    (to_z w64 (of_z w64 c.above.result)) c.plus-total.result c.loop-entry.invariant
    (same ∙ c.above.ensures) c.loop-entry-test.true c.plus-total.ensures in
    omega (arith, ints, step)
