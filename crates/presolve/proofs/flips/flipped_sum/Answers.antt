use Rattle.std.proofs.Common.{◌≡◌, ◌∙◌, ◌^◌, to_z, of_z, w64, rules, arith}
use Rattle.std.proofs.lemmas.Int.{ints}
use Rattle.exact_sums.proofs.SumFacts.{next_sum}
use Rattle.presolve.specs.Relaxed.{flipped_part}
use Rattle.presolve.proofs.TotalFacts.{flipped_small, next_room, size_part}
use Rattle.presolve.proofs.flips.flipped_sum.Goals as goal

pub plus-total-requires : goal.plus-total-requires
plus-total-requires c =
    let room = next_room (flipped_part c.args.flips.now) size_part
    (flipped_small c.args.flips.now) c.args.entries.now c.loop-entry.entry-index _ _
    c.if_flipped.result (2 ^ 62)
    c.loop-entry.invariant c.if_flipped.ensures c.loop-entry-test.true c.requires.small in
    omega (arith, ints, room)

pub loop-entry-preserved : goal.loop-entry-preserved
loop-entry-preserved c =
    let same : to_z w64 (of_z w64 c.if_flipped.result) ≡ c.if_flipped.result = search rules in
    let step = next_sum (flipped_part c.args.flips.now) c.args.entries.now
    c.loop-entry.entry-index _ _
    (to_z w64 (of_z w64 c.if_flipped.result)) c.plus-total.result c.loop-entry.invariant
    (same ∙ c.if_flipped.ensures) c.loop-entry-test.true c.plus-total.ensures in
    omega (arith, ints, step)
