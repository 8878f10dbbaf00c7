use Rattle.std.proofs.Common.{◌≡◌, ◌∙◌, ◌^◌, ap, get_or, pos, to_z, of_z, unsigned_abs, w64, rules, arith}
use Rattle.std.proofs.lemmas.Int.{ints}
use Rattle.std.specs.Int.{int_min}
use Rattle.exact_sums.proofs.SumFacts.{next_sum}
use Rattle.presolve.proofs.TotalFacts.{below_part, below_small, next_room}
use Rattle.presolve.proofs.costs.below_of.Goals as goal

pub plus-total-requires : goal.plus-total-requires
plus-total-requires c =
    let own : to_z w64 (of_z w64 (get_or c.args.values.now c.loop-value.value-index (pos 0)))
    ≡ get_or c.args.values.now c.loop-value.value-index (pos 0) = search rules in
    let room = next_room below_part unsigned_abs below_small c.args.values.now
    c.loop-value.value-index (pos 0) _ c.below.result
    (2 ^ 62) c.loop-value.invariant (c.below.ensures ∙ ap (int_min (pos 0)) own)
    c.loop-value-test.true c.requires in
    omega (arith, ints, room)

pub loop-value-preserved : goal.loop-value-preserved
loop-value-preserved c =
    let own : to_z w64 (of_z w64 (get_or c.args.values.now c.loop-value.value-index (pos 0)))
    ≡ get_or c.args.values.now c.loop-value.value-index (pos 0) = search rules in
    let same : to_z w64 (of_z w64 c.below.result) ≡ c.below.result = search rules in
    let step = next_sum below_part c.args.values.now c.loop-value.value-index (pos 0) _
    (to_z w64 (of_z w64 c.below.result)) c.plus-total.result c.loop-value.invariant
    (same ∙ c.below.ensures ∙ ap (int_min (pos 0)) own) c.loop-value-test.true
    c.plus-total.ensures in
    omega (arith, ints, step)
