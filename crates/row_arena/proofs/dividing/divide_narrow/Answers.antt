use Rattle.std.proofs.Common.{arith, ◌∙◌}
use Rattle.std.proofs.lemmas.List.{length-set}
use Rattle.row_arena.proofs.ReduceFacts.{narrow_step}
use Rattle.row_arena.proofs.dividing.divide_narrow.Goals as goal

pub loop-k-preserved : goal.loop-k-preserved
loop-k-preserved c =
    let within = c.loop-k-test.true in
    let same = c.loop-k.invariant.0 in
    let step = narrow_step c.args.divisor c.args.entries.now c.loop-k.entries c.loop-k.k
    c.narrow_quotient.result _ same (omega (arith, within, same)) c.loop-k.invariant.1
    c.loop-k.invariant.2 c.narrow_quotient.ensures in
    (length-set c.loop-k.entries c.loop-k.k c.narrow_quotient.result ∙ same, step.0, step.1)
