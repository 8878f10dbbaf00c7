use Rattle.std.proofs.Common.{refl, arith}
use Rattle.exact_sums.proofs.LoopFacts.{numbered_more}
use Rattle.bytime_model.proofs.visits.add_stands.Goals as goal

pub loop-node-preserved : goal.loop-node-preserved
loop-node-preserved c =
    numbered_more 0 (omega (arith, c.loop-node-test.true)) refl c.loop-node.invariant
    c.in_ok-add.ensures.ok
