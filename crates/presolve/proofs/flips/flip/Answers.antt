use Rattle.presolve.specs.Relaxed.{flipped_entry}
use Rattle.presolve.proofs.FlipFacts.{flip_more}
use Rattle.presolve.proofs.flips.flip.Goals as goal

pub loop-k-preserved : goal.loop-k-preserved
loop-k-preserved c =
    flip_more (flipped_entry c.args.flips.now) c.args.entries.now c.loop-k.entries c.loop-k.k _
    c.flipped.result c.loop-k.invariant c.loop-k-test.true c.flipped.ensures
