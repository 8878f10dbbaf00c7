use Rattle.exact_sums.proofs.LoopFacts.{numbers_more}
use Rattle.cut_rows.proofs.pool.cut_names.Goals as goal

pub loop-index-preserved : goal.loop-index-preserved
loop-index-preserved c = numbers_more c.loop-index.invariant c.in_ok-add.ensures.ok
