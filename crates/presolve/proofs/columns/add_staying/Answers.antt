use Rattle.exact_sums.proofs.LoopFacts.{numbers_more}
use Rattle.presolve.proofs.columns.add_staying.Goals as goal

pub loop-time-preserved : goal.loop-time-preserved
loop-time-preserved c = numbers_more c.loop-time.invariant c.in_ok-add_if_free.ensures
