use Rattle.exact_sums.proofs.LoopFacts.{numbers_more}
use Rattle.presolve.proofs.columns.add_flight.Goals as goal

pub loop-node-preserved : goal.loop-node-preserved
loop-node-preserved c = numbers_more c.loop-node.invariant c.in_ok-add_node.ensures
