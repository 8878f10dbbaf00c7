use Rattle.branch_tree.proofs.TreeFacts.{AreLeft}
use Rattle.branch_tree.proofs.tree.is_tree.Given as goal

abbrev pub invariant-loop-node : goal.invariant-loop-node
invariant-loop-node l = AreLeft l.nodes l.node-index l.waiting
