use Rattle.presolve.proofs.LeafFacts.{AreLeafRows}
use Rattle.presolve.proofs.leaf.leaf_of.Given as goal

abbrev pub invariant-loop-k : goal.invariant-loop-k
invariant-loop-k l = AreLeafRows l.kept l.multipliers l.k l.rows
