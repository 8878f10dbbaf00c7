use Rattle.dual_leaf.proofs.LeafFacts.{leaf_bounds}
use Rattle.dual_leaf.proofs.laws.leaf_bounds_are_bounds.Goals as goal

pub returns : goal.returns
returns c = leaf_bounds
