use Rattle.dual_leaf.proofs.OneFacts.{leaf_one}
use Rattle.dual_leaf.proofs.laws.leaf_bounds_are_one.Goals as goal

pub returns : goal.returns
returns c = leaf_one
