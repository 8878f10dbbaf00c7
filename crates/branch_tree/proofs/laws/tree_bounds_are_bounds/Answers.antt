use Rattle.branch_tree.proofs.LawfulFacts.{tree_bounds}
use Rattle.branch_tree.proofs.laws.tree_bounds_are_bounds.Goals as goal

pub returns : goal.returns
returns c = tree_bounds
