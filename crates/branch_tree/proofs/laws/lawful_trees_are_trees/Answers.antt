use Rattle.branch_tree.specs.Lawful.{IsAnyNode}
use Rattle.branch_tree.proofs.LawfulFacts.{lawful_tree}
use Rattle.branch_tree.proofs.laws.lawful_trees_are_trees.Goals as goal

pub returns : goal.returns
returns c = λ parts. lawful_tree parts IsAnyNode
