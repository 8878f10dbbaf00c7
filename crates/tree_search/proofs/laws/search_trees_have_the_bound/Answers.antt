use Rattle.tree_search.proofs.SoundFacts.{record_tree}
use Rattle.tree_search.proofs.laws.search_trees_have_the_bound.Goals as goal

pub returns : goal.returns
returns c = record_tree
