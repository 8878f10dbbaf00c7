use Rattle.relaxed_bound.proofs.RunFacts.{leaf_tells}
use Rattle.relaxed_bound.proofs.laws.run_leaves_tell_no_less.Goals as goal

pub returns : goal.returns
returns c = leaf_tells
