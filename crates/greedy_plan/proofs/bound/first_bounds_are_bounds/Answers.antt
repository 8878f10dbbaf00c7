use Rattle.greedy_plan.proofs.BoundFacts.{is_bound}
use Rattle.greedy_plan.proofs.bound.first_bounds_are_bounds.Goals as goal

pub returns : goal.returns
returns c = λ parts box bound is. is_bound parts box bound is
