use Rattle.priced_plans.proofs.ValueFacts.{bound-below}
use Rattle.priced_plans.proofs.laws.priced_bounds_are_bounds.Goals as goal

pub returns : goal.returns
returns c = bound-below
