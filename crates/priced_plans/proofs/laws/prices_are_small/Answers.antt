use Rattle.priced_plans.proofs.SmallFacts.{free-small, set-small}
use Rattle.priced_plans.proofs.laws.prices_are_small.Goals as goal

pub returns-clause-free : goal.returns-clause-free
returns-clause-free c = free-small

pub returns-clause-set : goal.returns-clause-set
returns-clause-set c = set-small
