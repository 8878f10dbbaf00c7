use Rattle.priced_plans.proofs.PartFacts.{bound-rises}
use Rattle.priced_plans.proofs.laws.prices_tell_no_less_in_parts.Goals as goal

pub returns : goal.returns
returns c = λ parts whole part weight table in_whole in_part inside.
    bound-rises parts whole part weight table inside in_whole in_part
