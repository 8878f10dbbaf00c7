use Rattle.priced_plans.proofs.ValueFacts.{none-inside, value-below}
use Rattle.priced_plans.proofs.laws.priced_values_are_bounds.Goals as goal

pub returns-clause-value : goal.returns-clause-value
returns-clause-value c = λ parts box weight table value valid is plan kept.
    value-below parts box weight table value plan valid is kept.feasible kept.inside

pub returns-clause-none : goal.returns-clause-none
returns-clause-none c = λ parts box number within none plan kept.
    none-inside parts box number plan within none kept.feasible kept.inside
