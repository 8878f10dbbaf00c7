use Rattle.priced_plans.proofs.PayFacts.{feasible-pays}
use Rattle.priced_plans.proofs.laws.plans_pay_no_more_than_capacities.Goals as goal

pub returns : goal.returns
returns c = feasible-pays
