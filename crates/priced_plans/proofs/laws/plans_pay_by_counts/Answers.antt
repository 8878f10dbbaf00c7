use Rattle.priced_plans.proofs.PayFacts.{counts-pay}
use Rattle.priced_plans.proofs.laws.plans_pay_by_counts.Goals as goal

pub returns : goal.returns
returns c = counts-pay
