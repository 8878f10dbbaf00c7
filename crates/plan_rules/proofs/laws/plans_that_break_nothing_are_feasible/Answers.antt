use Rattle.plan_rules.proofs.BrokenPlans.{feasible_from, feasible_to}
use Rattle.plan_rules.proofs.laws.plans_that_break_nothing_are_feasible.Goals as goal

pub returns : goal.returns
returns c = λ parts plan valid. (feasible_from parts plan, feasible_to parts plan valid)
