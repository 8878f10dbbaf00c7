use Rattle.plan_rules.proofs.FirstRules.{first_rule}
use Rattle.plan_rules.proofs.laws.first_broken_rules_are_first.Goals as goal

pub returns : goal.returns
returns c = first_rule
