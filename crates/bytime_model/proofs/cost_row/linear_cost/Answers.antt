use Rattle.std.proofs.Common.{◌≡◌, rules, subst, sym}
use Rattle.flow_types.specs.Costs.{plan_cost}
use Rattle.flow_types.specs.Scenario.{parts_of}
use Rattle.bytime_model.specs.CostRow.{priced_value}
use Rattle.bytime_model.specs.Rows.{AreCollected}
use Rattle.bytime_model.specs.Values.{value_at}
use Rattle.bytime_model.proofs.CostFacts.{plan_priced}
use Rattle.bytime_model.proofs.OnceFacts.{cost_collected}
use Rattle.bytime_model.proofs.cost_row.linear_cost.Goals as goal

pub returns-clause-row : goal.returns-clause-row
returns-clause-row c = search rules

pub returns-clause-collected : goal.returns-clause-collected
returns-clause-collected c =
    subst (λ row. AreCollected row.terms) (sym (returns-clause-row c))
    (cost_collected (parts_of c.args.s.now) c.args.s.now.valid)

pub returns-clause-cost : goal.returns-clause-cost
returns-clause-cost c = λ plan trips.
    let parts = parts_of c.args.s.now in
    subst (λ row. priced_value (value_at parts.flights plan) row
    ≡ plan_cost parts.tables parts.flights plan) (sym (returns-clause-row c))
    (plan_priced parts plan c.args.s.now.valid trips)
