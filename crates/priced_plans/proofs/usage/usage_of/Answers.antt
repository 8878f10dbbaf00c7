use Rattle.std.proofs.Common.{◌∙◌}
use Rattle.flow_types.specs.Scenario.{parts_of}
use Rattle.priced_plans.proofs.UsageFacts.{limit_same, used_same}
use Rattle.priced_plans.proofs.usage.usage_of.Goals as goal

pub returns-clause-trips : goal.returns-clause-trips
returns-clause-trips c = λ trips are.
    let parts = parts_of c.args.s.now in
    let key = c.args.key in (
      c.loads_usage.ensures.used
          ∙ used_same parts trips c.args.loads.now are key.kind key.row key.period c.requires.key.0
          c.requires.key.1,
      c.loads_usage.ensures.limit
          ∙ limit_same parts trips c.args.loads.now are key.kind key.row key.period,
    )
