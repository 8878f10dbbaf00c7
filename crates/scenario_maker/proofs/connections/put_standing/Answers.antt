use Rattle.std.proofs.Common.{◌∙◌, refl, sym}
use Rattle.scenario_maker.proofs.TrafficFacts.{none_stand}
use Rattle.scenario_maker.proofs.connections.put_standing.Goals as goal

pub returns-clause-left : goal.returns-clause-left
returns-clause-left c =
    sym (none_stand c.args.count c.loop-connection.left.now (c.in_default.ensures.none refl))
    ∙ c.loop-connection.invariant.1
