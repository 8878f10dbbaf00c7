use Rattle.flow_types.specs.Scenario.{parts_of}
use Rattle.plan_rules.specs.Loads.{IsMadeFor}
use Rattle.plan_improver.proofs.improver.refuse.Given as goal

abbrev pub invariant-loop-offer : goal.invariant-loop-offer
invariant-loop-offer l = IsMadeFor (parts_of l.s) l.loads
