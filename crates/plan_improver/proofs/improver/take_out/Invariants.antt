use Rattle.flow_types.specs.Scenario.{parts_of}
use Rattle.plan_rules.specs.Loads.{IsMadeFor}
use Rattle.plan_improver.proofs.improver.take_out.Given as goal

abbrev pub invariant-loop-flight : goal.invariant-loop-flight
invariant-loop-flight l = IsMadeFor (parts_of l.s) l.loads
