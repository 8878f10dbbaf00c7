use Rattle.flow_types.specs.Scenario.{parts_of}
use Rattle.plan_rules.specs.Judge.{first_trips}
use Rattle.plan_rules.specs.Loads.{AreLoads}
use Rattle.plan_rules.proofs.judging.add_all.Given as goal

abbrev pub invariant-loop-at : goal.invariant-loop-at
invariant-loop-at l = AreLoads (parts_of l.s) (first_trips l.at l.plan) l.loads
