use Rattle.flow_types.specs.Scenario.{parts_of}
use Rattle.plan_rules.specs.Loads.{IsMadeFor as AreLoadsFor}
use Rattle.price_ascent.proofs.leaning.count_all.Given as goal

abbrev pub invariant-loop-number : goal.invariant-loop-number
invariant-loop-number l = AreLoadsFor (parts_of l.s) l.loads
