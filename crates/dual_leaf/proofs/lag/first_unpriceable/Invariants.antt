use Rattle.flow_types.specs.Scenario.{parts_of}
use Rattle.dual_leaf.proofs.LagFacts.{ArePriceableTo}
use Rattle.dual_leaf.proofs.lag.first_unpriceable.Given as goal

abbrev pub invariant-loop-position : goal.invariant-loop-position
invariant-loop-position l = ArePriceableTo (parts_of l.s) l.rows l.position
