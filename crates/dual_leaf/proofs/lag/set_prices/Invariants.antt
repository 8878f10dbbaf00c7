use Rattle.std.proofs.Common.{take}
use Rattle.flow_types.specs.Scenario.{parts_of}
use Rattle.dual_leaf.specs.Lag.{ArePricedBy}
use Rattle.dual_leaf.proofs.lag.set_prices.Given as goal

abbrev pub invariant-loop-at : goal.invariant-loop-at
invariant-loop-at l = ArePricedBy (parts_of l.s) (take l.at l.rows) l.prices
