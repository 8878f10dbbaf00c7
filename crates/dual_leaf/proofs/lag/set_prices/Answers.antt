use Rattle.flow_types.specs.Scenario.{parts_of}
use Rattle.dual_leaf.proofs.LagFacts.{step-set}
use Rattle.dual_leaf.proofs.lag.set_prices.Goals as goal

pub loop-at-preserved : goal.loop-at-preserved
loop-at-preserved c =
    step-set (parts_of c.args.s.now) c.args.rows.now c.loop-at.at _ c.loop-at.prices
    c.set_price.new.prices c.loop-at-test.true c.loop-at.invariant c.set_price.ensures
