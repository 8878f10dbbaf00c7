use Rattle.flow_types.specs.Scenario.{parts_of}
use Rattle.branch_tree.specs.declared.leaf.Leaf.TheVariants.{Lag}
use Rattle.dual_leaf.proofs.TellFacts.{lag-of, tells}
use Rattle.dual_leaf.proofs.listing.lag_leaf.Goals as goal

pub returns-clause-bound : goal.returns-clause-bound
returns-clause-bound c =
    tells (parts_of c.args.s.now) c.args.weight c.args.prices.now
    (Lag c.args.weight c.in_ok-rows.rows) c.requires.weight
    (lag-of (parts_of c.args.s.now) c.args.weight c.args.prices.now c.in_ok-rows.rows
    c.requires.prices c.in_ok-rows.ensures)
