use Rattle.flow_types.specs.Scenario.{parts_of}
use Rattle.branch_tree.specs.declared.leaf.Leaf.TheVariants.{Lag}
use Rattle.dual_leaf.proofs.TellFacts.{closes, lag-of}
use Rattle.dual_leaf.proofs.listing.closing_leaf.Goals as goal

pub returns-clause-closes : goal.returns-clause-closes
returns-clause-closes c =
    closes (parts_of c.args.s.now) c.args.prices.now (Lag 0 c.in_ok-rows.rows)
    (lag-of (parts_of c.args.s.now) 0 c.args.prices.now c.in_ok-rows.rows
    c.requires.prices c.in_ok-rows.ensures)
