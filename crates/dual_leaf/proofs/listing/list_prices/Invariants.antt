use Rattle.flow_types.specs.Scenario.{parts_of}
use Rattle.dual_leaf.specs.Listing.{IsListed}
use Rattle.dual_leaf.proofs.listing.list_prices.Given as goal

abbrev pub invariant-loop-at : goal.invariant-loop-at
invariant-loop-at l = IsListed (parts_of l.s) l.prices l.at 0 0 l.rows
