use Rattle.flow_types.specs.Scenario.{parts_of}
use Rattle.flight_routes.specs.Prices.{kind_number}
use Rattle.dual_leaf.specs.Listing.{IsListed}
use Rattle.dual_leaf.proofs.listing.list_row.Given as goal

abbrev pub invariant-loop-period : goal.invariant-loop-period
invariant-loop-period l =
    IsListed (parts_of l.s) l.prices (kind_number l.kind) l.row l.period l.rows
