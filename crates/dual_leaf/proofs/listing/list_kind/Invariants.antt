use Rattle.flow_types.specs.Scenario.{parts_of}
use Rattle.flight_routes.specs.Prices.{kind_number}
use Rattle.dual_leaf.specs.Listing.{IsListed}
use Rattle.dual_leaf.proofs.listing.list_kind.Given as goal

abbrev pub invariant-loop-row : goal.invariant-loop-row
invariant-loop-row l =
    IsListed (parts_of l.s) l.prices (kind_number l.kind) l.row 0 l.rows
