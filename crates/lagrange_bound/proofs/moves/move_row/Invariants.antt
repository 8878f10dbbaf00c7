use Rattle.flow_types.specs.Scenario.{parts_of}
use Rattle.flight_routes.specs.Prices.{kind_number}
use Rattle.priced_plans.specs.Usage.{traffic_in}
use Rattle.lagrange_bound.specs.Moves.{AreMoved, is_in_row}
use Rattle.lagrange_bound.specs.Rounds.{moved_price}
use Rattle.lagrange_bound.proofs.moves.move_row.Given as goal

abbrev pub invariant-loop-period : goal.invariant-loop-period
invariant-loop-period l =
    AreMoved (parts_of l.s) (moved_price (parts_of l.s) (traffic_in l.loads) l.step)
    (is_in_row (kind_number l.kind) l.row l.period) l.initial.prices l.prices
