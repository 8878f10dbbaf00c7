use Rattle.flow_types.specs.Scenario.{parts_of}
use Rattle.flight_routes.specs.Prices.{kind_number}
use Rattle.priced_plans.specs.Usage.{traffic_in}
use Rattle.lagrange_bound.specs.Moves.{AreMoved, is_in_rows}
use Rattle.lagrange_bound.specs.Rounds.{moved_price}
use Rattle.lagrange_bound.proofs.moves.move_rows.Given as goal

abbrev pub invariant-loop-row : goal.invariant-loop-row
invariant-loop-row l =
    AreMoved (parts_of l.s) (moved_price (parts_of l.s) (traffic_in l.loads) l.step)
    (is_in_rows (kind_number l.kind) l.row) l.initial.prices l.prices
