use Rattle.flow_types.specs.Scenario.{parts_of}
use Rattle.priced_plans.specs.Usage.{traffic_in}
use Rattle.lagrange_bound.specs.Moves.{AreMoved, is_in_kinds}
use Rattle.lagrange_bound.specs.Rounds.{moved_price}
use Rattle.lagrange_bound.proofs.moves.move_prices.Given as goal

abbrev pub invariant-loop-at : goal.invariant-loop-at
invariant-loop-at l =
    AreMoved (parts_of l.s) (moved_price (parts_of l.s) (traffic_in l.loads) l.step)
    (is_in_kinds l.at) l.initial.prices l.prices
