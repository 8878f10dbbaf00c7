use Rattle.flight_routes.specs.Prices.{price_in}
use Rattle.flight_routes.proofs.LaterFacts.{AddsLater}
use Rattle.flight_routes.proofs.later.add_later.Given as goal

abbrev pub invariant-loop-turns : goal.invariant-loop-turns
invariant-loop-turns l =
    AddsLater (price_in l.prices.turns l.connection) l.window.lo l.window.hi l.shift l.periods
    l.time
    l.sum l.fn.sums l.sums

abbrev pub decreases-loop-turns : goal.decreases-loop-turns
decreases-loop-turns l = l.time
