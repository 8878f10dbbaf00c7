use Rattle.std.proofs.Common.{◌≡◌, ◌≤◌, ◌<◌, ℕ, Some, get_or}
use Rattle.flow_types.specs.Scenario.{flight_at, parts_of}
use Rattle.flight_routes.specs.Filling.{AreSmallAt, OnlyEnd}
use Rattle.flight_routes.specs.PriceRates.{end_value}
use Rattle.flight_routes.specs.RateLists.{rates_of}
use Rattle.flight_routes.specs.Rates.{rate_at}
use Rattle.flight_routes.proofs.price_rates.set_end.Given as goal

abbrev pub invariant-loop-time : goal.invariant-loop-time
invariant-loop-time l =
    ((t : ℕ) → l.fn.window.lo ≤ t → t < l.time → rate_at l.end (rates_of l.table) t
    ≡ Some (end_value l.end l.priced.weight l.priced.prices.now (parts_of l.priced.s.now)
    (flight_at l.priced.s.now l.priced.flight) t
    (get_or l.sums t 0)))
    × OnlyEnd l.end l.fn.table l.table
    × (AreSmallAt l.end l.fn.table → AreSmallAt l.end l.table)
