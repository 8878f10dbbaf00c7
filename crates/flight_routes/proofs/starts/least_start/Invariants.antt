use Rattle.std.proofs.Common.{◌<◌}
use Rattle.exact_sums.specs.Leasts.{IsLeast}
use Rattle.flight_routes.specs.RateLists.{rates_of}
use Rattle.flight_routes.specs.Ready.{row_of}
use Rattle.flight_routes.specs.Ways.{IsStart, start_cost}
use Rattle.flight_routes.proofs.starts.least_start.Given as goal

-- the least of the starts before this period
abbrev pub invariant-loop-time : goal.invariant-loop-time
invariant-loop-time l =
    IsLeast (λ t. IsStart (row_of l.ways.accesses.now) (rates_of l.ways.rates.now) l.cells t
    × (t < l.time))
    (start_cost (rates_of l.ways.rates.now) l.cells) l.least
