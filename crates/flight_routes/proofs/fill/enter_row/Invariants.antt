use Rattle.std.proofs.Common.{ℕ, ◌≤◌, None, slice_index_or}
use Rattle.exact_sums.specs.Leasts.{IsLeast}
use Rattle.flight_routes.specs.RateLists.{rates_of}
use Rattle.flight_routes.specs.Ready.{row_of}
use Rattle.flight_routes.specs.Ways.{IsWayAmong, entered_cost, stop_at}
use Rattle.flight_routes.proofs.fill.enter_row.Given as goal

-- each slot is the least of the ways on by the legs so far
abbrev pub invariant-loop-at : goal.invariant-loop-at
invariant-loop-at l =
    (t : ℕ) → l.fn.window.lo ≤ t → t ≤ l.fn.window.hi
    → IsLeast (IsWayAmong l.ways.flight.now l.legs l.at (row_of l.ways.accesses.now)
    (rates_of l.ways.rates.now)
    (stop_at l.node t)) (entered_cost (rates_of l.ways.rates.now) (stop_at l.node t))
    (slice_index_or l.row t None)
