use Rattle.std.proofs.Common.{◌≡◌, ℕ, ◌<◌, ◌≤◌, None, slice_index_or}
use Rattle.flight_routes.specs.RateLists.{rates_of}
use Rattle.flight_routes.proofs.fill.arrive_row.Given as goal

abbrev pub invariant-loop-time : goal.invariant-loop-time
invariant-loop-time l =
    (t : ℕ) → l.fn.window.lo ≤ t → t < l.time
    → slice_index_or l.row t None ≡ (rates_of l.rates).arrives t
