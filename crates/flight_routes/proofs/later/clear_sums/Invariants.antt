use Rattle.std.proofs.Common.{◌≡◌, ℕ, ◌<◌, ◌≤◌, get_or}
use Rattle.flight_routes.proofs.later.clear_sums.Given as goal

abbrev pub invariant-loop-time : goal.invariant-loop-time
invariant-loop-time l = (t : ℕ) → l.fn.window.lo ≤ t → t < l.time → get_or l.sums t 0 ≡ 0
